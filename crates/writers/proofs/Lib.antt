pub mod Leftovers
pub mod LineCounts
pub mod Listing
pub mod Placing
pub mod PlanLimits
