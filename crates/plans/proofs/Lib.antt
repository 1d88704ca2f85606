pub mod Entering
pub mod Fairness
pub mod LawfulPlans
pub mod VectorLists
