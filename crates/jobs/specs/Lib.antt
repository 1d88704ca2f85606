pub mod Entries
pub mod Faults
pub mod Files
pub mod Heads
pub mod Jobs
pub mod Steps
