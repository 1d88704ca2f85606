pub mod Distinct
pub mod Killing
