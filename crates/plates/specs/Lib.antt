pub mod Blocks
pub mod Faults
pub mod Links
pub mod Lists
pub mod Meanings
pub mod TwoWays
pub mod Soundness
