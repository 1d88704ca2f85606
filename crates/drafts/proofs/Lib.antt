pub mod Chunks
pub mod Turns
