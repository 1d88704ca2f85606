mod Due
pub mod Instances
mod Lengths
mod Parts
mod SixColumns
mod Spelling
pub mod Whole
