pub mod ForthBack
pub mod Numbers
pub mod RowCells
pub mod RowChunks
pub mod SameVectors
pub mod Sizes
pub mod Steps
pub mod WidestRows
