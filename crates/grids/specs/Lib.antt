pub mod Cells
pub mod Extents
pub mod Places
pub mod Shifts
pub mod Vectors
pub mod WideRows
