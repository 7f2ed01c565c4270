pub mod Sides
pub mod Ways
pub mod Sweeps
pub mod Spreading
