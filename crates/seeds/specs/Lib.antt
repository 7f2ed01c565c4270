pub mod Reached
pub mod Starts
