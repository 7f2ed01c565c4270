pub mod Blocks
pub mod Outcomes
