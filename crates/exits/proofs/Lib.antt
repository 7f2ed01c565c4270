pub mod Steps
pub mod Decisions
pub mod LeftArms
pub mod Adding
pub mod Laying
pub mod Turns
pub mod Parts
pub mod Finished
