pub mod Forwards
pub mod Steps
