pub mod Growing
pub mod Held
pub mod Rounds
