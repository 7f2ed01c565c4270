pub mod Spans
pub mod Looks
