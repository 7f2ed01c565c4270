pub mod Marked
pub mod Behind
