pub mod Inward
pub mod Gathering
pub mod Pieces
