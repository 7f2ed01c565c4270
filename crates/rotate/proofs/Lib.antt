pub mod PlaceLaws
pub mod BackLaws
pub mod OutLaws
pub mod RotateLaws
pub mod TurnLaws
