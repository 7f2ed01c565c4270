pub mod ReachedLaws
pub mod StartLaws
