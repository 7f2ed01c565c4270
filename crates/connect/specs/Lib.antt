pub mod Joined
pub mod Links
pub mod Following
