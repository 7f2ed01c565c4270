pub mod TraceLaws
pub mod HeadLaws
pub mod LinkLaws
pub mod FollowLaws
pub mod JoinLaws
