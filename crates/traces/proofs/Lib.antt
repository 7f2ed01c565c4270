pub mod HeldLaws
pub mod GrowLaws
pub mod AddLaws
pub mod FillLaws
pub mod RoundLaws
pub mod JoinLaws
