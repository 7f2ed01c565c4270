pub mod RefusedLaws
pub mod BlockLaws
pub mod ArmLaws
pub mod PanicLaws
pub mod ReadLaws
