pub mod GoalLaws
pub mod StepLaws
pub mod ArmMoves
pub mod ReachLaws
pub mod BlockMoves
pub mod ClearLaws
pub mod ForwardLaws
