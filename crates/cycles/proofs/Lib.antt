pub mod InwardLaws
pub mod GatherLaws
pub mod PieceLaws
pub mod StandingLaws
