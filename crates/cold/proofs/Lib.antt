pub mod SideLaws
pub mod PartLaws
pub mod WayLaws
pub mod SweepLaws
pub mod LinkLaws
pub mod SpreadLaws
