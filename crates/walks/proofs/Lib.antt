pub mod ArmLaws
pub mod Measure
pub mod TurnLaws
pub mod VisitLaws
pub mod OrderLaws
pub mod RootLaws
pub mod GraphLaws
