pub mod SetLaws
pub mod HeldLaws
