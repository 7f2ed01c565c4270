pub mod MarkLaws
pub mod HeadLaws
