pub mod CutLaws
pub mod LookLaws
pub mod SiftLaws
pub mod SpanLaws
