pub mod DigitLaws
pub mod PutLaws
pub mod LineLaws
pub mod LoopLaws
pub mod ListingLaws
