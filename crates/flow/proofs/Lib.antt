pub mod SoundLaws
pub mod ScanLaws
pub mod PartLaws
