pub mod PartLaws
pub mod BlockLaws
pub mod StripeLaws
pub mod InOrderLaws
pub mod ZeroLaws
pub mod ChromaLaws
pub mod PatternLaws
pub mod NoLevels
