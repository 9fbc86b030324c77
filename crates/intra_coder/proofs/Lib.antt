pub mod StripeLaws
pub mod Standing
pub mod LumaLaws
pub mod Luma16Laws
pub mod ChromaLaws
pub mod MacroblockLaws
pub mod FlatLaws
