pub mod BlockText
pub mod Fits
pub mod Lengths
pub mod Payloads
pub mod PictureBytes
