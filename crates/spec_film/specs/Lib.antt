pub mod Padding
pub mod Films
pub mod Places
pub mod Cropping
pub mod Written
pub mod Over
