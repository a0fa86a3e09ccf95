pub mod QuantizeLaws
pub mod Fixed
pub mod Casts
pub mod Pushes
