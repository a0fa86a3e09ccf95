pub mod Outline
pub mod Store
