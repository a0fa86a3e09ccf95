pub mod Equal
pub mod Steps
