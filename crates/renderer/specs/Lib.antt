pub mod Machine
pub mod Operators
pub mod Held
pub mod Reader
pub mod Reads
