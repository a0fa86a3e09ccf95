pub mod Stack
pub mod Laws
