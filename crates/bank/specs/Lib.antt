pub mod Bank
pub mod Call
pub mod Laws
pub mod Examples
