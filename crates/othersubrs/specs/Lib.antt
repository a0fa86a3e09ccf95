pub mod OtherSubrs
pub mod Laws
