pub mod Cipher
pub mod Cursor
pub mod Charstring
pub mod Laws
