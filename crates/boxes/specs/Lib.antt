pub mod Box
pub mod Window
pub mod Answers
pub mod Points
pub mod Order
pub mod Extent
