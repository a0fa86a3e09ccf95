pub mod PointLaws
pub mod Theorems
pub mod Examples
pub mod WindowLaws
pub mod ExtentLaws
pub mod BoxLaws
