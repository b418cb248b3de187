pub mod Reversing
pub mod Docs
pub mod Distinct
pub mod Copying
pub mod Parts
pub mod Comparing
pub mod Whole
pub mod OfValues
