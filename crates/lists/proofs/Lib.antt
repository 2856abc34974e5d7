pub mod Passed
pub mod Slices
