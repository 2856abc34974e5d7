pub mod Block
pub mod Sums
