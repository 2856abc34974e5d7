pub mod Dividing
pub mod Adding
