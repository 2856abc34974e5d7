pub mod Words
pub mod Families
pub mod Image
pub mod Prepared
pub mod Summed
pub mod Promise
pub mod Rows
