pub mod Table
pub mod Check
pub mod Told
pub mod Working
pub mod Promise
pub mod Rows
