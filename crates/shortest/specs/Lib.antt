pub mod Shortest
pub mod Told
pub mod Rows
pub mod Halves
