pub mod Renaming
pub mod Searching
pub mod Expanding
pub mod Least
pub mod Answering
