pub mod Renumber
pub mod Exact
pub mod Expand
pub mod Told
pub mod Search
pub mod Rows
