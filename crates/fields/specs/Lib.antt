pub mod Bytes
pub mod Parts
pub mod Grammar
pub mod Reading
pub mod Record
pub mod Within
pub mod Tags
