pub mod Numbers
pub mod Stopped
