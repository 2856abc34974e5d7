pub mod Sweep
pub mod Progress
pub mod Promise
