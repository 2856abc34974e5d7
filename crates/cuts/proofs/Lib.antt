pub mod Writing
pub mod Finishing
pub mod Answering
