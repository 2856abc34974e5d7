pub mod Finishing
pub mod Answering
