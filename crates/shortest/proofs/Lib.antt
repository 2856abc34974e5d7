pub mod Sizes
pub mod Greatest
pub mod Filling
pub mod Splitting
pub mod Writing
pub mod Seeking
pub mod Answering
