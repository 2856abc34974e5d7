pub mod Chains
pub mod SizeTests
pub mod Counts
pub mod Judging
pub mod Present
pub mod Applying
pub mod Judged
