pub mod Chain
pub mod Sizes
pub mod Judge
pub mod Apply
