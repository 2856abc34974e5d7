pub mod Sweeps
pub mod Swept
