pub mod Decoding
pub mod Headers
pub mod Following
pub mod Filling
pub mod Standing
pub mod Walking
pub mod SoFar
pub mod Said
