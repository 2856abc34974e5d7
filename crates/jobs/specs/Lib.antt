pub mod Packing
pub mod Rows
pub mod Kinds
pub mod JudgeRows
pub mod Job
pub mod Read
