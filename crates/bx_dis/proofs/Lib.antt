pub mod Rows
pub mod Functions
