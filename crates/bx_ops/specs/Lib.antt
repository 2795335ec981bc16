pub mod Classes
pub mod GuardBifs
pub mod Opcodes
pub mod Rows
pub mod Table
