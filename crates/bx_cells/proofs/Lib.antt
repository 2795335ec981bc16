pub mod Cells
pub mod Stacks
pub mod Catching
pub mod Writing
pub mod StackRows
pub mod Linked
pub mod Crossing
pub mod Listed
