pub mod Waiting
pub mod Turns
pub mod Channels
pub mod Handing
pub mod Rows
pub mod Weights
