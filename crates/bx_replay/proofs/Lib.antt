pub mod Rows
pub mod Pairs
pub mod Prefixes
pub mod Stretches
pub mod Keeps
pub mod Turning
pub mod Bringing
pub mod Carrying
