pub mod Ending
pub mod Counting
pub mod Tallying
