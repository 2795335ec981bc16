pub mod Endings
pub mod Counted
pub mod Texts
pub mod Tallied
