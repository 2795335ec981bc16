pub mod Spellable
pub mod Writable
pub mod ReadBack
