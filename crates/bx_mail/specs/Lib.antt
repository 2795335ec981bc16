pub mod Mail
pub mod Slots
pub mod Joined
pub mod History
