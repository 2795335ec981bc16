pub mod Words
pub mod Ends
pub mod Begun
pub mod Aside
pub mod Switching
pub mod Telling
pub mod Coming
pub mod Gathering
