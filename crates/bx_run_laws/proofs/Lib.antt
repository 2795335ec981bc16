pub mod Attempted
pub mod Deeds
pub mod Mailed
pub mod Numbered
pub mod PartReports
pub mod Parting
pub mod Removed
