pub mod Words
pub mod Points
pub mod Classes
pub mod Rows
pub mod Arrows
pub mod Lanes
pub mod Sheets
pub mod Charts
