pub mod Turned
pub mod Handing
pub mod Lines
pub mod Maps
pub mod Listed
pub mod Paired
pub mod Crossing
pub mod Weights
