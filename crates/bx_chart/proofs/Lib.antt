pub mod Framing
pub mod Asking
pub mod Rowing
pub mod Arriving
