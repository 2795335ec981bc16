pub mod Chains
pub mod Mails
pub mod Taking
pub mod Adding
pub mod Rows
pub mod Histories
pub mod Crossing
pub mod Emptying
