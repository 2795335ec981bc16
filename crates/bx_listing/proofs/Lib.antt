mod Known
mod Lemmas
pub mod Stores
pub mod Placed
pub mod Places
pub mod Elements
pub mod Readings
pub mod LiteralRows
pub mod Dropped
pub mod Forms
pub mod FormLoop
pub mod GoodReadings
pub mod Loops
pub mod BifParts
pub mod Worded
pub mod FormsOf
pub mod Written
pub mod ListedTerms
pub mod ListedOperands
pub mod ListedSlots
pub mod ListedItems
pub mod ListedForms
pub mod ListedHeads
pub mod Listed
pub mod FirstFaults
pub mod Fitting
pub mod Left
