pub mod Equality
pub mod Found
pub mod GuardBifLemmas
pub mod OpcodeLemmas
pub mod RowLemmas
