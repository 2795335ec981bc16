pub mod Loan
pub mod Rows
