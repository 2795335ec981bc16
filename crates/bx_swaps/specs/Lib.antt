pub mod Exchanges
pub mod Telling
pub mod Tidying
