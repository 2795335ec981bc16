pub mod Earliest
pub mod Mailings
pub mod Parted
