pub mod Courses
pub mod Keeping
pub mod Exchanges
pub mod Moving
pub mod Reaching
pub mod Lacking
