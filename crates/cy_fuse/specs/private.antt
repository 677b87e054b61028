pub mod Arriving
pub mod Caching
pub mod Joining
pub mod Holding
pub mod Visiting
