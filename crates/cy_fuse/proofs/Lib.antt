mod Fieldless
pub mod Fetched
pub mod Fusing
pub mod Mapped
pub mod Joined
pub mod Arrivals
