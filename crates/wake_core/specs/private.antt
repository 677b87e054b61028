pub mod Owing
pub mod Opening
pub mod Sent
pub mod Delivery
pub mod NextCall
pub mod Shown
