pub mod Messages
pub mod Hands
pub mod Together
pub mod Worked
pub mod Opening
pub mod Named
