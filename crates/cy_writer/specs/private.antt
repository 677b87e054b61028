pub mod Counted
pub mod Whole
pub mod Steps
pub mod Places
