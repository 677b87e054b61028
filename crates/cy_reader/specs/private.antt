pub mod Alone
pub mod Kept
pub mod Front
pub mod Loading
pub mod Uniting
