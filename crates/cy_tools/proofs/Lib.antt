pub mod Answering
pub mod Merges
pub mod Records
pub mod Searching
pub mod Texts
pub mod Working
