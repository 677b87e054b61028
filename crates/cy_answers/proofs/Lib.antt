pub mod Answering
pub mod Valued
