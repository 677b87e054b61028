pub mod Answers
pub mod Valued
pub mod FaultText
