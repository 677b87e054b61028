pub mod Adding
pub mod TapeLines
pub mod OutsAfter
pub mod Kept
pub mod Summaries
