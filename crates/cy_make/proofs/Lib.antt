pub mod MessageSteps
pub mod RecordText
pub mod Writing
pub mod Leaving
pub mod Rows
pub mod Short
pub mod TextRead
