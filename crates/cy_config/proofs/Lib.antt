pub mod CheckSteps
pub mod EntrySteps
pub mod Loops
pub mod Sizes
pub mod TallySteps
