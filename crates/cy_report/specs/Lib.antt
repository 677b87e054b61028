pub mod CheckText
pub mod Summary
