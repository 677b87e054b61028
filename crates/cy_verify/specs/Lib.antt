pub mod Verdict
pub mod private
