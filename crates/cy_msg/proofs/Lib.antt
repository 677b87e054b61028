pub mod OnceSteps
pub mod Quoting
pub mod Lists
