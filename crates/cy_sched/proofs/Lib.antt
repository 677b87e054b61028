pub mod Contexts
pub mod Counts
pub mod Refused
pub mod Repeats
pub mod Scans
