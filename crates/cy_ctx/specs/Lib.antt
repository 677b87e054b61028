pub mod Note
pub mod Scan
