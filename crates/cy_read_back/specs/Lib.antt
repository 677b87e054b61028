pub mod Sections
pub mod Records
pub mod Fronts
pub mod BrokenOff
pub mod Puts
