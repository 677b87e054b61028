pub mod Complete
pub mod FrontWritten
pub mod Fronts
pub mod Left
