pub mod Left
pub mod Sources
