pub mod Delivering
pub mod Filled
pub mod Played
pub mod Mustered
pub mod Posted
pub mod Led
