pub mod private
pub mod Joined
pub mod Salvage
