pub mod Salvaging
pub mod Uniting
