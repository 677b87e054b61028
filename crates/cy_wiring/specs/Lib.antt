pub mod private
pub mod Given
pub mod Triggers
pub mod Wiring
