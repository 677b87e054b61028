pub mod Ends
pub mod Finding
pub mod Window
