pub mod private
pub mod Info
