pub mod private
pub mod Play
