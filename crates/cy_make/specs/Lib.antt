pub mod private
pub mod Messages
pub mod Texts
pub mod Inputs
pub mod Drafts
