pub mod private
pub mod Answer
pub mod Causes
pub mod Kept
pub mod Laws
pub mod Merging
pub mod Tools
