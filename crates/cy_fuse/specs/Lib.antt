pub mod private
pub mod Fusion
pub mod Fetch
pub mod Cache
pub mod Visitor
pub mod Laws
