pub mod CallsView
pub mod Rows
pub mod Searches
pub mod Class
pub mod Keeping
pub mod Sums
pub mod Parts
