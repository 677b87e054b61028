pub mod Filling
pub mod Found
pub mod Numbers
pub mod Pieces
pub mod ReadFront
pub mod Torn
