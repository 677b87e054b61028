pub mod AllPlayed
pub mod Choosing
pub mod InOrder
pub mod Numbering
pub mod Sorting
pub mod Ticking
pub mod Wired
