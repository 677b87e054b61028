pub mod private
pub mod Cutting
pub mod Found
pub mod Heads
pub mod Sections
pub mod Stands
pub mod Tiling
