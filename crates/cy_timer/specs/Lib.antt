pub mod Laws
pub mod Merged
pub mod Ticks
pub mod Timers
pub mod private
