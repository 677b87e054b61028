pub mod private
pub mod Laws
pub mod LineOrder
pub mod LineReading
pub mod Numerals
