pub mod private
pub mod Laws
pub mod Parts
pub mod Telling
pub mod TraceText
