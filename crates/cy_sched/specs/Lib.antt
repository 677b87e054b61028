pub mod private
pub mod FaultText
pub mod Format
pub mod Placing
pub mod Refusals
pub mod SchedFile
