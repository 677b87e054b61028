pub mod Classes
pub mod ConfigFile
pub mod DagFile
pub mod FaultText
pub mod Format
pub mod Options
pub mod Refusals
pub mod Values
