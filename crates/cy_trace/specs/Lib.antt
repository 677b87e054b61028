pub mod private
pub mod CallCount
pub mod Cuts
pub mod LineParts
pub mod Taking
pub mod Tapes
pub mod TraceForm
pub mod TraceOfRun
