pub mod KeptCalls
pub mod Fronts
