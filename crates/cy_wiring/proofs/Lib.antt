pub mod GivenSteps
pub mod NameSteps
pub mod PairSteps
pub mod TriggerCycles
pub mod TriggerSteps
pub mod WireSteps
pub mod WiringFacts
