pub mod Point
pub mod Scalar
pub mod Names
pub mod Value
pub mod Forms
pub mod Values
