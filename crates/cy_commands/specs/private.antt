pub mod CheckEnds
pub mod KeptEnds
pub mod MakeEnds
pub mod MergeEnds
pub mod PlayWrites
pub mod Unset
pub mod VerifyEnds
