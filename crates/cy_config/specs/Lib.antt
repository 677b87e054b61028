pub mod private
pub mod Checks
pub mod Kinds
pub mod Lookups
pub mod Refusals
pub mod Tables
