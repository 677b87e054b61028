pub mod Shifts
pub mod LastHeld
pub mod Places
