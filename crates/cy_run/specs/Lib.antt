pub mod private
pub mod Passes
pub mod Playing
pub mod Working
pub mod Driving
pub mod Running
