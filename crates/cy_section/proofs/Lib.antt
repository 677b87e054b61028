pub mod Texts
pub mod Numbers
pub mod Bodies
pub mod Indexes
pub mod Lengths
