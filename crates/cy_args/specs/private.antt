pub mod OptionViews
pub mod Kept
pub mod Scan
pub mod Program
