pub mod CallCounts
pub mod Pairs
pub mod SummaryLine
