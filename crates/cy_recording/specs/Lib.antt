pub mod private
pub mod RecordLaws
pub mod Recording
pub mod Compare
