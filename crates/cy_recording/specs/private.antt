pub mod RecordSteps
pub mod Unlike
pub mod Pieces
pub mod Stored
pub mod Noted
pub mod Keeping
pub mod Judging
