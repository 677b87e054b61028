pub mod Origins
pub mod TapeRecord
pub mod TapeText
mod Fieldless
mod Unlikes
mod Kept
mod Keeps
mod Seen
mod Ends
