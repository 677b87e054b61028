pub mod Alone
pub mod Slides
pub mod Taking
pub mod Answering
pub mod Ends
pub mod Rowing
pub mod Holding
pub mod Rising
pub mod Searching
mod Fieldless
