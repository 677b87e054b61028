pub mod private
pub mod FaultText
pub mod Load
pub mod Named
pub mod Record
pub mod Said
pub mod United
