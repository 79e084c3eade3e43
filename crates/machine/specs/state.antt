pub mod Answer
pub mod Lane
pub mod Handle
pub mod Stores
pub mod Flog
