pub mod Order
pub mod Judging
pub mod Making
pub mod Opening
pub mod Reading
pub mod Writing
pub mod History
pub mod Asides
