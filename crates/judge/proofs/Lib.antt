pub mod Lanes
pub mod Parts
pub mod Rules
pub mod Words
