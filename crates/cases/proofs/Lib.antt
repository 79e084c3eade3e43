pub mod Lanes
pub mod Pending
pub mod Rows
