pub mod Lanes
pub mod Pending
pub mod Table
pub mod Worked
