pub mod Bytes
pub mod Claims
pub mod Stands
