pub mod Cut
pub mod Opened
