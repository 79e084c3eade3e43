pub mod Claims
pub mod Columns
pub mod Fletcher
pub mod Plain
