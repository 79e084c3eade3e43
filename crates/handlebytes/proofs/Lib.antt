pub mod Records
pub mod Round
pub mod Whole
