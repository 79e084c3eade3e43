pub mod Claims
pub mod Transcript
