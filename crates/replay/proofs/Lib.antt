pub mod Bounds
pub mod Laws
pub mod Suffices
pub mod Transcripts
