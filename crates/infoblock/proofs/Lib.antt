pub mod InfoBlock
pub mod Signed
pub mod Stored
pub mod InBytes
pub mod FreshBlock
