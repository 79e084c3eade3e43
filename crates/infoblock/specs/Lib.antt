pub mod Claims
pub mod Info
