pub mod Claims
pub mod Opened
pub mod Put
pub mod Replay
pub mod Text
