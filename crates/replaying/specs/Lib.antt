pub mod Claims
pub mod Exhibit
pub mod Gave
pub mod Ledger
pub mod Ran
pub mod Replay
