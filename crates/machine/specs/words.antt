pub mod Records
pub mod InBytes
pub mod Valid
pub mod Running
pub mod Table
