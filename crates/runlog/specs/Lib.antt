pub mod Claims
pub mod Log
pub mod Record
