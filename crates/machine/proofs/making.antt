pub mod FreshMap
pub mod FreshBytes
pub mod FreshWords
pub mod FreshValid
pub mod Making
