pub mod Book
pub mod LentBytes
pub mod Made
pub mod Marked
pub mod OutOfOrder
pub mod Run
pub mod Sloppy
