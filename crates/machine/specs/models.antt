pub mod Row
pub mod Book
