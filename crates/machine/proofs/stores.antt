pub mod Kinds
pub mod MapStores
pub mod Members
pub mod Offsets
pub mod Once
pub mod Stores
