pub mod Fit
pub mod Filled
pub mod View
