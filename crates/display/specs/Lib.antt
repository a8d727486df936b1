pub mod Rounding
pub mod Line
