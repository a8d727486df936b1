pub mod Reading
pub mod Keeping
pub mod Breaking
pub mod Proving
