pub mod Faults
pub mod Bytes
pub mod Read
pub mod Write
pub mod Taken
pub mod Readers
