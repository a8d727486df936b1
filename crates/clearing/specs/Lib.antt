pub mod Faults
pub mod Marks
pub mod Files
pub mod Verdicts
