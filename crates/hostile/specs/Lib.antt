pub mod Wide
pub mod Trials
