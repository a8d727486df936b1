pub mod Counts
pub mod Sizes
pub mod Places
pub mod Bodies
pub mod Writing
pub mod Rewriting
pub mod Tails
pub mod Spelling
