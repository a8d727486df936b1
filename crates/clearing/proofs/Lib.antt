pub mod Marking
pub mod Spelling
pub mod Numbers
pub mod Lists
pub mod Single
pub mod Judging
