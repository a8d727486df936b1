pub mod Integers
pub mod Sums
pub mod Weighted
pub mod Products
pub mod Running
pub mod Searches
pub mod Least
pub mod Lowest
