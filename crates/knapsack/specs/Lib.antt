pub mod Items
pub mod Knapsack
pub mod Packings
