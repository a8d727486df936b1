pub mod Best
pub mod Coming
pub mod Gaps
pub mod Laws
pub mod Idle
pub mod Promise
pub mod Single
pub mod Playing
