pub mod Ordered
pub mod Placed
pub mod Keeping
