pub mod Promise
pub mod Grown
