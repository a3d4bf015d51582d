pub mod Readings
pub mod Ranges
