pub mod Finding
pub mod Capping
pub mod Checking
pub mod Certified
