pub mod Faults
pub mod Serving
pub mod Output
