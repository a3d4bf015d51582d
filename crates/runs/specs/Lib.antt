pub mod Spots
pub mod Pricing
pub mod Order
pub mod Levels
pub mod Tying
pub mod Shortness
pub mod Dearest
