pub mod Refusals
pub mod Steps
pub mod Feet
pub mod Networked
pub mod Jumping
pub mod Settling
pub mod Determined
