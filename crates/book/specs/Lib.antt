pub mod Pages
pub mod Promise
pub mod Kept
pub mod Made
