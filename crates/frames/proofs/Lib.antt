pub mod Codes
pub mod Splitting
pub mod Sums
pub mod Framing
pub mod Values
pub mod Spelling
pub mod Rereading
