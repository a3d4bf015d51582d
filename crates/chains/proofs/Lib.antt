pub mod State
pub mod Open
pub mod Tables
pub mod Reading
pub mod Forward
pub mod Reversed
