pub mod Grid
pub mod Force
pub mod Rows
pub mod Edits
pub mod Sound
pub mod Offers
