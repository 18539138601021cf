pub mod Checked
pub mod Recorded
pub mod Fits
pub mod InTurn
pub mod Parsed
