pub mod Tells
pub mod InTurn
pub mod Passes
pub mod Left
pub mod Checked
pub mod Whole
pub mod Recorded
