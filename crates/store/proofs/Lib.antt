pub mod Calls
pub mod Copies
pub mod Kept
pub mod Pages
pub mod Seams
