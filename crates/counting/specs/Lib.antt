pub mod Calls
pub mod Under
pub mod Counted
pub mod Whole
