pub mod Pushed
pub mod Listed
