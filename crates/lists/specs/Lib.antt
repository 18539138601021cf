pub mod Weights
pub mod Places
pub mod Renamed
