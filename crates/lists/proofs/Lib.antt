pub mod Weights
pub mod Totals
pub mod Places
pub mod Renamed
