pub mod Law
pub mod Bigger
pub mod Cases
