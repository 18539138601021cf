pub mod Kinds
pub mod Problems
pub mod Parts
pub mod Cuts
pub mod Headers
pub mod Calls
pub mod Fit
pub mod Meant
