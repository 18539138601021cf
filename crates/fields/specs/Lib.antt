pub mod Problems
pub mod Numbers
pub mod Places
pub mod Justified
