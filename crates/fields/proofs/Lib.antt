pub mod Values
pub mod Runs
pub mod Exact
pub mod Printed
