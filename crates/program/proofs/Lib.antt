pub mod Meant
pub mod Held
pub mod Outlets
pub mod Tables
pub mod Offsets
pub mod Iterations
