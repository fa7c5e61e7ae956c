pub mod Arguments
pub mod Readers
pub mod Steps
