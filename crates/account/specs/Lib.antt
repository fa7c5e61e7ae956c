pub mod Lines
pub mod Tallies
pub mod Inspecting
pub mod Listed
