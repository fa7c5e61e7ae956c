pub mod Asked
pub mod Piles
