pub mod Sets
pub mod Member
pub mod Words
pub mod Laws
pub mod Order
