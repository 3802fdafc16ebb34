pub mod Cache
pub mod Laws
