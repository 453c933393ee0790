pub mod Sizes
pub mod Extents
pub mod Parts
pub mod Changes
pub mod Laws
pub mod Found
pub mod Walk
pub mod Lent
