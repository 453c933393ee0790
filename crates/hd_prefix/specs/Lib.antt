pub mod Pointers
pub mod Fields
pub mod Layouts
pub mod Laws
