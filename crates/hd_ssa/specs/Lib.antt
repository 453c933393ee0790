pub mod Texts
pub mod Comparisons
pub mod LeastKeys
pub mod EqualKeys
pub mod Questions
pub mod Named
pub mod AtOnce
