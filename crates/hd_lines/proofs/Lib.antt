mod LineCuts
pub mod Parts
