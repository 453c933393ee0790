pub mod Frames
pub mod Answers
pub mod Requests
pub mod Hello
pub mod Services
pub mod Laws
pub mod Serves
