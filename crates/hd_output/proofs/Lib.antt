mod Held
mod Through
