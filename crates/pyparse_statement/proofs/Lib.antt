pub mod Callers
mod Commas
mod Recorders
