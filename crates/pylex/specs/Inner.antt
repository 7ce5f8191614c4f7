pub mod Told
pub mod Chunked
pub mod MachineSteps
pub mod LineLayouts
pub mod LineStarting
pub mod Plain
pub mod LineSteps
