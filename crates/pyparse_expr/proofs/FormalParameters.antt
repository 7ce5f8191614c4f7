-- Parameters, and `lambda`.
pub mod Formals
pub mod FormalNodes
pub mod SignatureHeights
pub mod ParameterParts
pub mod ParameterSteps
