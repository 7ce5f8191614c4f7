-- Parameters.
pub mod FormalSteps
pub mod FormalNodes
