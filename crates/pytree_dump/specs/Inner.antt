pub mod Branches
pub mod Definitions
pub mod Nodes
pub mod Pieces
pub mod Weights
