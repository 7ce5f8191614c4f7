pub mod Members
pub mod ShownLaw
pub mod Nodes
