pub mod Relexed
pub mod Edges
pub mod PlainLines
pub mod Even
