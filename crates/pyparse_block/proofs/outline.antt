mod Forgetting
mod LevelLemmas
mod DepthLemmas
mod OutlineLemmas
