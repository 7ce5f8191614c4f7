pub mod WalkLemmas
pub mod OneToOne
