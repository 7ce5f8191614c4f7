mod ListingLemmas
mod StreamLemmas
mod TreeLemmas
mod WalkLemmas
