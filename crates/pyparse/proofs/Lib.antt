mod TokenListLemmas
mod PlacedLemmas
mod PlacedEnds
