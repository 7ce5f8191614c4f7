mod CapLemmas
