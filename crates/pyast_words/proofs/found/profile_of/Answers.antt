use Rattle.pyast_words.proofs.found.profile_of.Goals as goal

pub returns : goal.returns
returns c = record {
  newer = c.version_of.ensures;
  whole = c.extent_of.ensures;
}
