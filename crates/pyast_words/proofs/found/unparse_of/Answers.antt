use Rattle.pyast_words.proofs.found.unparse_of.Goals as goal

pub returns-clause-given : goal.returns-clause-given
returns-clause-given c = record {
  profile = c.profile_of.ensures;
  show = c.flag_of-show.ensures;
  source = c.in_ok-file.ensures.given;
}
