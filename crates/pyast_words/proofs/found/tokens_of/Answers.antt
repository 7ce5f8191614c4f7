use Rattle.pyast_words.proofs.found.tokens_of.Goals as goal

pub returns-clause-given : goal.returns-clause-given
returns-clause-given c = record {
  exact = c.flag_of-exact.ensures;
  count = c.in_ok-count.ensures.given;
  resume = c.in_ok-resume.ensures.given;
  well_formed = c.in_ok-resume.ensures.well_formed;
  source = c.in_ok-file.ensures.given;
}
