use Rattle.std.proofs.Common.{codes, sym, subst}
use Rattle.clap.specs.Matches.{found_of}
use Rattle.clap.specs.Walk.{one_of, rows_of}
use Rattle.pyast_words.specs.Words.{IsFlag}
use Rattle.pyast_words.proofs.WordsLemmas.{not_not}
use Rattle.pyast_words.proofs.found.dump_of.Goals as goal

pub returns-clause-given : goal.returns-clause-given
returns-clause-given c = record {
  indent = c.in_ok-indent_of.ensures.given;
  bare = subst (IsFlag (one_of (codes "bare") (rows_of (found_of c.args.matches.now)))) (sym (not_not c.flag_of.result)) c.flag_of.ensures;
  attributes = c.flag_of-attributes.ensures;
  profile = c.profile_of.ensures;
  show = c.flag_of-show.ensures;
  source = c.in_ok-file.ensures.given;
}
