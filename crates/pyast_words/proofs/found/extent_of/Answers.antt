use Rattle.std.proofs.Common.{codes, subst}
use Rattle.clap.specs.Matches.{found_of}
use Rattle.clap.specs.Walk.{one_of, rows_of}
use Rattle.pyast_words.specs.Words.{IsFlag}
use Rattle.pyast_words.proofs.found.extent_of.Goals as goal

pub returns-then-flag_of : goal.returns-then-flag_of
returns-then-flag_of c =
    subst (IsFlag (one_of (codes "whole") (rows_of (found_of c.args.matches.now)))) c.if-flag_of.true c.flag_of.ensures

pub returns-else-flag_of : goal.returns-else-flag_of
returns-else-flag_of c =
    subst (IsFlag (one_of (codes "whole") (rows_of (found_of c.args.matches.now)))) c.if-flag_of.false c.flag_of.ensures
