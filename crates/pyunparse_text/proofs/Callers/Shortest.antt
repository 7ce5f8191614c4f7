-- On: expressions, targets, parameters and arguments are written in the fewest tokens that give
-- them, with no more brackets open at once than they are high.
--
-- Carries: what pyunparse cites.
use Rattle.std.proofs.Common.{◌≤◌, List, ◌++◌, subst}
use Rattle.pytree_node.specs.Trees.{Exprs, Keywords}
use Rattle.pytoken.specs.Terminals.{Terminal}
use Rattle.pygrammar.specs.declared.levels.Level.TheVariants.{Named}
use Rattle.pygrammar.specs.Entries.{Entry, Argument}
use Rattle.pygrammar.specs.Arguments.{positional, keywords}
use Rattle.pygrammar.specs.Grammar.{Listing}
use Rattle.pygrammar.specs.OpenStrings.{token_count}
use Rattle.pygrammar.specs.ArgumentLists.{AreArguments}
use Rattle.pygrammar.proofs.Callers.Law.{reader_is_exact}
use Rattle.pyunparse_text.specs.Written.{listed, each, by_name}
use Rattle.pyunparse_text.specs.Terminals.{terminal, terminals}
use Rattle.pyunparse_text.specs.Laws.{ExpressionsAreShortest, ExpressionsComeBack, TargetsAreShortest, ParametersAreShortest}
use Rattle.pyunparse_text.specs.Laws.{ArgumentsAreShortest}
use Rattle.pyunparse_text.specs.Laws.{BracketsAreWithinHeight}
use Rattle.pyunparse_text.proofs.Fewest.Induction.{fewest}
use Rattle.pyunparse_text.proofs.Fewest.Places.{target_law, single_target_law, del_target_law, item_target_law, parameters_law, bases_law}
use Rattle.pyunparse_text.proofs.Fewest.Flat.{brackets_height}

pub expressions_are_shortest : ExpressionsAreShortest
expressions_are_shortest l ts e p = record { gives = (fewest p).0; least = λ us q. (fewest q).1 }

pub expressions_come_back : ExpressionsComeBack
expressions_come_back l e = (
  λ given. (reader_is_exact l (terminals l e) e).0 (fewest given.1).0,
  λ read. (terminals l e, (reader_is_exact l (terminals l e) e).1 read),
)

pub targets_are_shortest : TargetsAreShortest
targets_are_shortest ts s = record {
  target = λ p. record { gives = (target_law p).0; least = λ us q. (target_law q).1 };
  single = λ p. record { gives = (single_target_law p).0; least = λ us q. (single_target_law q).1 };
  del = λ p. record { gives = (del_target_law p).0; least = λ us q. (del_target_law q).1 };
  item = λ p. record { gives = (item_target_law p).0; least = λ us q. (item_target_law q).1 };
}

pub parameters_are_shortest : ParametersAreShortest
parameters_are_shortest annotated ts a p = record {
  gives = record { entries = p.entries; listing = (parameters_law p.listing p.arranged_as).0; arranged_as = p.arranged_as };
  least = λ us q. (parameters_law q.listing q.arranged_as).1;
}

-- the arguments that some list gives are written
record Argued (us : List Terminal) (es : Exprs) (ks : Keywords) : Type 0 where
  gives : AreArguments (listed terminal (each terminal Named es ++ by_name terminal ks)) (es, ks)
  short : token_count (listed terminal (each terminal Named es ++ by_name terminal ks)) ≤ token_count us

argued_from : {us : List Terminal} {fs : List Entry} → Listing Argument us fs → Argued us (positional fs) (keywords fs)
argued_from p = let (entries, listing, order, same_args, same_keywords, short) = bases_law p in record {
  gives = record { entries = entries; listing = listing; order = order; positional_are = same_args; keywords_are = same_keywords };
  short = short;
}

argued : {us : List Terminal} {es : Exprs} {ks : Keywords} → AreArguments us (es, ks) → Argued us es ks
argued {us} {es} {ks} p =
    let from : Argued us (positional p.entries) (keywords p.entries) = argued_from p.listing in
    subst (λ es. Argued us es ks) p.positional_are (subst (λ ks. Argued us (positional p.entries) ks) p.keywords_are from)

pub arguments_are_shortest : ArgumentsAreShortest
arguments_are_shortest ts es ks p = record { gives = (argued p).gives; least = λ us q. (argued q).short }

pub brackets_are_within_height : BracketsAreWithinHeight
brackets_are_within_height = brackets_height
