-- The laws of places.
use Rattle.pyplaces.specs.Laws.{Count, Tokens, Nested, Apart, InOrder, PlacesAreLawful}
use Rattle.pyplaces.proofs.Laws.Blocks.{count_formed, count_module}
use Rattle.pyplaces.proofs.Laws.FormTokens.{tokens_form}
use Rattle.pyplaces.proofs.Laws.Nested.{rooted}
use Rattle.pyplaces.proofs.Laws.PatternNested.{rooted_pattern, rooted_simple}
use Rattle.pyplaces.proofs.Laws.FormApart.{laminar_form}
use Rattle.pyplaces.proofs.Laws.InOrder.{in_order}

pub count : Count
count spans profile s m a = count_module spans a

pub tokens : Tokens
tokens profile inside ts f d = let r = tokens_form d in (r.before.are, r.following.are, r.suite.are)

pub nested : Nested
nested = record {
  expressions = λ l ts e at d. rooted at d;
  patterns = λ l ts p at d. rooted_pattern at d;
  statements = λ profile ts s at d. rooted_simple at d;
}

pub apart : Apart
apart profile inside ts f d = (laminar_form d).are

pub ordered : InOrder
ordered spans profile earlier forms xs f l lo hi ss b o = in_order b (count_formed spans f) o

pub places_are_lawful : PlacesAreLawful
places_are_lawful = record { count = count; tokens = tokens; nested = nested; apart = apart; ordered = ordered }
