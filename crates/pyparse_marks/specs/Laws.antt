-- What holds of the spans of terminals.
use Rattle.std.specs.Prelude.{◌≡◌, ℕ, true, List, None, length}
use Rattle.std.specs.Str.{all_scalars}
use Rattle.pylex_listing.specs.declared.kind.Kind.{Kind}
use Rattle.pytree_node.specs.declared.profiles.Extent.TheVariants.{Whole}
use Rattle.pytoken.specs.Terminals.{terminals_of, fault_of}
use Rattle.pyparse_marks.specs.TokenSpans.{token_spans}

-- A token of Unicode characters without a fault has a span for each of its terminals.
abbrev pub EachHasSpan : Type 0
EachHasSpan = (at : ℕ) (k : Kind) (t : List ℕ) → all_scalars t ≡ true → fault_of Whole k t ≡ None
    → length (token_spans at k t) ≡ length (terminals_of k t)
