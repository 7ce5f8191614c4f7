-- What is kept of the terminals of a line.
use Rattle.std.proofs.Common.{◌≡◌, refl, ap, false, List, [], ◌++◌, Option, Some, None, append_assoc, append-nil}
use Rattle.std.specs.Prelude.{is_some}
use Rattle.pyparse_marks.specs.Spans.{Span, added, emptied}

-- what is kept of some terminals and then of others is kept of all
pub added_both : (kept : Option (List Span)) (xs ys : List Span) → added (added kept xs) ys ≡ added kept (xs ++ ys)
unfolding added
added_both None xs ys = refl
added_both (Some before) xs ys = ap Some (append_assoc before xs ys)

pub added_none : (kept : Option (List Span)) → added kept [] ≡ kept
unfolding added
added_none None = refl
added_none (Some before) = ap Some (append-nil before)

-- where spans are kept, those of another line are
pub kept_anew : (kept : Option (List Span)) (xs ys : List Span) → kept ≡ Some xs → added (emptied kept) ys ≡ Some ys
unfolding added emptied
kept_anew None xs ys h = absurd (cc)
kept_anew (Some before) xs ys h = refl

-- where nothing is kept, nothing is added
pub nothing_added : (kept : Option (List Span)) (more : List Span) → is_some kept ≡ false → kept ≡ added kept more
unfolding added
nothing_added None more h = refl
nothing_added (Some before) more h = absurd (cc)
