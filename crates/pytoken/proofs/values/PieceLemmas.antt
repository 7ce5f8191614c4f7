-- Carries: TextPiece::fault, TextPiece::value. On: what stands in a text of an f-string.
use Rattle.std.proofs.Common.{◌≡◌, ℕ, true, false, List, refl, ap}
use Rattle.std.specs.List.{flat_map}
use Rattle.pyfstring.specs.Singles.{single}
use Rattle.pytoken.specs.Escapes.{meanings, points_in}
use Rattle.pytoken.specs.StringValues.{with_line_feeds}
use Rattle.pytoken.specs.FormattedStrings.{TextPart, text_meanings, text_points}
use Rattle.pytoken.specs.Inner.Readings.{body_points}

pub without_pairs : (p : TextPart) (cs : List ℕ) → p.has_pairs ≡ false → cs ≡ with_line_feeds p.source
    → meanings p.is_raw false cs ≡ text_meanings p
unfolding text_meanings
without_pairs p cs none is = rw (none, is) refl

pub with_pairs : (p : TextPart) (made cs : List ℕ) → p.has_pairs ≡ true → made ≡ single p.is_raw p.source → cs ≡ with_line_feeds made →
    meanings p.is_raw false cs ≡ text_meanings p
unfolding text_meanings
with_pairs p made cs some is kept = rw (some, kept, is) refl

pub same_points : (p : TextPart) (cs : List ℕ) → meanings p.is_raw false cs ≡ text_meanings p
    → body_points p.is_raw false cs ≡ text_points p
unfolding text_points
same_points p cs same = ap (flat_map points_in) same
