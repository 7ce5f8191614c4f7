-- What records where nodes stand: the spans of the terminals of the line that is read, the spans so far, and those that are set aside.
use Rattle.std.specs.Prelude.{◌≡◌, ℕ, List, [], ◌∷◌, ◌++◌}
use Rattle.pyplaces.specs.Stretches.{Span, Stretch, span_of}
pub use Rattle.pyparse_marks.specs.Spans.{told}

pub record Recording : Type 0 where
  pub marks : List Span
  pub spans : List Span
  pub aside : List Span

abbrev pub recording : List Span → List Span → List Span → Recording
recording marks spans aside = record { marks = marks; spans = spans; aside = aside }

-- after the place of one node more
abbrev pub recorded : Recording → Stretch → Recording
recorded w s = recording w.marks (w.spans ++ span_of w.marks s ∷ []) w.aside

-- after one more that is set aside
abbrev pub put_aside : Recording → Stretch → Recording
put_aside w s = recording w.marks w.spans (w.aside ++ span_of w.marks s ∷ [])

-- with the same marks and no spans
abbrev pub emptied : Recording → Recording
emptied w = recording w.marks [] []

-- a recorder after some places
abbrev pub afters : {S : Type 0} → (S → Stretch → S) → S → List Stretch → S
afters after w [] = w
afters after w (s ∷ ss) = afters after (after w s) ss

-- it has recorded some places more
pub record Records {S : Type 0} (after : S → Stretch → S) (old : S) (ps : List Stretch) (new : S) : Type 0 where
  pub is : new ≡ afters after old ps

-- All that is set aside after n others is recorded, in front of what is recorded from then on; where the two are exchanged, what is
-- recorded is set aside.
pub record Moves {S : Type 0} (after beside : S → Stretch → S) (count : S → ℕ) (n : ℕ) (old new : S) : Type 0 where
  pub is : (w : S) (ps : List Stretch) → old ≡ afters beside w ps → n ≡ count w → new ≡ afters after w ps

-- it has recorded some places more, and set others aside
pub record Kept {S : Type 0} (after beside : S → Stretch → S) (old : S) (ps qs : List Stretch) (new : S) : Type 0 where
  pub is : new ≡ afters beside (afters after old ps) qs

-- a node at one stretch is recorded as one at another is
pub record Alike {S : Type 0} (after : S → Stretch → S) (s t : Stretch) : Type 0 where
  pub is : (w : S) → after w s ≡ after w t

-- What P says of x with some places it says of y, with those recorded since after them: a step of a loop, and the whole loop.
abbrev pub Carried : {S A : Type 0} → (S → Stretch → S) → (A → List Stretch → Type 0) → A → A → S → S → Type 0
Carried after P x y old new = (ps : List Stretch) → P x ps → (qs : List Stretch) × P y (ps ++ qs) × Records after old qs new
