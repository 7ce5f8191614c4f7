-- Going over a token, each step puts spans between its ends, none of which ends before an earlier one begins.
--
-- Carries: Fine and its steps, for FormattedWalks, TokenWalks. On: Filling.
use Rattle.std.proofs.Common.{◌≡◌, refl, ap, ◌∙◌, ℕ, ◌+◌, ◌<◌, ◌≤◌, arith, Bool, true, false, cond, List, [], ◌∷◌, ◌++◌}
use Rattle.std.specs.List.{flat_map}
use Rattle.pylex_lexeme.specs.Chars.{bytes_in}
use Rattle.pylex_lexeme.specs.Lexemes.{Lexeme, cut, left_by_cut}
use Rattle.pylex_listing.specs.declared.kind.Kind.{Kind}
use Rattle.pylex_listing.specs.EntryKinds.{kind_of}
use Rattle.pylex_listing.proofs.Callers.{is_cut}
use Rattle.pyfstring_tokens.specs.FieldTokens.{is_gap}
use Rattle.pyparse_marks.specs.Spans.{Span, span}
use Rattle.pyparse_marks.specs.TokenSpans.{Walk, put, further, moved, over, past_each, past_lexeme, past_expression}
use Rattle.pyplaces.specs.Spans.{AllLieBetween}
use Rattle.pyplaces.proofs.Order.Entries.{bytes_both}
use Rattle.pyplaces.proofs.Order.Filling.{Starts, Rises, starts_later, starts_both, rises_both, all_both}

-- a walk between two bytes, whose first span is this
pub record Fine (lo hi : ℕ) (first : Span) (w : Walk) : Type 0 where
  pub begins : lo ≤ w.at
  pub ends : w.at ≤ hi
  pub later : List Span
  pub begun : w.spans ≡ first ∷ later
  pub inside : AllLieBetween lo hi w.spans
  pub starts : Starts w.at w.spans
  pub rises : Rises w.spans

module _ (lo hi : ℕ) (first : Span) where
  -- one span more, which begins here or before, and ends here or after
  pub fine_put : (s : Span) (w : Walk) → Fine lo hi first w → lo ≤ s.start → s.start ≤ w.at → w.at ≤ s.stop → s.stop ≤ hi
      → Fine lo hi first (put s w)
  fine_put s w f a b c d = record {
    begins = f.begins;
    ends = f.ends;
    later = f.later ++ (s ∷ []);
    begun = ap (λ z. z ++ (s ∷ [])) f.begun;
    inside = all_both lo hi w.spans (s ∷ []) f.inside (record { begins = a; forward = omega (arith, b, c); ends = d }, tt);
    starts = starts_both w.at w.spans (s ∷ []) f.starts (b, tt);
    rises = rises_both w.at w.spans (s ∷ []) f.rises (tt, tt) f.starts (c, tt);
  }

  -- further on
  pub fine_on : (n : ℕ) (w : Walk) → Fine lo hi first w → w.at ≤ n → n ≤ hi → Fine lo hi first (moved n w)
  fine_on n w f a b = record {
    begins = omega (arith, f.begins, a);
    ends = b;
    later = f.later;
    begun = f.begun;
    inside = f.inside;
    starts = starts_later w.at n w.spans a f.starts;
    rises = f.rises;
  }

  pub fine_over : (n : ℕ) (w : Walk) → Fine lo hi first w → w.at + n ≤ hi → Fine lo hi first (over n w)
  fine_over n w f a =
      fine_on (w.at + n) (put (span w.at (w.at + n)) w)
      (fine_put (span w.at (w.at + n)) w f f.begins (omega arith) (omega arith) a) (omega arith) a

  -- ---- The expression of a field.

  -- past a token that has so many bytes
  abbrev pub Passes : (Kind → List ℕ → Walk → Walk) → Type 0
  Passes token = (k : Kind) (t : List ℕ) (w : Walk) → Fine lo hi first w → w.at + bytes_in t ≤ hi
      → Fine lo hi first (token k t w) × ((token k t w).at ≡ w.at + bytes_in t)

  abbrev text_of : List Lexeme → List ℕ
  text_of xs = flat_map (λ x. x.text) xs

  lexemes_fine : (token : Kind → List ℕ → Walk → Walk) → Passes token → (xs : List Lexeme) (w : Walk) → Fine lo hi first w
      → w.at + bytes_in (text_of xs) ≤ hi
      → Fine lo hi first (past_each (past_lexeme token) xs w)
      × ((past_each (past_lexeme token) xs w).at ≡ w.at + bytes_in (text_of xs))
  lexemes_fine token passes [] w f a = (f, omega arith)
  lexemes_fine token passes (x ∷ xs) w f a =
      let size = bytes_both x.text (text_of xs) in
      let here = one (is_gap x.«class») (omega (arith, a, size)) in
      let next = past_lexeme token x w in
      let more = lexemes_fine token passes xs next here.0 (omega (arith, a, size, here.1)) in
      (more.0, omega (arith, more.1, here.1, size))
    where
      step : Bool → Walk
      step b = cond b (further (bytes_in x.text) w) (token (kind_of x.«class» true) x.text w)

      one : (b : Bool) → w.at + bytes_in x.text ≤ hi → Fine lo hi first (step b) × ((step b).at ≡ w.at + bytes_in x.text)
      one true a = (fine_on (w.at + bytes_in x.text) w f (omega arith) a, refl)
      one false a = passes (kind_of x.«class» true) x.text w f a

  -- the expression of a field, after which one moves on, and there is one byte more at least
  pub expression_fine : (token : Kind → List ℕ → Walk → Walk) → Passes token → (t : List ℕ) (n : ℕ) (w : Walk) → Fine lo hi first w
      → w.at + (1 + bytes_in t) ≤ n → n < hi → Fine lo hi first (moved n (past_expression token t w))
  unfolding past_expression
  expression_fine token passes t n w f a b =
      let xs = cut t in
      let whole : bytes_in t ≡ bytes_in (text_of xs) + bytes_in (left_by_cut t) =
      ap bytes_in (is_cut t).joined ∙ bytes_both (text_of xs) (left_by_cut t) in
      let begun = over 1 w in
      let inside = lexemes_fine token passes xs begun (fine_over 1 w f (omega (arith, a, b))) (omega (arith, a, b, whole)) in
      let ended = past_each (past_lexeme token) xs begun in
      let last = span ended.at (ended.at + 1) in
      let e = inside.0 in
      let put_last = fine_put last ended e e.begins (omega arith) (omega arith) (omega (arith, a, b, whole, inside.1)) in
      fine_on n (put last ended) put_last (omega (arith, a, whole, inside.1)) (omega (arith, b))
