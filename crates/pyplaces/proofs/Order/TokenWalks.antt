-- The spans of a token fill its bytes.
--
-- Carries: token_fills, for LineSpans. On: Walks, FormattedWalks.
use Rattle.std.proofs.Common.{◌≡◌, refl, sym, ap, ◌∙◌, ℕ, ◌+◌, ◌-◌, ◌≤◌, arith, Bool, true, false, List, [], ◌++◌}
use Rattle.std.proofs.Common.{append_assoc, take, drop, length, Option, Some, None}
use Rattle.std.specs.Prelude.{if◌then◌else◌, option_map}
use Rattle.std.proofs.lemmas.List.{take-append-drop}
use Rattle.pylex_lexeme.specs.Chars.{bytes_in}
use Rattle.pylex_lexeme.specs.Strings.{begins_three}
use Rattle.pylex_listing.specs.declared.kind.Kind.{Kind}
use Rattle.pyfstring.specs.declared.parts.Manner.{Manner}
use Rattle.pyfstring.specs.Parts.{BodyPart}
use Rattle.pyfstring.proofs.Callers.Law.{cut_of_sound}
use Rattle.pytree_node.specs.declared.profiles.Extent.TheVariants.{Whole}
use Rattle.pytoken.specs.StringValues.{with_line_feeds, prefix_len_of, is_raw, after_opening, body_of}
use Rattle.pytoken.specs.declared.faults.TokenError.TheVariants.{FString}
use Rattle.pytoken.specs.FormattedStrings.{Element, is_fstring, elements_of, elements_fault}
use Rattle.pytoken.specs.Terminals.{fault_of, is_faulty}
use Rattle.pytoken.proofs.Callers.Singles.{of_formatted}
use Rattle.pyparse_marks.specs.Spans.{Span, span}
use Rattle.pyparse_marks.specs.TokenSpans.{Walk, put, further, moved, past_single, past_expression, around, opening_len, past_cut, parts_of}
use Rattle.pyparse_marks.specs.TokenSpans.{past_body_parts, past_formatted, past_token_by, past_nested, token_spans}
use Rattle.pyplaces.proofs.Order.Entries.{bytes_both}
use Rattle.pyplaces.proofs.Order.Filling.{Fills, one_fills}
use Rattle.pyplaces.proofs.Order.Walks.{Fine, Passes, fine_put, fine_on, fine_over, expression_fine}
use Rattle.pyplaces.proofs.Order.FormattedWalks.{Stands, body_stands}

-- ---- An f-string is its opening, its body, and its closing quotes.

split_at : (n : ℕ) (cs : List ℕ) → cs ≡ take n cs ++ drop n cs
split_at n cs = sym (take-append-drop n cs)

record Opened (t : List ℕ) : Type 0 where
  opening : List ℕ
  closing : List ℕ
  is : t ≡ opening ++ (body_of t ++ closing)
  size : opening_len t ≡ bytes_in opening

opened : (t : List ℕ) → Opened t
opened t =
    let p = prefix_len_of t in
    let after = drop p t in
    let width = if begins_three after then 3 else 1 in
    let inside = after_opening t in
    let n = length inside - width in
    let front = take p t ++ take width after in
    let one : t ≡ front ++ inside =
    split_at p t ∙ ap (λ z. take p t ++ z) (split_at width after) ∙ sym (append_assoc (take p t) (take width after) inside) in
    let bytes : bytes_in t ≡ bytes_in front + bytes_in inside = ap bytes_in one ∙ bytes_both front inside in
    record {
      opening = front;
      closing = drop n inside;
      is = one ∙ ap (λ z. front ++ z) (split_at n inside);
      size = omega (arith, bytes);
    }

-- ---- Tokens in some bytes.

module _ (lo hi : ℕ) (first : Span) where
  single_passes : Passes lo hi first past_single
  single_passes k t w f a = (fine_over lo hi first (bytes_in t) w f a, refl)

  -- inside an f-string that has a cut, after its first span
  inside_fine : (token : Kind → List ℕ → Walk → Walk) → Passes lo hi first token → (is_nested : Bool) (t : List ℕ) (w : Walk)
      (ps : List BodyPart) → parts_of is_nested t ≡ Some ps → lo ≤ w.at → w.at + bytes_in t ≤ hi
      → Fine lo hi first (put (span w.at (w.at + bytes_in t)) w)
      → (let whole = span w.at (w.at + bytes_in t) in
      let ended = past_body_parts (past_expression token) (around t w) ps (further (opening_len t) (put whole w)) in
      Fine lo hi first (put whole ended) × (ended.at ≤ w.at + bytes_in t))
  inside_fine token passes is_nested t w ps is low high f =
      let o = opened t in
      let m : Manner = record { is_raw = is_raw (with_line_feeds t); is_nested = is_nested } in
      let whole = span w.at (w.at + bytes_in t) in
      let begun = further (opening_len t) (put whole w) in
      let size : bytes_in t ≡ bytes_in o.opening + bytes_in (body_of t ++ o.closing) =
      ap bytes_in o.is ∙ bytes_both o.opening (body_of t ++ o.closing) in
      let stands : Stands lo hi first t o.closing w.at low high (body_of t) begun = record {
        fine = fine_on lo hi first (w.at + opening_len t) (put whole w) f (omega arith) (omega (arith, high, size, o.size));
        at = record { before = o.opening; is = o.is; here = omega (arith, o.size) };
      } in
      let ended = past_body_parts (past_expression token) (around t w) ps begun in
      let following = body_stands lo hi first t o.closing w.at low high (past_expression token)
      (λ x n u g b c. expression_fine lo hi first token passes x n u g b c) m (body_of t) ps
      (cut_of_sound m (body_of t) ps is) begun stands in
      let there = following.at in
      let all : bytes_in t ≡ bytes_in there.before + bytes_in o.closing =
      ap bytes_in there.is ∙ bytes_both there.before o.closing in (
        fine_put lo hi first whole ended following.fine low (omega (arith, there.here)) (omega (arith, there.here, all)) high,
        omega (arith, there.here, all),
      )

  token_passes : (token : Kind → List ℕ → Walk → Walk) → Passes lo hi first token → (is_nested : Bool)
      → Passes lo hi first (past_token_by is_nested token)
  unfolding past_formatted
  token_passes token passes is_nested k t w f a = by (is_fstring k t)
    where
      step : Bool → Walk
      step b = if b then past_formatted is_nested token t w else past_single k t w

      cut : (o : Option (List BodyPart)) → parts_of is_nested t ≡ o
          → Fine lo hi first (moved (w.at + bytes_in t) (past_cut (past_expression token) (around t w) (opening_len t) o w))
      cut None is = fine_on lo hi first (w.at + bytes_in t) w f (omega arith) a
      cut (Some ps) is =
          let whole = span w.at (w.at + bytes_in t) in
          let ended = past_body_parts (past_expression token) (around t w) ps (further (opening_len t) (put whole w)) in
          let i = inside_fine token passes is_nested t w ps is f.begins a
          (fine_put lo hi first whole w f f.begins (omega arith) (omega arith) a) in
          fine_on lo hi first (w.at + bytes_in t) (put whole ended) i.0 i.1 a

      by : (b : Bool) → Fine lo hi first (step b) × ((step b).at ≡ w.at + bytes_in t)
      by true = (cut (parts_of is_nested t) refl, refl)
      by false = single_passes k t w f a

  nested_passes : Passes lo hi first past_nested
  nested_passes = token_passes past_single single_passes true

-- ---- A token.

malformed : (test : List ℕ → Bool) (t : List ℕ) (f : List BodyPart → List Element) (o : Option (List BodyPart)) → o ≡ None
    → elements_fault test t (option_map f o) ≡ None → ⊥
unfolding elements_fault
malformed test t f None is h = absurd (let e : Some FString ≡ None = h in cc)
malformed test t f (Some ps) is h = absurd cc

no_cut : (t : List ℕ) → parts_of false t ≡ None → elements_fault is_faulty t (elements_of false t) ≡ None → ⊥
unfolding elements_of
no_cut t is h = malformed is_faulty t _ (parts_of false t) is h

-- a token without a fault
pub token_fills : (at : ℕ) (k : Kind) (t : List ℕ) → fault_of Whole k t ≡ None → Fills at (at + bytes_in t) (token_spans at k t)
unfolding token_spans past_formatted
token_fills at k t none = by (is_fstring k t) refl
  where
    start : Walk
    start = record { at = at; spans = [] }

    whole : Span
    whole = span at (at + bytes_in t)

    cut : (o : Option (List BodyPart)) → is_fstring k t ≡ true → parts_of false t ≡ o
        → Fills at (at + bytes_in t) (past_cut (past_expression past_nested) (around t start) (opening_len t) o start).spans
    cut None string is = absurd (no_cut t is (sym (of_formatted k t string) ∙ none))
    cut (Some ps) string is =
        let hi = at + bytes_in t in
        let f : Fine at hi whole (put whole start) = record {
          begins = omega arith;
          ends = omega arith;
          later = [];
          begun = refl;
          inside = (record { begins = omega arith; forward = omega arith; ends = omega arith }, tt);
          starts = (omega arith, tt);
          rises = (tt, tt);
        } in
        let ended = past_body_parts (past_expression past_nested) (around t start) ps (further (opening_len t) (put whole start)) in
        let i = inside_fine at hi whole past_nested (nested_passes at hi whole) false t start ps is (omega arith) (omega arith) f in
        let g = i.0 in
        record {
          first = whole;
          later = g.later;
          from_first = g.begun;
          begins = refl;
          last = whole;
          earlier = ended.spans;
          to_last = refl;
          ends = refl;
          inside = g.inside;
          rises = g.rises;
        }

    by : (b : Bool) → is_fstring k t ≡ b
        → Fills at (at + bytes_in t) (if b then past_formatted false past_nested t start else past_single k t start).spans
    by true is = cut (parts_of false t) is refl
    by false is = one_fills at (at + bytes_in t) (omega arith)
