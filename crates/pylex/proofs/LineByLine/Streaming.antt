-- A lister that reads line by line: what it finds in the lines that it
-- holds it finds in the source.
--
-- Carries: Lined, stands_whole, utf8_after, finds_whole and 1 more, for Stepping,
-- Reading. On: Carried, Lined.
use Rattle.std.proofs.Common.{◌≡◌, ◌≢◌, ◌⊎◌, inl, inr, ⊎_elim, ℕ, ◌+◌, ◌≤◌, Bool, true, false, ◌||◌, ◌==◌, List, [], ◌++◌, length, refl, ap}
use Rattle.std.proofs.Common.{sym, ◌∙◌, subst, append-nil, length-append, arith, Option}
use Rattle.std.specs.Prelude.{option_map}
use Rattle.std.specs.Str.{chars, IsUtf8}
use lib.Utf8.{encodes}
use Rattle.pylex.specs.Inner.LineSteps.{Stops, lacks}
use Rattle.std.proofs.lemmas.Str.{encodes-chars, chars-append, IsUtf8-append, IsUtf8-drop, IsCharBoundary-from_take}
use Rattle.std.proofs.Math.Seq.{take-append_seam, drop-append_seam}
use Rattle.pysource.specs.declared.faults.LineFault.{LineFault}
use Rattle.pylex.specs.declared.peeked.Peeked.{Peeked}
use Rattle.pylex.specs.declared.peeked.Peeked.TheVariants as peeked
use Rattle.pylex.specs.declared.line_state.LineState.{LineState}
use Rattle.pylex_lexeme.specs.Chunks.{EndsLine}
use Rattle.pylex_lexeme.specs.Lexemes.{is_open_string}
use Rattle.pylex_listing.specs.Listing.{of_line}
use Rattle.pylex_listing.specs.Machine.{remaining}
use Rattle.pylex.specs.LineState.{Peek, HasRoom, Stands, with_levels}
use Rattle.pylex.proofs.LineByLine.Carried.{finds_carried, stop_carried, comes_lines, remaining_carried}
use Rattle.pylex.proofs.LineByLine.Lined.{remaining_any}

-- what follows a text within a text is text
pub utf8_after : (front back : List ℕ) → IsUtf8 (front ++ back) → IsUtf8 front → IsUtf8 back
utf8_after front back u v =
    let n = length front in
    let le : n ≤ length (front ++ back) = omega (arith, length-append front back) in
    let cut = IsCharBoundary-from_take (front ++ back) n u le (subst IsUtf8 (sym (take-append_seam front back)) v) in
    subst IsUtf8 (drop-append_seam front back) (IsUtf8-drop (front ++ back) n u cut)

-- what is left are whole lines, or nothing follows it
abbrev pub Lined : List ℕ → List ℕ → Type 0
Lined left coming = (EndsLine (chars left) ⊎ (chars left ≡ [])) ⊎ (coming ≡ [])

-- no literal is open where something is left
pub not_lacking : (left : List ℕ) → IsUtf8 left → lacks left ≡ false → (chars left ≢ []) × (is_open_string (chars left) ≡ false)
not_lacking left u h = (λ e. some left u e h, closed (length left == 0) (is_open_string (chars left)) h)
  where
    closed : (a b : Bool) → (a || b) ≡ false → b ≡ false
    closed true b h = absurd (let f : true ≡ false = h in cc)
    closed false b h = h

    some : (left : List ℕ) → IsUtf8 left → chars left ≡ [] → lacks left ≡ false → ⊥
    some left u e h = let n : left ≡ [] = sym (encodes-chars left u) ∙ ap encodes e in let f : true ≡ false = ap lacks (sym n) ∙ h in cc

abbrev Settled : Peeked → List ℕ → List ℕ → Option LineFault → Option LineFault → Type 0
Settled m left coming fault own = m ≡ peeked.Stop → ((chars left ≢ []) × (is_open_string (chars left) ≡ false)) ⊎
    ((coming ≡ []) × (own ≡ fault))

settled_of : (m : Peeked) (left coming : List ℕ) (fault own : Option LineFault) → IsUtf8 left → Stops m left coming fault own
    → Settled m left coming fault own
settled_of m left coming fault own u h is = ⊎_elim (λ l. inl (not_lacking left u l)) (λ e. inr e) (h is)

lines_of_stop : (cs : List ℕ) → EndsLine cs ⊎ (cs ≡ []) → cs ≢ [] → EndsLine cs
lines_of_stop cs (inl l) h = l
lines_of_stop cs (inr e) h = absurd (h e)

-- a stop, or not
is_stop : (m : Peeked) → (m ≡ peeked.Stop) ⊎ (m ≢ peeked.Stop)
is_stop peeked.Stop = inl refl
is_stop (peeked.Entry e) = inr (λ h. cc)
is_stop (peeked.Fault f) = inr (λ h. cc)
is_stop peeked.Indent = inr (λ h. cc)
is_stop peeked.Dedent = inr (λ h. cc)

no_more : (left coming : List ℕ) → coming ≡ [] → left ++ coming ≡ left
no_more left coming e = ap (λ c. left ++ c) e ∙ append-nil left

found_lined : (levels : List ℕ) (p : LineState) (m : Peeked) (q : LineState) (cs ds es : List ℕ) (own fault : Option LineFault) (k : Bool)
    → EndsLine cs ⊎ (cs ≡ []) → (m ≡ peeked.Stop) ⊎ (m ≢ peeked.Stop) → (m ≡ peeked.Stop → (ds ≢ []) × (is_open_string ds ≡ false))
    → Peek levels p cs m q ds → Peek levels p (cs ++ es) m q (ds ++ es)
found_lined levels p m q cs ds es own fault k lined (inr other) settled f = finds_carried levels p cs m q ds es lined other f
found_lined levels p m q cs ds es own fault k lined (inl is) settled f =
    let g = rw is at f in
    let s = settled is in
    rw is (stop_carried levels p cs q ds es g (lines_of_stop ds (comes_lines levels p cs q ds lined g.0) s.0) s.1)

finds_settled : (levels : List ℕ) (p : LineState) (left : List ℕ) (m : Peeked) (q : LineState) (ds coming : List ℕ)
    (own fault : Option LineFault) → IsUtf8 left → IsUtf8 ds → Lined left coming → Settled m ds coming fault own
    → Peek levels p (chars left) m q (chars ds) → Peek levels p (chars (left ++ coming)) m q (chars (ds ++ coming))
finds_settled levels p left m q ds coming own fault u v (inr none) stops f =
    rw (no_more left coming none, no_more ds coming none) f
finds_settled levels p left m q ds coming own fault u v (inl lined) stops f = by_end (is_stop m)
  where
    joined : Peek levels p (chars left ++ chars coming) m q (chars ds ++ chars coming)
        → Peek levels p (chars (left ++ coming)) m q (chars (ds ++ coming))
    joined g = rw (chars-append left coming u, chars-append ds coming v) g

    last : coming ≡ [] → Peek levels p (chars (left ++ coming)) m q (chars (ds ++ coming))
    last none = rw (no_more left coming none, no_more ds coming none) f

    by_end : (m ≡ peeked.Stop) ⊎ (m ≢ peeked.Stop) → Peek levels p (chars (left ++ coming)) m q (chars (ds ++ coming))
    by_end (inr other) = joined (finds_carried levels p (chars left) m q (chars ds) (chars coming) lined other f)
    by_end (inl is) = ⊎_elim (λ s. joined (found_lined levels p m q (chars left) (chars ds) (chars coming) own fault true lined (inl is)
        (λ _. s) f)) (λ s. last s.0) (stops is)

-- What is found in the lines held is found in the source.
pub finds_whole : (levels : List ℕ) (p : LineState) (left : List ℕ) (m : Peeked) (q : LineState) (ds coming : List ℕ)
    (own fault : Option LineFault) → IsUtf8 left → IsUtf8 ds → Lined left coming → Stops m ds coming fault own
    → Peek levels p (chars left) m q (chars ds) → Peek levels p (chars (left ++ coming)) m q (chars (ds ++ coming))
finds_whole levels p left m q ds coming own fault u v lined stops f = finds_settled levels p left m q ds coming own fault u v lined
    (settled_of m ds coming fault own v stops) f

-- and its end is the source's
pub end_whole : (levels nested : List ℕ) (p : LineState) (left : List ℕ) (m : Peeked) (q : LineState) (ds coming : List ℕ)
    (own fault : Option LineFault) → IsUtf8 left → IsUtf8 ds → Lined left coming → Stops m ds coming fault own
    → Peek nested p (chars left) m q (chars ds) → m ≡ peeked.Stop
    → remaining (option_map of_line own) (with_levels q levels) (chars (ds ++ coming)) ≡ remaining (option_map of_line fault)
    (with_levels q levels) (chars ds)
end_whole levels nested p left m q ds coming own fault u v lined stops f is =
    ⊎_elim by_text by_end (settled_of m ds coming fault own v stops is)
  where
    by_end : (coming ≡ []) × (own ≡ fault) → remaining (option_map of_line own) (with_levels q levels) (chars (ds ++ coming)) ≡ remaining
        (option_map of_line fault) (with_levels q levels) (chars ds)
    by_end s = ap (λ t. remaining (option_map of_line own) (with_levels q levels) (chars t)) (no_more ds coming s.0)
        ∙ ap (λ o. remaining (option_map of_line o) (with_levels q levels) (chars ds)) s.1

    here : EndsLine (chars ds) → (chars ds ≢ []) × (is_open_string (chars ds) ≡ false)
        → remaining (option_map of_line own) (with_levels q levels) (chars (ds ++ coming)) ≡ remaining (option_map of_line fault)
        (with_levels q levels) (chars ds)
    here l s =
        let g = rw is at f in
        ap (λ t. remaining (option_map of_line own) (with_levels q levels) t) (chars-append ds coming v)
        ∙ remaining_carried (option_map of_line own) (with_levels q levels) (chars ds) (chars coming) l g.1.none s.1
        ∙ remaining_any (option_map of_line own) (option_map of_line fault) (with_levels q levels) (chars ds) g.1.none s.0 s.1

    by_text : (chars ds ≢ []) × (is_open_string (chars ds) ≡ false) → remaining (option_map of_line own) (with_levels q levels)
        (chars (ds ++ coming)) ≡ remaining (option_map of_line fault) (with_levels q levels) (chars ds)
    by_text s = ⊎_elim
        (λ l. here (lines_of_stop (chars ds) (comes_lines nested p (chars left) q (chars ds) l (rw is at f).0) s.0) s)
        (λ none. let g = rw is at f in ap (λ t. remaining (option_map of_line own) (with_levels q levels) (chars t))
        (no_more ds coming none) ∙ remaining_any (option_map of_line own) (option_map of_line fault) (with_levels q levels)
        (chars ds) g.1.none s.0 s.1)
        lined

-- and a lister may go on there
pub stands_whole : (p q : LineState) (left ds coming : List ℕ) → Stands p (left ++ coming) → IsUtf8 left → IsUtf8 ds
    → ((n : ℕ) → HasRoom p (length left + n) → HasRoom q (length ds + n)) → Stands q (ds ++ coming)
stands_whole p q left ds coming s u v room = record {
  utf8 = IsUtf8-append ds coming v (utf8_after left coming s.utf8 u);
  room = subst (HasRoom q) (sym (length-append ds coming)) (room (length coming) (subst (HasRoom p) (length-append left coming) s.room));
}
