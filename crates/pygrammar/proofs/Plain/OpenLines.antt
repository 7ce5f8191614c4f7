-- In a listing no INDENT stands within a line, and where it comes to its end no line is open.
--
-- Carries: next, may_stand, Fit, listing_fits, for Tokens.
use Rattle.std.proofs.Common.{◌≡◌, refl, sym, ap, ◌∙◌, subst, ℕ, zero, suc, Bool, true, false, not, ◌&&◌, ◌||◌, ◌==◌, cond, List, [], ◌∷◌}
use Rattle.std.proofs.Common.{◌++◌, length, replicate, Option, Some, None, append_assoc}
use Rattle.std.specs.List.{list_all, list_any, count_by}
use Rattle.std.specs.Prelude.{nat_lt}
use Rattle.std.proofs.lemmas.Bool.{and_parts}
use Rattle.pysource.specs.declared.places.Place.{Place}
use Rattle.pysource.specs.Places.{place_after}
use Rattle.pylex_lexeme.specs.declared.lexeme.Class.{Class}
use Rattle.pylex_lexeme.specs.declared.lexeme.Class.TheVariants.{Name, Number, String, Operator, Comment, Blanks, LineEnd, Join}
use Rattle.pylex_lexeme.specs.Strings.{opens_string}
use Rattle.pylex_lexeme.specs.Operators.{is_closer}
use Rattle.pylex_lexeme.specs.Lexemes.{Lexeme, cut, left_by_cut, is_open_string, is_blanks_class, is_significant_class}
use Rattle.pylex_listing.specs.declared.kind.Kind.{Kind}
use Rattle.pylex_listing.specs.declared.kind.Kind.TheVariants as kinds
use Rattle.pylex_listing.specs.declared.entries.Entry.{Entry}
use Rattle.pylex_listing.specs.declared.entries.ListingFault.{ListingFault}
use Rattle.pylex_listing.specs.declared.entries.ListingError.TheVariants as errors
use Rattle.pylex_listing.specs.declared.entries.Step.{Step}
use Rattle.pylex_listing.specs.declared.entries.Step.TheVariants as steps
use Rattle.pylex_listing.specs.Lines.{text_before, depth, is_of_blanks, is_significant, line_so_far, is_at_margin, is_logical}
use Rattle.pylex_listing.specs.Indentation.{open_levels, width_at, widths, dedents, layout, layout_by}
use Rattle.pylex_listing.specs.Listing.{Source, listing, origin, up_to_end, entry_of, steps_of, stop_fault, line_end_of_last, end_place}
use Rattle.pylex_listing.specs.Listing.{begins_comment, last_line, ends_in_join, tail, stop, steps_from}
use Rattle.pylex_listing.specs.Steps.{entries_of, fault_of, mark, fault_at}

-- whether a line is open after an entry, where one is or isn't before it
abbrev pub next : Kind → Bool → Bool
next kinds.Comment begun = begun
next kinds.Nl begun = begun
next kinds.Name begun = true
next kinds.Number begun = true
next kinds.String begun = true
next kinds.Op begun = true
next _ begun = false

-- whether the entry may stand there
abbrev pub may_stand : Kind → Bool → Bool
may_stand kinds.Encoding begun = not begun
may_stand kinds.Indent begun = not begun
may_stand _ begun = true

abbrev pub Fit : Bool → List Entry → Type 0
Fit begun [] = begun ≡ false
Fit begun (e ∷ es) = (may_stand e.kind begun ≡ true) × Fit (next e.kind begun) es

abbrev Fits : Bool → List Step → Type 0
Fits begun [] = begun ≡ false
Fits begun (steps.Entry e ∷ ss) = (may_stand e.kind begun ≡ true) × Fits (next e.kind begun) ss
Fits begun (steps.End ∷ ss) = begun ≡ false
Fits begun (steps.Fault f ∷ ss) = Unit {0}

entries_fit : (ss : List Step) (begun : Bool) → Fits begun ss → fault_of (up_to_end ss) ≡ None → Fit begun (entries_of (up_to_end ss))
entries_fit [] begun h k = h
entries_fit (steps.Entry e ∷ ss) begun h k = (h.0, entries_fit ss (next e.kind begun) h.1 k)
entries_fit (steps.End ∷ ss) begun h k = h
entries_fit (steps.Fault f ∷ ss) begun h k = absurd cc

-- ---- Steps in front of others.

-- steps that stand after a place, where an open line is a logical one
abbrev Ahead : Bool → List Step → Type 0
Ahead logical ts = (begun : Bool) → (begun ≡ true → logical ≡ true) → Fits begun ts

closed : {b : Bool} → false ≡ true → b ≡ true
closed h = absurd cc

cond_fits : (begun c : Bool) (ss us ts : List Step) → Fits begun (ss ++ ts) → Fits begun (us ++ ts) → Fits begun (cond c ss us ++ ts)
cond_fits begun true ss us ts h k = h
cond_fits begun false ss us ts h k = k

cond_fit : (begun c : Bool) (ss us : List Step) → Fits begun ss → Fits begun us → Fits begun (cond c ss us)
cond_fit begun true ss us h k = h
cond_fit begun false ss us h k = k

dedents_fit : (n : ℕ) (earlier : List ℕ) (p : Place) (begun : Bool) (ts : List Step) → Fits begun ts → Fits false ts
    → Fits begun (replicate n (mark kinds.Dedent earlier p p) ++ ts)
dedents_fit zero earlier p begun ts h k = h
dedents_fit (suc n) earlier p begun ts h k = (refl, dedents_fit n earlier p false ts k k)

-- blanks make no logical line
blank_class : (k : Class) → is_blanks_class k ≡ true → is_significant_class k ≡ false
blank_class Blanks h = refl
blank_class _ h = absurd cc

blanks_only : (xs : List Lexeme) → list_all is_of_blanks xs ≡ true → list_any is_significant xs ≡ false
blanks_only [] h = refl
blanks_only (x ∷ xs) h =
    let parts = and_parts (is_of_blanks x) (list_all is_of_blanks xs) h in
    ap (λ z. z || list_any is_significant xs) (blank_class x.«class» parts.0) ∙ blanks_only xs parts.1

none_open : (begun logical : Bool) → (begun ≡ true → logical ≡ true) → logical ≡ false → begun ≡ false
none_open true logical h e = absurd (let i = h refl in cc)
none_open false logical h e = refl

-- NEWLINE or NL in front
abbrev LineEndFits : Bool → Bool → List Step → Type 0
LineEndFits begun closes ts = (may_stand (cond closes kinds.Newline kinds.Nl) begun ≡ true) × Fits
    (next (cond closes kinds.Newline kinds.Nl) begun) ts

module _ (before : List Lexeme) where
  layout_fits : (begun : Bool) (ts : List Step) → (begun ≡ true → is_logical before ≡ true) → Ahead (is_logical before) ts
      → Fits begun (layout before ++ ts)
  unfolding layout layout_by is_at_margin is_logical
  layout_fits begun ts h ahead = by (list_all is_of_blanks (line_so_far before)) refl
    where
      at_margin : (begun : Bool) → begun ≡ false → Fits begun (layout_by (width_at before) (open_levels (widths before)) before ++ ts)
      at_margin true e = absurd cc
      at_margin false e =
          let k = ahead false closed in
          cond_fits false (list_all (λ v. nat_lt v (width_at before)) (open_levels (widths before))) _ _ ts (refl, k)
          (cond_fits false (list_any (λ v. v == width_at before) (open_levels (widths before))) _ _ ts
          (dedents_fit (count_by (nat_lt (width_at before)) (open_levels (widths before))) (text_before before)
          (place_after (text_before before)) false ts k k)
          tt)

      by : (m : Bool) → list_all is_of_blanks (line_so_far before) ≡ m
          → Fits begun (cond m (layout_by (width_at before) (open_levels (widths before)) before) [] ++ ts)
      by true e = at_margin begun (none_open begun (list_any is_significant (line_so_far before)) h (blanks_only (line_so_far before) e))
      by false e = ahead begun h

  -- a line end closes a logical line where no bracket is open
  line_end_fits : (begun d : Bool) (x : Lexeme) (inner : List Lexeme) (ts : List Step) → x.«class» ≡ LineEnd
      → (begun ≡ true → list_any is_significant inner ≡ true)
      → Ahead (list_any is_significant (cond d [] (x ∷ inner))) ts → LineEndFits begun (list_any is_significant inner && d) ts
  line_end_fits begun true x inner ts e h ahead = by (list_any is_significant inner) h
    where
      by : (l : Bool) → (begun ≡ true → l ≡ true) → LineEndFits begun (l && true) ts
      by true h = (refl, ahead false closed)
      by false h = (refl, ahead begun h)
  line_end_fits begun false x inner ts e h ahead =
      by (list_any is_significant inner) h (λ c i. ahead c (λ j. ap (λ k. is_significant_class k || list_any is_significant inner) e ∙ i j))
    where
      by : (l : Bool) → (begun ≡ true → l ≡ true) → Ahead l ts → LineEndFits begun (l && false) ts
      by true h ahead = (refl, ahead begun h)
      by false h ahead = (refl, ahead begun h)

  entry_fits : (x : Lexeme) (begun : Bool) (ts : List Step) → (begun ≡ true → is_logical before ≡ true) → Ahead (is_logical (x ∷ before)) ts
      → Fits begun (entry_of before x ++ ts)
  unfolding entry_of is_logical line_so_far
  entry_fits x begun ts h ahead = by_class x.«class» x.text ahead
    where
      by_class : (k : Class) (t : List ℕ) → Ahead (is_logical (record { «class» = k; text = t } ∷ before)) ts
          → Fits begun (entry_of before (record { «class» = k; text = t }) ++ ts)
      by_class Name t ahead = (refl, ahead true (λ _. refl))
      by_class Number t ahead = (refl, ahead true (λ _. refl))
      by_class String t ahead = (refl, ahead true (λ _. refl))
      by_class (Operator o) t ahead = cond_fits begun (is_closer o && (depth before == 0)) _ _ ts tt (refl, ahead true (λ _. refl))
      by_class Comment t ahead = (refl, ahead begun h)
      by_class Blanks t ahead = ahead begun h
      by_class LineEnd t ahead = line_end_fits begun (depth before == 0) (record { «class» = LineEnd; text = t })
          (line_so_far before) ts refl h ahead
      by_class Join t ahead = ahead begun (λ _. refl)

  steps_fit : (x : Lexeme) (begun : Bool) (ts : List Step) → (begun ≡ true → is_logical before ≡ true) → Ahead (is_logical (x ∷ before)) ts
      → Fits begun (steps_of before x ++ ts)
  unfolding steps_of
  steps_fit x begun ts h ahead =
      let first = cond (is_significant x) (layout before) [] in
      let own = entry_of before x in
      subst (Fits begun) (sym (append_assoc first own ts))
      (cond_fits begun (is_significant x) (layout before) [] (own ++ ts)
      (layout_fits begun (own ++ ts) h (λ c i. entry_fits x c ts i ahead)) (entry_fits x begun ts h ahead))

  -- ---- And at the end.

  last_fits : (p : Place) (begun : Bool) (ts : List Step) → Fits begun ts → Fits false ts → Fits begun (line_end_of_last before p ++ ts)
  unfolding line_end_of_last
  last_fits p begun ts h k =
      cond_fits begun (is_logical before) _ _ ts
      (cond_fits begun (begins_comment (last_line (text_before before))) [] _ ts h (refl, k))
      (cond_fits begun (is_at_margin before) [] _ ts h (refl, h))

  tail_fits : (p : Place) (begun : Bool) → Fits begun (tail before p)
  unfolding tail
  tail_fits p begun =
      let closing = dedents 0 (open_levels (widths before)) (text_before before) (end_place before p) in
      let marker = mark kinds.EndMarker (text_before before) (end_place before p) (end_place before p) ∷ steps.End ∷ [] in
      let closes : (begun : Bool) → Fits begun (closing ++ marker) =
      λ begun. dedents_fit (count_by (nat_lt 0) (open_levels (widths before))) (text_before before) (end_place before p) begun marker
      (refl, refl) (refl, refl) in
      cond_fit begun (not (depth before == 0) || ends_in_join before) _ _ tt
      (subst (Fits begun) (sym (append_assoc (line_end_of_last before p) closing marker))
      (last_fits p begun (closing ++ marker) (closes begun) (closes false)))

  stop_fits : (o : Option ListingFault) (left : List ℕ) (begun : Bool) → (begun ≡ true → is_logical before ≡ true)
      → Fits begun (stop o before left)
  unfolding stop stop_fault
  stop_fits o left begun h =
      cond_fit begun (not (length left == 0)) _ _ (layout_fits begun _ h (λ c i. is_fault c (place_after (text_before before))))
      (by_fault o)
    where
      in_string : (c : Bool) (o : Option ListingFault) (p : Place)
          → Fits c (elim o [ Some f ↦ steps.Fault f | None ↦ fault_at errors.EofInString p ] ∷ [])
      in_string c (Some f) p = tt
      in_string c None p = tt

      either : (c b : Bool) (g s : Step) → Fits c (g ∷ []) → Fits c (s ∷ []) → Fits c (cond b g s ∷ [])
      either c true g s h k = h
      either c false g s h k = k

      is_fault : (c : Bool) (p : Place) → Fits c (stop_fault o p left ∷ [])
      is_fault c p = either c (not (opens_string left)) _ _ tt (either c (not (is_open_string left)) _ _ tt (in_string c o p))

      by_fault : (o : Option ListingFault)
          → Fits begun (elim o [ Some f ↦ steps.Fault f ∷ [] | None ↦ tail before (place_after (text_before before)) ])
      by_fault (Some f) = tt
      by_fault None = tail_fits (place_after (text_before before)) begun

all_fit : (o : Option ListingFault) (left : List ℕ) (before xs : List Lexeme) → Ahead (is_logical before) (steps_from o left before xs)
all_fit o left before [] begun h = stop_fits before o left begun h
all_fit o left before (x ∷ xs) begun h = steps_fit before x begun _ h (all_fit o left (x ∷ before) xs)

pub listing_fits : (s : Source) → fault_of (listing s) ≡ None → Fit false (entries_of (listing s))
unfolding listing
listing_fits s h =
    let fit = all_fit s.fault (left_by_cut s.text) [] (cut s.text) false closed in
    entries_fit (mark kinds.Encoding [] origin origin ∷ steps_from s.fault (left_by_cut s.text) [] (cut s.text)) false (refl, fit) h
