-- Each line of a source has a place, and so has its end.
--
-- Carries: starts_line, starts_end, starts, for Blocks.
use Rattle.std.proofs.Common.{◌≡◌, ℕ, zero, suc, ◌<◌, ◌≤◌, Bool, true, false, not, ◌&&◌, ◌||◌, ◌==◌, cond, List, [], ◌∷◌, ◌++◌, length}
use Rattle.std.proofs.Common.{replicate, refl, sym, ap, ◌∙◌, subst, Option, Some, None, if◌then◌else◌, append_assoc, arith}
use Rattle.std.specs.List.{list_all, list_any, count_by}
use Rattle.std.specs.Prelude.{nat_lt}
use borrow.Author.Tests.{ltb-true, ltb-false}
use Rattle.pysource.specs.declared.places.Place.{Place}
use Rattle.pylex_lexeme.specs.declared.kinds.Exact.{Exact}
use Rattle.pylex_lexeme.specs.declared.lexeme.Class.{Class}
use Rattle.pylex_lexeme.specs.declared.lexeme.Class.TheVariants.{Name, Number, String, Operator, Comment, Blanks, LineEnd, Join}
use Rattle.pylex_lexeme.specs.Strings.{opens_string}
use Rattle.pylex_lexeme.specs.Operators.{is_closer}
use Rattle.pylex_lexeme.specs.Lexemes.{Lexeme, cut, left_by_cut, is_open_string}
use Rattle.pylex_listing.specs.declared.kind.Kind.{Kind}
use Rattle.pylex_listing.specs.declared.kind.Kind.TheVariants as kinds
use Rattle.pylex_listing.specs.declared.entries.Entry.{Entry}
use Rattle.pylex_listing.specs.declared.entries.ListingFault.{ListingFault}
use Rattle.pylex_listing.specs.declared.entries.ListingError.TheVariants as errors
use Rattle.pylex_listing.specs.declared.entries.Step.{Step}
use Rattle.pylex_listing.specs.declared.entries.Step.TheVariants as steps
use Rattle.pylex_listing.specs.Indentation.{open_levels, width_at, widths, dedents, layout, layout_by}
use Rattle.pylex_listing.specs.Lines.{depth, is_significant, is_at_margin, is_logical, text_before}
use Rattle.pylex_listing.specs.Listing.{Source, listing, up_to_end, entry_of, steps_of, stop_fault, line_end_of_last, end_place}
use Rattle.pylex_listing.specs.Listing.{begins_comment, last_line, ends_in_join, tail, stop, steps_from}
use Rattle.pylex_listing.specs.Steps.{entries_of, fault_of, mark, fault_at}
use Rattle.pylex_listing.specs.Laws.{EndsWithMarker}
use Rattle.pysource.specs.Places.{place_after}
use Rattle.pytree_node.specs.declared.profiles.Extent.{Extent}
use Rattle.pytoken.specs.declared.refusals.Refusal.{Refusal}
use Rattle.pytoken.specs.declared.refusals.Refusal.TheVariants as refusals
use Rattle.pytoken.specs.Inner.Following.{following}
use Rattle.pytoken.specs.Tokens.{Token, token_of, supplied, is_open, tokens_of_entry, tokens_from, tokens, lines_from, lines}
use Rattle.pytoken.specs.Tokens as Tokens
use Rattle.pytoken.specs.Refusals.{most_brackets, refusal_of, refusal_at, refusal}
use Rattle.pytoken.proofs.Callers.OnePass.{tokens_on}
use Rattle.pygrammar.specs.Refusals.{StartsAt, at_line, at_end}

-- ---- Each line has a token.

abbrev IsFilled : List Token → Type 0
IsFilled [] = ⊥
IsFilled (t ∷ ts) = Unit {0}

filled_on : (line : List Token) (t : Token) → IsFilled (line ++ t ∷ [])
filled_on [] t = tt
filled_on (u ∷ line) t = tt

abbrev AreFilled : List Tokens.Line → Type 0
AreFilled [] = Unit {0}
AreFilled (x ∷ xs) = IsFilled x.tokens × AreFilled xs

abbrev entry : Kind → Option Exact → Place → Place → ℕ → ℕ → Entry
entry k x p q f t = record { kind = k; exact = x; start = p; «end» = q; «from» = f; to = t }

-- a line that is open has a token
abbrev Open : List Entry → List Token → Type 0
Open before line = is_open before ≡ true → IsFilled line

module _ (text : List ℕ) (es before : List Entry) (seen line : List Token)
    (ih : (before : List Entry) (seen line : List Token) → Open before line → AreFilled (lines_from seen line (tokens_from text before es)))
    (h : Open before line) where
  closed : (line : List Token) → false ≡ true → IsFilled line
  closed line o = absurd cc

  one : (k : Kind) (x : Option Exact) (p q : Place) (f t : ℕ)
      → AreFilled (lines_from seen line (tokens_from text before (entry k x p q f t ∷ es)))
  one kinds.Encoding x p q f t = ih (entry kinds.Encoding x p q f t ∷ before) seen line (closed line)
  one kinds.Comment x p q f t = ih (entry kinds.Comment x p q f t ∷ before) seen line h
  one kinds.Nl x p q f t = ih (entry kinds.Nl x p q f t ∷ before) seen line h
  one kinds.Newline x p q f t =
      let e = entry kinds.Newline x p q f t in
      let u = token_of text e in
      elim (is_open before) as (λ b. (b ≡ true → IsFilled line)
      → AreFilled (lines_from seen line ((if b then u ∷ [] else []) ++ tokens_from text (e ∷ before) es))) [
        | true ↦ λ o. (o refl, ih (e ∷ before) (u ∷ seen) [] (closed []))
        | false ↦ λ o. ih (e ∷ before) seen line (closed line)
      ] h
  one kinds.Indent x p q f t =
      let e = entry kinds.Indent x p q f t in ih (e ∷ before) (token_of text e ∷ seen) line (closed line)
  one kinds.Dedent x p q f t =
      let e = entry kinds.Dedent x p q f t in
      let u = token_of text e in
      elim (is_open before) as (λ b. (b ≡ true → IsFilled line)
      → AreFilled (lines_from seen line ((if b then supplied text ∷ u ∷ [] else u ∷ []) ++ tokens_from text (e ∷ before) es))) [
        | true ↦ λ o. (o refl, ih (e ∷ before) (u ∷ supplied text ∷ seen) [] (closed []))
        | false ↦ λ o. ih (e ∷ before) (u ∷ seen) line (closed line)
      ] h
  one kinds.EndMarker x p q f t =
      let e = entry kinds.EndMarker x p q f t in
      let u = token_of text e in
      elim (is_open before) as (λ b. (b ≡ true → IsFilled line)
      → AreFilled (lines_from seen line ((if b then supplied text ∷ u ∷ [] else u ∷ []) ++ tokens_from text (e ∷ before) es))) [
        | true ↦ λ o. (o refl, ih (e ∷ before) (u ∷ supplied text ∷ seen) [] (closed []))
        | false ↦ λ o. ih (e ∷ before) (u ∷ seen) line (closed line)
      ] h
  one kinds.Name x p q f t =
      let e = entry kinds.Name x p q f t in ih (e ∷ before) (token_of text e ∷ seen) (line ++ token_of text e ∷ [])
      (λ o. filled_on line (token_of text e))
  one kinds.Number x p q f t =
      let e = entry kinds.Number x p q f t in ih (e ∷ before) (token_of text e ∷ seen) (line ++ token_of text e ∷ [])
      (λ o. filled_on line (token_of text e))
  one kinds.String x p q f t =
      let e = entry kinds.String x p q f t in ih (e ∷ before) (token_of text e ∷ seen) (line ++ token_of text e ∷ [])
      (λ o. filled_on line (token_of text e))
  one kinds.Op x p q f t =
      let e = entry kinds.Op x p q f t in ih (e ∷ before) (token_of text e ∷ seen) (line ++ token_of text e ∷ [])
      (λ o. filled_on line (token_of text e))

lines_filled : (text : List ℕ) (es before : List Entry) (seen line : List Token) → Open before line
    → AreFilled (lines_from seen line (tokens_from text before es))
lines_filled text [] before seen line h = tt
lines_filled text (e ∷ es) before seen line h = one text es before seen line (lines_filled text es) h e.kind e.exact
    e.start e.«end» e.«from» e.to

all_filled : (s : Source) → AreFilled (lines s)
unfolding tokens lines
all_filled s = lines_filled s.text (entries_of (listing s)) [] [] [] (λ o. absurd cc)

split_at : {A : Type 0} (xs : List A) (n : ℕ) → n < length xs
    → (front : List A) × (x : A) × (back : List A) × (xs ≡ front ++ (x ∷ back)) × (length front ≡ n)
split_at [] n h = absurd (omega (arith, h))
split_at (x ∷ xs) zero h = ([], x, xs, refl, refl)
split_at (x ∷ xs) (suc n) h = let r = split_at xs n (omega (arith, h)) in (x ∷ r.0, r.1, r.2, ap (λ z. x ∷ z) r.3, ap suc r.4)

filled_at : (front : List Tokens.Line) (x : Tokens.Line) (back : List Tokens.Line) → AreFilled (front ++ (x ∷ back)) → IsFilled x.tokens
filled_at [] x back h = h.0
filled_at (y ∷ front) x back h = filled_at front x back h.1

first_of_filled : (ts : List Token) → IsFilled ts → (t : Token) × (us : List Token) × (ts ≡ t ∷ us)
first_of_filled [] h = absurd h
first_of_filled (t ∷ us) h = (t, us, refl)

pub starts_line : (s : Source) (n : ℕ) → n < length (lines s) → (p : Place) × StartsAt s n p
starts_line s n h =
    let c = split_at (lines s) n h in
    let f = first_of_filled c.1.tokens (filled_at c.0 c.1 c.2 (subst AreFilled c.3 (all_filled s))) in
    (f.0.start, at_line c.0 c.2 c.1 f.0 f.1 c.3 c.4 f.2)

-- ---- A listing without fault ends in ENDMARKER.

data Stops : List Step → Type 0 where
  fault : {f : ListingFault} {ss : List Step} → Stops (steps.Fault f ∷ ss)
  marked : {e : Entry} {ss : List Step} → e.kind ≡ kinds.EndMarker → Stops (steps.Entry e ∷ steps.End ∷ ss)
  goes_on : {e : Entry} {ss : List Step} → Stops ss → Stops (steps.Entry e ∷ ss)

abbrev NoEnd : List Step → Type 0
NoEnd [] = Unit {0}
NoEnd (steps.Entry e ∷ ss) = NoEnd ss
NoEnd (steps.End ∷ ss) = ⊥
NoEnd (steps.Fault f ∷ ss) = NoEnd ss

NoEnd-append : (a b : List Step) → NoEnd a → NoEnd b → NoEnd (a ++ b)
NoEnd-append [] b h k = k
NoEnd-append (steps.Entry e ∷ a) b h k = NoEnd-append a b h k
NoEnd-append (steps.End ∷ a) b h k = h
NoEnd-append (steps.Fault f ∷ a) b h k = NoEnd-append a b h k

stops_following : (a b : List Step) → NoEnd a → Stops b → Stops (a ++ b)
stops_following [] b n h = h
stops_following (steps.Entry e ∷ a) b n h = goes_on (stops_following a b n h)
stops_following (steps.Fault f ∷ a) b n h = fault
stops_following (steps.End ∷ a) b n h = absurd n

cond_no_end : (b : Bool) (ss ts : List Step) → NoEnd ss → NoEnd ts → NoEnd (cond b ss ts)
cond_no_end true ss ts h k = h
cond_no_end false ss ts h k = k

cond_stops : (b : Bool) (ss ts : List Step) → Stops ss → Stops ts → Stops (cond b ss ts)
cond_stops true ss ts h k = h
cond_stops false ss ts h k = k

module _ (before : List Lexeme) where
  dedents_no_end : (width : ℕ) (levels : List ℕ) (p : Place) → NoEnd (dedents width levels (text_before before) p)
  dedents_no_end width levels p = each (count_by (nat_lt width) levels)
    where
      each : (n : ℕ) → NoEnd (replicate n (mark kinds.Dedent (text_before before) p p))
      each zero = tt
      each (suc n) = each n

  layout_no_end : NoEnd (layout before)
  unfolding layout layout_by
  layout_no_end =
      cond_no_end (is_at_margin before) _ []
      (cond_no_end (list_all (λ v. nat_lt v (width_at before)) (open_levels (widths before))) _ _ tt
      (cond_no_end (list_any (λ v. v == width_at before) (open_levels (widths before))) _ _
      (dedents_no_end (width_at before) (open_levels (widths before)) (place_after (text_before before)))
      tt))
      tt

  entry_no_end : (x : Lexeme) → NoEnd (entry_of before x)
  unfolding entry_of
  entry_no_end x = by_class x.«class» x.text
    where
      by_class : (k : Class) (t : List ℕ) → NoEnd (entry_of before (record { «class» = k; text = t }))
      by_class Name t = tt
      by_class Number t = tt
      by_class String t = tt
      by_class (Operator o) t = cond_no_end (is_closer o && (depth before == 0)) _ _ tt tt
      by_class Comment t = tt
      by_class Blanks t = tt
      by_class LineEnd t = tt
      by_class Join t = tt

  steps_no_end : (x : Lexeme) → NoEnd (steps_of before x)
  unfolding steps_of
  steps_no_end x = NoEnd-append (cond (is_significant x) (layout before) []) (entry_of before x)
      (cond_no_end (is_significant x) (layout before) [] layout_no_end tt) (entry_no_end x)

  last_no_end : (p : Place) → NoEnd (line_end_of_last before p)
  unfolding line_end_of_last
  last_no_end p =
      cond_no_end (is_logical before) _ _
      (cond_no_end (begins_comment (last_line (text_before before))) [] _ tt tt)
      (cond_no_end (is_at_margin before) [] _ tt tt)

  tail_stops : (p : Place) → Stops (tail before p)
  unfolding tail
  tail_stops p =
      cond_stops (not (depth before == 0) || ends_in_join before) _ _ fault
      (stops_following (line_end_of_last before p ++ dedents 0 (open_levels (widths before)) (text_before before) (end_place before p)) _
      (NoEnd-append (line_end_of_last before p) _ (last_no_end p) (dedents_no_end 0 (open_levels (widths before)) (end_place before p)))
      (marked refl))

  stop_stops : (o : Option ListingFault) (left : List ℕ) → Stops (stop o before left)
  unfolding stop stop_fault
  stop_stops o left =
      cond_stops (not (length left == 0)) _ _
      (stops_following (layout before) _ layout_no_end (is_fault (place_after (text_before before))))
      (by_fault o)
    where
      in_string : (o : Option ListingFault) (p : Place)
          → Stops (elim o [ Some f ↦ steps.Fault f | None ↦ fault_at errors.EofInString p ] ∷ [])
      in_string (Some f) p = fault
      in_string None p = fault

      either : (b : Bool) (g s : Step) → Stops (g ∷ []) → Stops (s ∷ []) → Stops (cond b g s ∷ [])
      either true g s h k = h
      either false g s h k = k

      is_fault : (p : Place) → Stops (stop_fault o p left ∷ [])
      is_fault p = either (not (opens_string left)) _ _ fault (either (not (is_open_string left)) _ _ fault (in_string o p))

      by_fault : (o : Option ListingFault)
          → Stops (elim o [ Some f ↦ steps.Fault f ∷ [] | None ↦ tail before (place_after (text_before before)) ])
      by_fault (Some f) = fault
      by_fault None = tail_stops (place_after (text_before before))

all_stop : (o : Option ListingFault) (left : List ℕ) (before xs : List Lexeme) → Stops (steps_from o left before xs)
all_stop o left before [] = stop_stops before o left
all_stop o left before (x ∷ xs) = stops_following (steps_of before x) _ (steps_no_end before x) (all_stop o left (x ∷ before) xs)

marker_last : {ss : List Step} → Stops ss → fault_of (up_to_end ss) ≡ None → EndsWithMarker (entries_of (up_to_end ss))
marker_last fault h = absurd cc
marker_last (marked {e = e} m) h = ([], e, refl, m)
marker_last (goes_on {e = e} p) h = let m = marker_last p h in (e ∷ m.0, m.1, ap (λ z. e ∷ z) m.2, m.3)

marker : (s : Source) → fault_of (listing s) ≡ None → EndsWithMarker (entries_of (listing s))
unfolding listing
marker s h = marker_last (goes_on (all_stop s.fault (left_by_cut s.text) [] (cut s.text))) h

-- ---- And so do the tokens.

pub no_listing_fault : (x : Extent) (s : Source) → refusal x s ≡ None → fault_of (listing s) ≡ None
unfolding refusal_at
no_listing_fault x s h = by_fault (fault_of (listing s)) (refusal_of x most_brackets s.text (entries_of (listing s))) h
  where
    by_fault : (o : Option ListingFault) (r : Option Refusal)
        → ◌≡◌ {A = Option Refusal} (elim o [ Some f ↦ Some (refusals.Listing f) | None ↦ r ]) None → o ≡ None
    by_fault (Some f) r h = absurd cc
    by_fault None r h = refl

abbrev HasLast : List Token → Type 0
HasLast ts = (front : List Token) × (t : Token) × (ts ≡ front ++ (t ∷ []))

marker_tokens : (text : List ℕ) (b : Bool) (k : Kind) (x : Option Exact) (p q : Place) (f t : ℕ) → k ≡ kinds.EndMarker
    → HasLast (tokens_of_entry text b (entry k x p q f t))
marker_tokens text true kinds.EndMarker x p q f t h = (supplied text ∷ [], token_of text (entry kinds.EndMarker x p q f t), refl)
marker_tokens text false kinds.EndMarker x p q f t h = ([], token_of text (entry kinds.EndMarker x p q f t), refl)
marker_tokens text b _ x p q f t h = absurd cc

last_token : (x : Extent) (s : Source) → refusal x s ≡ None → HasLast (tokens s)
unfolding tokens
last_token x s h =
    let m = marker s (no_listing_fault x s h) in
    let e = m.1 in
    let front = tokens_from s.text [] m.0 in
    let l = marker_tokens s.text (is_open (following [] m.0)) e.kind e.exact e.start e.«end» e.«from» e.to m.3 in (
      front ++ l.0,
      l.1,
      ap (tokens_from s.text []) m.2 ∙ tokens_on s.text [] m.0 e ∙ ap (λ z. front ++ z) l.2 ∙ sym (append_assoc front l.0 (l.1 ∷ [])),
    )

pub starts_end : (x : Extent) (s : Source) (n : ℕ) → refusal x s ≡ None → length (lines s) ≡ n → (p : Place) × StartsAt s n p
starts_end x s n h e = let l = last_token x s h in (l.1.start, at_end l.0 l.1 e l.2)

-- a line, or the end
pub starts : (x : Extent) (s : Source) (n : ℕ) → refusal x s ≡ None → n ≤ length (lines s) → (p : Place) × StartsAt s n p
starts x s n h k = by_number (nat_lt n (length (lines s))) refl
  where
    by_number : (b : Bool) → nat_lt n (length (lines s)) ≡ b → (p : Place) × StartsAt s n p
    by_number true e = starts_line s n (ltb-true n (length (lines s)) e)
    by_number false e = let m = ltb-false n (length (lines s)) e in starts_end x s n h (omega (arith, m, k))
