-- A listing is entries, and then one end or one fault.
--
-- Carries: Lister::new. On: Run.
use Rattle.std.proofs.Common.{◌≡◌, ℕ, Bool, true, false, not, ◌&&◌, ◌||◌, ◌==◌, cond, List, [], ◌∷◌, ◌++◌, length, map, zero, suc}
use Rattle.std.proofs.Common.{replicate, refl, ap, sym, subst, Option, Some, None}
use Rattle.std.specs.List.{list_all, list_any, count_by}
use Rattle.std.specs.Prelude.{nat_lt}
use Rattle.pysource.specs.declared.places.Place.{Place}
use Rattle.pylex_listing.specs.declared.kind.Kind.TheVariants as kinds
use Rattle.pylex_listing.specs.declared.entries.Entry.{Entry}
use Rattle.pylex_listing.specs.declared.entries.ListingFault.{ListingFault}
use Rattle.pylex_listing.specs.declared.entries.ListingError.TheVariants as errors
use Rattle.pylex_listing.specs.declared.entries.Step.{Step}
use Rattle.pylex_listing.specs.declared.entries.Step.TheVariants as steps
use Rattle.pylex_lexeme.specs.Strings.{opens_string}
use Rattle.pylex_lexeme.specs.declared.lexeme.Class.{Class}
use Rattle.pylex_lexeme.specs.declared.lexeme.Class.TheVariants.{Name, Number, String, Operator, Comment, Blanks, LineEnd, Join}
use Rattle.pylex_lexeme.specs.Operators.{is_closer}
use Rattle.pylex_listing.specs.Lines.{is_significant}
use Rattle.pylex_lexeme.specs.Lexemes.{Lexeme, cut, left_by_cut, is_open_string}
use Rattle.pylex_listing.specs.Listing.{Source, origin, stop_fault, up_to_end}
use Rattle.pylex_listing.specs.Steps.{entries_of, mark, fault_at, IsNoEntry}
use Rattle.pylex_listing.specs.Machine.{State, layout_of, entry_by, gives, is_hash, dedents_at, last_place, last_line_end, tail_of, stop_of}
use Rattle.pylex_listing.specs.Machine.{after, run, remaining, first_state}
use Rattle.pylex_listing.specs.Laws.{EndsWithMarker, AreWhole, IsWhole}
use Rattle.pylex_listing.proofs.Callers.{listing_is}

-- the step at a stop before the text's end is a fault
pub stop_is_fault : (fault : Option ListingFault) (p : Place) (left : List ℕ)
    → (f : ListingFault) × (stop_fault fault p left ≡ steps.Fault f)
unfolding stop_fault
stop_is_fault fault p left = either (not (opens_string left)) _ _ (either (not (is_open_string left)) _ _ (by_fault fault))
  where
    either : (b : Bool) (g : ListingFault) (s : Step) → (f : ListingFault) × (s ≡ steps.Fault f)
        → (f : ListingFault) × (cond b (steps.Fault g) s ≡ steps.Fault f)
    either true g s h = (g, refl)
    either false g s h = h

    by_fault : (o : Option ListingFault)
        → (f : ListingFault) × (elim o [ Some g ↦ steps.Fault g | None ↦ fault_at errors.EofInString p ] ≡ steps.Fault f)
    by_fault (Some g) = (g, refl)
    by_fault None = (record { code = errors.EofInString; place = p }, refl)

-- the steps come to a fault, or to an end that ENDMARKER stands directly before
data Stops : List Step → Type 0 where
  fault : {f : ListingFault} {ss : List Step} → Stops (steps.Fault f ∷ ss)
  marked : {e : Entry} {ss : List Step} → e.kind ≡ kinds.EndMarker → Stops (steps.Entry e ∷ steps.End ∷ ss)
  goes_on : {e : Entry} {ss : List Step} → Stops ss → Stops (steps.Entry e ∷ ss)

-- no end is among the steps
abbrev NoEnd : List Step → Type 0
NoEnd [] = Unit {0}
NoEnd (steps.Entry e ∷ ss) = NoEnd ss
NoEnd (steps.End ∷ ss) = ⊥
NoEnd (steps.Fault f ∷ ss) = NoEnd ss

NoEnd-append : (a b : List Step) → NoEnd a → NoEnd b → NoEnd (a ++ b)
NoEnd-append [] b h k = k
NoEnd-append (steps.Entry e ∷ a) b h k = NoEnd-append a b h k
NoEnd-append (steps.End ∷ a) b h k = h
NoEnd-append (steps.Fault f ∷ a) b h k = NoEnd-append a b h k

-- steps that stop, after others
following : (a b : List Step) → NoEnd a → Stops b → Stops (a ++ b)
following [] b n h = h
following (steps.Entry e ∷ a) b n h = goes_on (following a b n h)
following (steps.Fault f ∷ a) b n h = fault
following (steps.End ∷ a) b n h = absurd n

cond_no_end : (b : Bool) (ss ts : List Step) → NoEnd ss → NoEnd ts → NoEnd (cond b ss ts)
cond_no_end true ss ts h k = h
cond_no_end false ss ts h k = k

cond_stops : (b : Bool) (ss ts : List Step) → Stops ss → Stops ts → Stops (cond b ss ts)
cond_stops true ss ts h k = h
cond_stops false ss ts h k = k

marks_no_end : (n : ℕ) (e : Entry) → NoEnd (replicate n (steps.Entry e))
marks_no_end zero e = tt
marks_no_end (suc n) e = marks_no_end n e

dedents_no_end : (w : ℕ) (levels : List ℕ) (o : ℕ) (p : Place) → NoEnd (dedents_at w levels o p)
dedents_no_end w levels o p = marks_no_end (count_by (nat_lt w) levels) (record {
  kind = kinds.Dedent;
  exact = None;
  start = p;
  «end» =
      p;
  «from» = o;
  to = o;
})

layout_no_end : (s : State) → NoEnd (layout_of s)
unfolding layout_of
layout_no_end s = cond_no_end s.margin _ [] (cond_no_end (list_all (λ v. nat_lt v s.width) s.levels) _ _ tt
    (cond_no_end (list_any (λ v. v == s.width) s.levels) _ _ (dedents_no_end s.width s.levels s.now.offset s.now.place) tt)) tt

entry_no_end : (s : State) (x : Lexeme) → NoEnd (entry_by s x)
unfolding entry_by
entry_no_end s x = by_class x.«class» x.text
  where
    by_class : (k : Class) (t : List ℕ) → NoEnd (entry_by s (record { «class» = k; text = t }))
    by_class Name t = tt
    by_class Number t = tt
    by_class String t = tt
    by_class (Operator o) t = cond_no_end (is_closer o && (s.depth == 0)) _ _ tt tt
    by_class Comment t = tt
    by_class Blanks t = tt
    by_class LineEnd t = tt
    by_class Join t = tt

gives_no_end : (s : State) (x : Lexeme) → NoEnd (gives s x)
unfolding gives
gives_no_end s x = NoEnd-append (cond (is_significant x) (layout_of s) []) (entry_by s x)
    (cond_no_end (is_significant x) (layout_of s) [] (layout_no_end s) tt) (entry_no_end s x)

tail_stops : (s : State) → Stops (tail_of s)
unfolding tail_of last_line_end
tail_stops s =
    cond_stops (not (s.depth == 0) || s.joined) _ _ fault
    (following (last_line_end s ++ dedents_at 0 s.levels s.now.offset (last_place s)) _
    (NoEnd-append (last_line_end s) _
    (cond_no_end s.logical _ _ (cond_no_end (is_hash s.lead) [] _ tt tt) (cond_no_end s.margin [] _ tt tt))
    (dedents_no_end 0 s.levels s.now.offset (last_place s)))
    (marked refl))

stop_stops : (o : Option ListingFault) (left : List ℕ) (s : State) → Stops (stop_of o s left)
unfolding stop_of
stop_stops o left s =
    cond_stops (not (length left == 0)) _ _
    (following (layout_of s) _ (layout_no_end s) (let f = stop_is_fault o s.now.place left in
    subst (λ (g : Step). Stops (g ∷ [])) (sym f.1) fault))
    (by_fault o)
  where
    by_fault : (o : Option ListingFault) → Stops (elim o [ Some f ↦ steps.Fault f ∷ [] | None ↦ tail_of s ])
    by_fault (Some f) = fault
    by_fault None = tail_stops s

run_stops : (o : Option ListingFault) (left : List ℕ) (xs : List Lexeme) (s : State) → Stops (run o left s xs)
run_stops o left [] s = stop_stops o left s
run_stops o left (x ∷ xs) s = following (gives s x) _ (gives_no_end s x) (run_stops o left xs (after s x))

-- steps up to the first that is no entry
record Closed (ss : List Step) : Type 0 where
  last : Step
  whole : ss ≡ map steps.Entry (entries_of ss) ++ last ∷ []
  stops : IsNoEntry last
  marker : last ≡ steps.End → EndsWithMarker (entries_of ss)

one_more : (e : Entry) (ss : List Step) → Closed ss → Closed (steps.Entry e ∷ ss)
one_more e ss c = record {
  last = c.last;
  whole = ap (λ l. steps.Entry e ∷ l) c.whole;
  stops = c.stops;
  marker = λ l. let m = c.marker l in (e ∷ m.0, m.1, ap (λ l. e ∷ l) m.2, m.3);
}

closed : {ss : List Step} → Stops ss → Closed (up_to_end ss)
closed (fault {f = f}) = record { last = steps.Fault f; whole = refl; stops = tt; marker = λ e. cc }
closed (marked {e = e} m) = record { last = steps.End; whole = refl; stops = tt; marker = λ _. ([], e, refl, m) }
closed (goes_on {e = e} {ss = ss} h) = one_more e (up_to_end ss) (closed h)

encoded : (s : Source) (ss : List Step) → Closed ss → AreWhole (mark kinds.Encoding [] origin origin ∷ ss)
encoded s ss c =
    let d = one_more _ ss c in
    record { last = d.last; whole = d.whole; stops = d.stops; first = (_, entries_of ss, refl, refl); marker = d.marker }

pub is_whole : (s : Source) → IsWhole s
unfolding remaining
is_whole s = subst AreWhole (sym (listing_is s)) (encoded s (remaining s.fault first_state s.text)
    (closed (run_stops s.fault (left_by_cut s.text) (cut s.text) first_state)))
