-- Carries: Callers/Places. On: the entries of a listing that are tokens of a line, and the text before each.
use Rattle.std.proofs.Common.{◌≡◌, ℕ, zero, suc, ◌+◌, Bool, true, false, not, ◌&&◌, ◌||◌, ◌==◌, List, [], ◌∷◌, ◌++◌, length, refl, sym, ap}
use Rattle.std.proofs.Common.{◌∙◌, subst, arith, append_assoc, Option, Some, None, replicate, count_by, nat_lt, if◌then◌else◌}
use Rattle.std.specs.Prelude.{All}
use Rattle.std.specs.List.{list_all, list_any, flat_map}
use Rattle.std.proofs.lemmas.List.Folds.{list_all-append}
use Rattle.std.proofs.lemmas.Bool.{and_parts}
use Rattle.pysource.specs.declared.places.Place.{Place}
use Rattle.pylex_lexeme.specs.Chars.{bytes_in}
use Rattle.pylex_lexeme.specs.Strings.{opens_string}
use Rattle.pylex_lexeme.specs.Operators.{is_closer}
use Rattle.pylex_lexeme.specs.declared.lexeme.Class.{Class}
use Rattle.pylex_lexeme.specs.declared.lexeme.Class.TheVariants.{Name, Number, String, Operator, Comment, Blanks, LineEnd, Join}
use Rattle.pylex_lexeme.specs.Lexemes.{Lexeme, cut, left_by_cut, is_open_string}
use Rattle.pylex_listing.specs.declared.kind.Kind.TheVariants as kinds
use Rattle.pylex_listing.specs.declared.entries.Entry.{Entry}
use Rattle.pylex_listing.specs.declared.entries.ListingFault.{ListingFault}
use Rattle.pylex_listing.specs.declared.entries.ListingError.TheVariants as errors
use Rattle.pylex_listing.specs.declared.entries.Step.{Step}
use Rattle.pylex_listing.specs.declared.entries.Step.TheVariants as steps
use Rattle.pylex_listing.specs.Lines.{is_significant}
use Rattle.pylex_listing.specs.Listing.{Source, listing, stop_fault, up_to_end, origin, further, row_after}
use Rattle.pylex_listing.specs.Machine.{State, place_past, after, layout_of, entry_by, gives, last_line_end, is_hash, dedents_at, mark_at}
use Rattle.pylex_listing.specs.Machine.{last_place, tail_of, stop_of, run, remaining, first_state, step_of, past}
use Rattle.pylex_listing.specs.Steps.{entries_of, fault_at, mark}
use Rattle.pylex_listing.proofs.Callers.{listing_is, is_cut}
use Rattle.pyfstring_tokens.specs.FieldTokens.{is_token_kind}
use Rattle.pyparse_marks.proofs.PlaceLemmas.{bytes_both, spot_at, place_on}

-- an entry begins after some of a text
pub record Placed (text : List ℕ) (e : Entry) : Type 0 where
  pub earlier : List ℕ
  pub following : List ℕ
  pub whole : text ≡ earlier ++ following
  pub begins : e.«from» ≡ bytes_in earlier
  pub place : e.start ≡ place_past (spot_at 1 0) earlier

abbrev pub IsPlaced : List ℕ → Entry → Type 0
IsPlaced text e = is_token_kind e.kind ≡ true → Placed text e

abbrev AllPlaced : List ℕ → List Step → Type 0
AllPlaced text [] = Unit {0}
AllPlaced text (steps.Entry e ∷ ss) = IsPlaced text e × AllPlaced text ss
AllPlaced text (steps.End ∷ ss) = AllPlaced text ss
AllPlaced text (steps.Fault f ∷ ss) = AllPlaced text ss

both : (text : List ℕ) (ss rs : List Step) → AllPlaced text ss → AllPlaced text rs → AllPlaced text (ss ++ rs)
both text [] rs a b = b
both text (steps.Entry e ∷ ss) rs a b = (a.0, both text ss rs a.1 b)
both text (steps.End ∷ ss) rs a b = both text ss rs a b
both text (steps.Fault f ∷ ss) rs a b = both text ss rs a b

up : (text : List ℕ) (ss : List Step) → AllPlaced text ss → AllPlaced text (up_to_end ss)
up text [] a = tt
up text (steps.Entry e ∷ ss) a = (a.0, up text ss a.1)
up text (steps.End ∷ ss) a = tt
up text (steps.Fault f ∷ ss) a = tt

-- ---- What is no token of a line.

abbrev is_beside : Step → Bool
is_beside (steps.Entry e) = not (is_token_kind e.kind)
is_beside steps.End = true
is_beside (steps.Fault f) = true

beside : (text : List ℕ) (ss : List Step) → list_all is_beside ss ≡ true → AllPlaced text ss
beside text [] h = tt
beside text (steps.Entry e ∷ ss) h =
    let p = and_parts (not (is_token_kind e.kind)) (list_all is_beside ss) h in
    (λ is. absurd (no (is_token_kind e.kind) is p.0), beside text ss p.1)
  where
    no : (b : Bool) → b ≡ true → not b ≡ true → ⊥
    no true is h = cc
    no false is h = cc
beside text (steps.End ∷ ss) h = beside text ss (and_parts true (list_all is_beside ss) h).1
beside text (steps.Fault f ∷ ss) h = beside text ss (and_parts true (list_all is_beside ss) h).1

two : {a b : Bool} → a ≡ true → b ≡ true → (a && b) ≡ true
two e f = rw (e, f) refl

dedents_beside : (n o : ℕ) (p : Place) → list_all is_beside (replicate n (mark_at kinds.Dedent o p p)) ≡ true
dedents_beside zero o p = refl
dedents_beside (suc n) o p = dedents_beside n o p

layout_beside : (s : State) → list_all is_beside (layout_of s) ≡ true
unfolding layout_of
layout_beside s = by s.margin (list_all (λ v. nat_lt v s.width) s.levels) (list_any (λ v. v == s.width) s.levels)
  where
    by : (m a b : Bool) → list_all is_beside
        (if m then
        (if a then step_of kinds.Indent None s.line s.now ∷ []
        else (if b then dedents_at s.width s.levels s.now.offset s.now.place else fault_at errors.UnindentMismatch s.now.place ∷ []))
        else []) ≡ true
    by true true b = refl
    by true false true = dedents_beside (count_by (nat_lt s.width) s.levels) s.now.offset s.now.place
    by true false false = refl
    by false a b = refl

end_beside : (s : State) → list_all is_beside (last_line_end s) ≡ true
unfolding last_line_end
end_beside s = by s.logical (is_hash s.lead) s.margin
  where
    by : (l h m : Bool) → list_all is_beside
        (if l then (if h then [] else mark_at kinds.Newline s.now.offset s.now.place (further s.now.place 1) ∷ []) else
        (if m then [] else mark_at kinds.Nl s.now.offset s.now.place s.now.place ∷ [])) ≡ true
    by true true m = refl
    by true false m = refl
    by false h true = refl
    by false h false = refl

tail_beside : (s : State) → list_all is_beside (tail_of s) ≡ true
unfolding tail_of
tail_beside s = by (not (s.depth == 0) || s.joined)
  where
    by : (b : Bool) → list_all is_beside
        (if b then fault_at errors.EofInStatement (spot_at (row_after s.now.place) 0) ∷ []
        else last_line_end s ++ dedents_at 0 s.levels s.now.offset (last_place s) ++ mark_at kinds.EndMarker s.now.offset (last_place s)
        (last_place s) ∷ steps.End ∷ []) ≡ true
    by true = refl
    by false =
        let last : List Step = mark_at kinds.EndMarker s.now.offset (last_place s) (last_place s) ∷ steps.End ∷ [] in
        let dedents : List Step = dedents_at 0 s.levels s.now.offset (last_place s) in
        list_all-append is_beside (last_line_end s ++ dedents) last
        ∙ two (list_all-append is_beside (last_line_end s) dedents
        ∙ two (end_beside s) (dedents_beside (count_by (nat_lt 0) s.levels) s.now.offset (last_place s))) refl

fault_beside : (fault : Option ListingFault) (p : Place) (left : List ℕ) → is_beside (stop_fault fault p left) ≡ true
unfolding stop_fault
fault_beside fault p left = by (opens_string left) (is_open_string left) fault
  where
    by : (a b : Bool) (o : Option ListingFault) → is_beside
        (if not a then fault_at errors.BadCharacter p else (if not b then fault_at errors.UnterminatedString p
        else elim o [ Some f ↦ steps.Fault f | None ↦ fault_at errors.EofInString p ])) ≡ true
    by true true (Some f) = refl
    by true true None = refl
    by true false o = refl
    by false b o = refl

stop_beside : (fault : Option ListingFault) (s : State) (left : List ℕ) → list_all is_beside (stop_of fault s left) ≡ true
unfolding stop_of
stop_beside fault s left = by (not (length left == 0)) fault
  where
    by : (b : Bool) (o : Option ListingFault) → list_all is_beside
        (if b then layout_of s ++ stop_fault fault s.now.place left ∷ [] else elim o [ Some f ↦ steps.Fault f ∷ [] | None ↦ tail_of s ]) ≡
        true
    by true o =
        list_all-append is_beside (layout_of s) (stop_fault fault s.now.place left ∷ [])
        ∙ two (layout_beside s) (two (fault_beside fault s.now.place left) refl)
    by false (Some f) = refl
    by false None = tail_beside s

-- ---- The entries of lexemes.

-- a state stands after these characters of a text
record Stands (text before rest : List ℕ) (s : State) : Type 0 where
  pub whole : text ≡ before ++ rest
  pub offset : s.now.offset ≡ bytes_in before
  pub place : s.now.place ≡ place_past (spot_at 1 0) before

entry_placed : (text before rest : List ℕ) (s : State) (x : Lexeme) → Stands text before rest s → AllPlaced text (entry_by s x)
unfolding entry_by
entry_placed text before rest s x i = by x.«class»
  where
    own : {e : Entry} → e.start ≡ s.now.place → e.«from» ≡ s.now.offset → IsPlaced text e
    own start begin _ =
        record { earlier = before; following = rest; whole = i.whole; begins = begin ∙ i.offset; place = start ∙ i.place }

    operator : (b : Bool) (e : Entry) → e.start ≡ s.now.place → e.«from» ≡ s.now.offset
        → AllPlaced text (if b then fault_at errors.UnmatchedCloser s.now.place ∷ [] else steps.Entry e ∷ [])
    operator true e start begin = tt
    operator false e start begin = (own start begin, tt)

    by : (k : Class) → AllPlaced text (entry_by s (record { «class» = k; text = x.text }))
    by Name = (own refl refl, tt)
    by Number = (own refl refl, tt)
    by String = (own refl refl, tt)
    by (Operator o) = operator (is_closer o && (s.depth == 0)) _ refl refl
    by Comment = (own refl refl, tt)
    by Blanks = tt
    by LineEnd = (own refl refl, tt)
    by Join = tt

gives_placed : (text before rest : List ℕ) (s : State) (x : Lexeme) → Stands text before rest s → AllPlaced text (gives s x)
unfolding gives
gives_placed text before rest s x i =
    both text (if is_significant x then layout_of s else []) (entry_by s x) (by (is_significant x)) (entry_placed text before rest s x i)
  where
    by : (b : Bool) → AllPlaced text (if b then layout_of s else [])
    by true = beside text (layout_of s) (layout_beside s)
    by false = tt

after_now : (s : State) (x : Lexeme) → (after s x).now ≡ past s.now x.text
unfolding after
after_now s x = refl

stands_on : (text before rest : List ℕ) (s : State) (x : Lexeme) → Stands text before (x.text ++ rest) s
    → Stands text (before ++ x.text) rest (after s x)
stands_on text before rest s x i =
    record {
      whole = i.whole ∙ sym (append_assoc before x.text rest);
      offset = ap (λ p. p.offset) (after_now s x) ∙ ap (λ (n : ℕ). n + bytes_in x.text) i.offset ∙ sym (bytes_both before x.text);
      place = ap (λ p. p.place) (after_now s x) ∙ ap (λ (p : Place). place_past p x.text) i.place
          ∙ sym (place_on (spot_at 1 0) before x.text);
    }

run_placed : (text : List ℕ) (fault : Option ListingFault) (left before : List ℕ) (s : State) (xs : List Lexeme)
    → Stands text before (flat_map (λ x. x.text) xs ++ left) s → AllPlaced text (run fault left s xs)
run_placed text fault left before s [] i = beside text (stop_of fault s left) (stop_beside fault s left)
run_placed text fault left before s (x ∷ xs) i =
    let rest = flat_map (λ (y : Lexeme). y.text) xs ++ left in
    let here : Stands text before (x.text ++ rest) s =
    subst (λ (r : List ℕ). Stands text before r s) (append_assoc x.text (flat_map (λ (y : Lexeme). y.text) xs) left) i in
    both text (gives s x) (run fault left (after s x) xs) (gives_placed text before (x.text ++ rest) s x here)
    (run_placed text fault left (before ++ x.text) (after s x) xs (stands_on text before rest s x here))

remaining_placed : (s : Source) → AllPlaced s.text (remaining s.fault first_state s.text)
unfolding remaining
remaining_placed s =
    up s.text (run s.fault (left_by_cut s.text) first_state (cut s.text)) (run_placed s.text s.fault (left_by_cut s.text) [] first_state
    (cut s.text) (record { whole = (is_cut s.text).joined; offset = refl; place = refl }))

-- ---- The listing.

among : (text : List ℕ) (ss : List Step) → AllPlaced text ss → All (IsPlaced text) (entries_of ss)
among text [] a k d within = absurd (omega (arith, within))
among text (steps.Entry e ∷ ss) a zero d within = a.0
among text (steps.Entry e ∷ ss) a (suc k) d within = among text ss a.1 k d (omega (arith, within))
among text (steps.End ∷ ss) a k d within = among text ss a k d within
among text (steps.Fault f ∷ ss) a k d within = among text ss a k d within

listing_placed : (s : Source) → AllPlaced s.text (listing s)
listing_placed s =
    subst (AllPlaced s.text) (sym (listing_is s)) (encoding (mark kinds.Encoding [] origin origin) refl)
  where
    encoding : (x : Step) → is_beside x ≡ true → AllPlaced s.text (x ∷ remaining s.fault first_state s.text)
    encoding x is = both s.text (x ∷ []) (remaining s.fault first_state s.text) (beside s.text (x ∷ []) (two is refl)) (remaining_placed s)

pub entries_placed : (s : Source) → All (IsPlaced s.text) (entries_of (listing s))
entries_placed s = among s.text (listing s) (listing_placed s)
