-- What a lister meets where the lexemes end.
--
-- Carries: closing_step, stop. On: Measured, Run, Steps, Significant and 1 more.
use Rattle.std.proofs.Common.{◌≡◌, ℕ, suc, ◌-◌, ◌<◌, ◌≤◌, drop, Bool, true, false, not, ◌&&◌, ◌||◌, ◌==◌, List, [], ◌∷◌, ◌++◌, length, refl}
use Rattle.std.proofs.Common.{ap, ◌∙◌, sym, subst, arith, cond, replicate, zero, Option, Some, None, ⊎_elim}
use Rattle.std.specs.Prelude.{count_by, nat_lt}
use Rattle.std.specs.Str.{chars, encode_utf8_all, IsUtf8}
use Rattle.std.proofs.lemmas.Str.{chars-nil, encodes-chars}
use Rattle.std.proofs.lemmas.Bool.Decides.{nat_tests}
use Rattle.std.proofs.lemmas.Grind.{common_steps}
use Rattle.std.proofs.lemmas.Bool.{cases_Bool}
use Rattle.pylex.specs.declared.entries.Emitted.{Emitted}
use Rattle.pylex.specs.declared.entries.Emitted.TheVariants as gives
use Rattle.pylex_listing.specs.declared.entries.Entry.{Entry}
use Rattle.pylex_listing.specs.declared.entries.ListingFault.{ListingFault}
use Rattle.pylex_listing.specs.declared.entries.ListingError.TheVariants as errors
use Rattle.pylex_listing.specs.declared.entries.Step.{Step}
use Rattle.pylex_listing.specs.declared.entries.Step.TheVariants as steps
use Rattle.pylex_listing.specs.declared.kind.Kind.TheVariants as kinds
use Rattle.pysource.specs.declared.places.Place.{Place}
use Rattle.pylex.specs.declared.line_state.LineState.{LineState}
use Rattle.pylex_lexeme.specs.Lexemes.{lexeme_at}
use Rattle.pylex_lexeme.specs.Cuts.{begins_significant}
use Rattle.pylex_listing.specs.Listing.{further, stop_fault, row_after, up_to_end}
use Rattle.pylex_listing.specs.Steps.{first_step, fault_at}
use Rattle.pylex_listing.specs.Machine.{State, is_hash, stop_of, tail_of, last_line_end, last_place, remaining, after_steps, mark_at}
use Rattle.pylex_listing.specs.Machine.{dedents_at}
use Rattle.pylex.specs.LineState.{with_levels, given, GivesNoText, closing, IsAscending, StopAhead}
use Rattle.pylex_listing.proofs.Callers.{up_to_end-append, all_cut}
use Rattle.pylex.proofs.MachineLaws.Steps.{remaining_stop}
use Rattle.pylex.proofs.Listers.Measured.{stop_within, after_steps-append}
use Rattle.pylex.proofs.Listers.Finding.{settled_layout}

-- a text with bytes has characters
pub some_chars : (bytes : List ℕ) → IsUtf8 bytes → chars bytes ≡ [] → bytes ≡ []
some_chars bytes u e = sym (encodes-chars bytes u) ∙ ap encode_utf8_all e

-- at a stop within the text no layout is left
significant_at_stop : (c : ℕ) (cs : List ℕ) → lexeme_at (c ∷ cs) ≡ None → begins_significant (c ∷ cs) ≡ true
significant_at_stop c cs e = ⊎_elim
    (λ (b : begins_significant (c ∷ cs) ≡ true). b)
    (λ (b : begins_significant (c ∷ cs) ≡ false). let n = all_cut (c ∷ cs) b e in cc)
    (cases_Bool (begins_significant (c ∷ cs)))

and_true : (b : Bool) → (b && true) ≡ b
and_true true = refl
and_true false = refl

pub stop_found : (fault : Option ListingFault) (p : LineState) (ls : List ℕ) (c : ℕ) (cs : List ℕ) → StopAhead p (c ∷ cs)
    → remaining fault (with_levels p ls) (c ∷ cs) ≡ stop_fault fault p.now.place (c ∷ cs) ∷ []
stop_found fault p ls c cs stop =
    let s : State = with_levels p ls in
    let last = stop_fault fault p.now.place (c ∷ cs) in
    let significant = significant_at_stop c cs stop.none in
    let margin : p.margin ≡ false = sym (and_true p.margin) ∙ ap (λ b. p.margin && b) (sym significant) ∙ stop.settled in
    remaining_stop fault s (c ∷ cs) stop.none
    ∙ ap up_to_end (stop_within fault s c cs ∙ ap (λ ss. ss ++ last ∷ []) (settled_layout s margin))
    ∙ one_step fault p.now.place (c ∷ cs)
  where
    one_by : (step : Step) → up_to_end (step ∷ []) ≡ step ∷ []
    one_by (steps.Entry e) = refl
    one_by steps.End = refl
    one_by (steps.Fault f) = refl

    one_step : (fault : Option ListingFault) (q : Place) (left : List ℕ) → up_to_end ([] ++ stop_fault fault q left ∷ []) ≡
        stop_fault fault q left ∷ []
    one_step fault q left = one_by (stop_fault fault q left)

-- the text's end, with a faulty line after it
stop_line : (f : ListingFault) (s : State) → stop_of (Some f) s [] ≡ steps.Fault f ∷ []
unfolding stop_of
stop_line f s = refl

pub line_found : (f : ListingFault) (s : State) → lexeme_at [] ≡ None → remaining (Some f) s [] ≡ steps.Fault f ∷ []
line_found f s e = remaining_stop (Some f) s [] e ∙ ap up_to_end (stop_line f s)

-- within brackets, or after a join
stop_open : (s : State) → (not (s.depth == 0) || s.joined) ≡ true → stop_of None s [] ≡ fault_at errors.EofInStatement
    (record { row = row_after s.now.place; column = 0 }) ∷ []
unfolding stop_of tail_of
stop_open s h = rw h refl

pub open_found : (s : State) → lexeme_at [] ≡ None → (not (s.depth == 0) || s.joined) ≡ true
    → remaining None s [] ≡ fault_at errors.EofInStatement (record { row = row_after s.now.place; column = 0 }) ∷ []
open_found s e h = remaining_stop None s [] e ∙ ap up_to_end (stop_open s h)

-- the end itself
abbrev end_of : State → List Step
end_of s = mark_at kinds.EndMarker s.now.offset (last_place s) (last_place s) ∷ steps.End ∷ []

abbrev dedents_of : State → List Step
dedents_of s = dedents_at 0 s.levels s.now.offset (last_place s)

stop_tail : (s : State) → (not (s.depth == 0) || s.joined) ≡ false → stop_of None s [] ≡ (last_line_end s ++ dedents_of s) ++ end_of s
unfolding stop_of tail_of
stop_tail s h = rw h refl

entries_after : (n : ℕ) (e : Entry) (r : List Step) → after_steps (replicate n (steps.Entry e)) r ≡ replicate n (steps.Entry e) ++ r
entries_after zero e r = refl
entries_after (suc n) e r = ap (λ ss. steps.Entry e ∷ ss) (entries_after n e r)

-- the steps of the end are entries and the end
pub tail_found : (s : State) → lexeme_at [] ≡ None → (not (s.depth == 0) || s.joined) ≡ false
    → remaining None s [] ≡ after_steps (last_line_end s) (closing s)
tail_found s e h =
    remaining_stop None s [] e
    ∙ ap up_to_end (stop_tail s h)
    ∙ up_to_end-append (last_line_end s ++ dedents_of s) (end_of s)
    ∙ after_steps-append (last_line_end s) (dedents_of s) (end_of s)
    ∙ ap (after_steps (last_line_end s)) (entries_after (count_by (nat_lt 0) s.levels) _ (end_of s))

-- The same over bytes.
pub stop_in : (fault : Option ListingFault) (p : LineState) (ls bytes : List ℕ) (f : ListingFault) → IsUtf8 bytes
    → (length bytes == 0) ≡ false → StopAhead p (chars bytes) → stop_fault fault p.now.place (chars bytes) ≡ steps.Fault f
    → remaining fault (with_levels p ls) (chars bytes) ≡ steps.Fault f ∷ []
stop_in fault p ls bytes f u some stop is = by_chars (chars bytes) refl stop is
  where
    by_chars : (cs : List ℕ) → chars bytes ≡ cs → StopAhead p cs → stop_fault fault p.now.place cs ≡ steps.Fault f
        → remaining fault (with_levels p ls) cs ≡ steps.Fault f ∷ []
    by_chars [] e stop is = let none = ap length (some_chars bytes u e) in let zero : (length bytes == 0) ≡ true =
        grind (arith, nat_tests) in let bad : false ≡ true = sym some ∙ zero in cc
    by_chars (c ∷ cs) e stop is = stop_found fault p ls c cs stop ∙ ap (λ s. s ∷ []) is

-- no bytes, no characters
pub no_chars_left : (bytes : List ℕ) → (length bytes == 0) ≡ true → chars bytes ≡ []
no_chars_left [] e = chars-nil
no_chars_left (b ∷ bytes) e = let more : (length (b ∷ bytes) == 0) ≡ false = grind (arith, nat_tests) in
    let bad : true ≡ false = sym e ∙ more in cc

pub line_in : (f g : ListingFault) (s : State) (bytes : List ℕ) → (length bytes == 0) ≡ true → lexeme_at (chars bytes) ≡ None → f ≡ g
    → remaining (Some g) s (chars bytes) ≡ steps.Fault f ∷ []
line_in f g s bytes none at same = let e = no_chars_left bytes none in rw (e, same) (line_found g s (ap lexeme_at (sym e) ∙ at))

pub open_in : (s : State) (bytes : List ℕ) (q : Place) → (length bytes == 0) ≡ true → lexeme_at (chars bytes) ≡ None
    → (not (s.depth == 0) || s.joined) ≡ true → q ≡ record { row = row_after s.now.place; column = 0 }
    → remaining None s (chars bytes) ≡ fault_at errors.EofInStatement q ∷ []
open_in s bytes q none at open_now is = let e = no_chars_left bytes none in rw (e, is) (open_found s (ap lexeme_at (sym e) ∙ at) open_now)

pub tail_in : (s : State) (bytes : List ℕ) (lasts : List Step) → (length bytes == 0) ≡ true → lexeme_at (chars bytes) ≡ None
    → (not (s.depth == 0) || s.joined) ≡ false → last_line_end s ≡ lasts → remaining None s (chars bytes) ≡ after_steps lasts (closing s)
tail_in s bytes lasts none at open_now is = let e = no_chars_left bytes none in
    rw (e, ← is) (tail_found s (ap lexeme_at (sym e) ∙ at) open_now)

-- The steps of the end, one by one.
above_ground : (n : ℕ) (levels : List ℕ) → IsAscending n levels → count_by (nat_lt 0) levels ≡ length levels
above_ground n [] h = refl
above_ground n (m ∷ levels) h =
    let more : nat_lt 0 m ≡ true = grind (arith, nat_tests, h.0) in
    let rest = above_ground m levels h.1 in
    grind (arith, common_steps)

-- a DEDENT for each level above 0, ENDMARKER and the end
closing_steps : (p : LineState) (levels : List ℕ) (n : ℕ) → IsAscending 0 levels → length levels ≡ n
    → closing (with_levels p (0 ∷ levels)) ≡ replicate n (mark_at kinds.Dedent p.now.offset (last_place (with_levels p []))
    (last_place (with_levels p []))) ++ mark_at kinds.EndMarker p.now.offset (last_place (with_levels p []))
    (last_place (with_levels p [])) ∷ steps.End ∷ []
closing_steps p levels n h e =
    let place = last_place (with_levels p []) in
    let counted : count_by (nat_lt 0) (0 ∷ levels) ≡ n = above_ground 0 levels h ∙ e in
    ap (λ k. replicate k (mark_at kinds.Dedent p.now.offset place place) ++ mark_at kinds.EndMarker p.now.offset place place
    ∷ steps.End ∷ []) counted

after_end : (k : ℕ) → first_step (drop k (steps.End ∷ [])) ≡ steps.End
after_end zero = refl
after_end (suc k) = after_none k
  where
    after_none : (k : ℕ) → first_step (drop k []) ≡ steps.End
    after_none zero = refl
    after_none (suc k) = refl

first_repeated : (n k : ℕ) (d : Step) (ss : List Step) → k < n → first_step (drop k (replicate n d ++ ss)) ≡ d
first_repeated zero k d ss h = absurd (omega arith)
first_repeated (suc n) zero d ss h = refl
first_repeated (suc n) (suc k) d ss h = first_repeated n k d ss (omega arith)

after_repeated : (n k : ℕ) (d : Step) (ss : List Step) → n ≤ k → drop k (replicate n d ++ ss) ≡ drop (k - n) ss
after_repeated zero k d ss h = let z : k - 0 ≡ k = omega arith in rw z refl
after_repeated (suc n) zero d ss h = absurd (omega arith)
after_repeated (suc n) (suc k) d ss h = let z : suc k - suc n ≡ k - n = omega arith in rw z (after_repeated n k d ss (omega arith))

pub closing_dedent : (p : LineState) (levels : List ℕ) (n k : ℕ) (e : Entry) → IsAscending 0 levels → length levels ≡ n → k < n
    → mark_at kinds.Dedent p.now.offset (last_place (with_levels p [])) (last_place (with_levels p [])) ≡ steps.Entry e
    → steps.Entry e ≡ first_step (drop k (closing (with_levels p (0 ∷ levels))))
closing_dedent p levels n k e h c less is = sym (ap (λ ss. first_step (drop k ss)) (closing_steps p levels n h c)
    ∙ first_repeated n k _ _ less ∙ is)

pub closing_marker : (p : LineState) (levels : List ℕ) (n k : ℕ) (e : Entry) → IsAscending 0 levels → length levels ≡ n → k ≡ n
    → mark_at kinds.EndMarker p.now.offset (last_place (with_levels p [])) (last_place (with_levels p [])) ≡ steps.Entry e
    → steps.Entry e ≡ first_step (drop k (closing (with_levels p (0 ∷ levels))))
closing_marker p levels n k e h c same is =
    let z : k - n ≡ 0 = omega arith in
    sym (ap (λ ss. first_step (drop k ss)) (closing_steps p levels n h c) ∙ ap first_step (after_repeated n k _ _ (omega arith))
    ∙ ap (λ j. first_step (drop j (mark_at kinds.EndMarker p.now.offset (last_place (with_levels p [])) (last_place (with_levels p []))
    ∷ steps.End ∷ []))) z ∙ is)

pub closing_end : (p : LineState) (levels : List ℕ) (n k : ℕ) → IsAscending 0 levels → length levels ≡ n → n < k
    → steps.End ≡ first_step (drop k (closing (with_levels p (0 ∷ levels))))
closing_end p levels n k h c more =
    let z : k - n ≡ suc (k - suc n) = omega arith in
    sym (ap (λ ss. first_step (drop k ss)) (closing_steps p levels n h c) ∙ ap first_step (after_repeated n k _ _ (omega arith))
    ∙ ap (λ j. first_step (drop j (mark_at kinds.EndMarker p.now.offset (last_place (with_levels p [])) (last_place (with_levels p []))
    ∷ steps.End ∷ []))) z ∙ after_end (k - suc n))

-- the line end that the text's end gives has no text
last_line_end_empty : (s : State) (e : Entry) → last_line_end s ≡ steps.Entry e ∷ [] → e.«from» ≡ e.to
unfolding last_line_end
last_line_end_empty s e is = by s.logical (is_hash s.lead) s.margin is
  where
    same_entry : (d e : Entry) → d.«from» ≡ d.to → steps.Entry d ∷ [] ≡ steps.Entry e ∷ [] → e.«from» ≡ e.to
    same_entry d e h q = let x : d ≡ e = cc in subst (λ (y : Entry). y.«from» ≡ y.to) x h

    by : (l h m : Bool) → cond l (cond h [] (mark_at kinds.Newline s.now.offset s.now.place (further s.now.place 1) ∷ []))
        (cond m [] (mark_at kinds.Nl s.now.offset s.now.place s.now.place ∷ [])) ≡ steps.Entry e ∷ [] → e.«from» ≡ e.to
    by true true m q = absurd cc
    by true false m q = same_entry _ e refl q
    by false h true q = absurd cc
    by false h false q = same_entry _ e refl q

pub given_empty : (s : State) (g : Emitted) → last_line_end s ≡ given g → GivesNoText g
given_empty s gives.Nothing is = tt
given_empty s (gives.Entry e) is = last_line_end_empty s e is
given_empty s (gives.Fault f) is = tt
