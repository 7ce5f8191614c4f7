-- Where the text of an entry begins and ends.
--
-- Carries: advance, step_on, closing_step, stop. On: Law, Resumed, Significant.
use Rattle.std.proofs.Common.{◌≡◌, ℕ, ◌+◌, ◌≤◌, ◌<◌, Bool, true, false, ◌&&◌, ◌||◌, ◌==◌, cond, List, [], ◌∷◌, ◌++◌, length, drop, refl, ap}
use Rattle.std.proofs.Common.{◌∙◌, sym, subst, arith, inl, inr, ◌⊎◌, ⊎_elim, Some, None}
use Rattle.std.specs.List.{list_all}
use Rattle.std.proofs.lemmas.Bool.Decides.{nat_tests}
use Rattle.std.proofs.lemmas.Str.{encode_ascii, length-le-encodes}
use Rattle.std.proofs.lemmas.Bool.{cases_Bool, and_parts}
use Rattle.pysource.specs.Places.{place_after}
use Rattle.pysource.specs.declared.places.Place.{Place}
use Rattle.pylex_lexeme.specs.declared.lexeme.Class.{Class}
use Rattle.pylex_lexeme.specs.declared.lexeme.Class.TheVariants.{Name, Number, String, Operator, Comment, Blanks, LineEnd, Join}
use Rattle.pylex.specs.declared.entries.Emitted.{Emitted}
use Rattle.pylex.specs.declared.entries.Emitted.TheVariants as gives
use Rattle.pylex_listing.specs.declared.entries.Entry.{Entry}
use Rattle.pylex_listing.specs.declared.entries.ListingFault.{ListingFault}
use Rattle.pylex_listing.specs.declared.entries.Step.TheVariants as steps
use Rattle.pylex_listing.specs.declared.kind.Kind.{Kind}
use Rattle.pylex_listing.specs.declared.kind.Kind.TheVariants as kinds
use Rattle.pylex_listing.specs.declared.point.Point.{Point}
use Rattle.pylex.specs.declared.line_state.LineState.{LineState}
use Rattle.pylex_lexeme.specs.Chars.{is_blank_char}
use Rattle.pylex_lexeme.specs.Chunks.{EndsLine}
use Rattle.pylex_lexeme.specs.Operators.{is_closer}
use Rattle.pylex_lexeme.specs.Lexemes.{Lexeme, lexeme_at, lexeme_len, is_blanks_class}
use Rattle.pylex_listing.specs.Lines.{is_of_blanks}
use Rattle.pylex_lexeme.specs.Chars.{bytes_in}
use Rattle.pylex_listing.specs.Listing.{last_line, further}
use Rattle.pylex_listing.specs.Machine.{State, place_past, past, after, entry_by, ends_line, first_state, is_hash, last_line_end, mark_at}
use Rattle.pylex_listing.specs.Machine.{step_of}
use Rattle.pylex.specs.LineState.{with_levels, measured, begun_anew, Walks, stays, silent, level, dedent, Comes, EntryAhead, given, GivesAt}
use Rattle.pylex.specs.LineState.{IsMeasuring}
use Rattle.pylex.specs.Listers.{IsIn}
use Rattle.pylex_listing.proofs.Callers.{place_after-append, bytes_in-append, blanks_text}
use Rattle.pylex.proofs.Resumption.Resumed.{column_is}

-- A walk goes on in the text.
pub offset_after : (s : State) (x : Lexeme) → (after s x).now.offset ≡ s.now.offset + bytes_in x.text
unfolding after
offset_after s x = refl

pub walks_further : (t : State) (ds : List ℕ) (n : ℕ) (s : State) (cs : List ℕ) → Walks t ds n s cs → s.now.offset ≤ t.now.offset
walks_further t ds n s cs stays = omega arith
walks_further t ds n s cs (silent m r bs x d e g w) =
    let one = offset_after s x in
    let more = walks_further t ds n (after s x) (drop (lexeme_len cs) cs) w in
    omega arith
walks_further t ds n s cs (level m r bs a b l c w) = walks_further t ds n (measured s) cs w
walks_further t ds n s cs (dedent m r bs ls v a b e l i w) = walks_further t ds m (record s { levels = ls }) cs w

-- The own entry of a lexeme is its text.
record Spans (s : State) (t : List ℕ) (e : Entry) : Type 0 where
  begins : e.«from» ≡ s.now.offset
  ends : e.to ≡ s.now.offset + bytes_in t

own_spans : (s : State) (x : Lexeme) (e : Entry) → entry_by s x ≡ steps.Entry e ∷ [] → Spans s x.text e
unfolding entry_by
own_spans s x e q = by_class x.«class» x.text q
  where
    one : (t : List ℕ) (d : Entry) → Spans s t d → steps.Entry d ∷ [] ≡ steps.Entry e ∷ [] → Spans s t e
    one t d h q = let same : d ≡ e = cc in subst (Spans s t) same h

    by_closer : (t : List ℕ) (b : Bool) (f : ListingFault) (d : Entry) → Spans s t d → cond b (steps.Fault f ∷ []) (steps.Entry d ∷ []) ≡
        steps.Entry e ∷ [] → Spans s t e
    by_closer t true f d h q = absurd cc
    by_closer t false f d h q = one t d h q

    by_class : (k : Class) (t : List ℕ) → entry_by s (record { «class» = k; text = t }) ≡ steps.Entry e ∷ [] → Spans s t e
    by_class Name t q = one t _ (record { begins = refl; ends = refl }) q
    by_class Number t q = one t _ (record { begins = refl; ends = refl }) q
    by_class String t q = one t _ (record { begins = refl; ends = refl }) q
    by_class (Operator o) t q = by_closer t (is_closer o && (s.depth == 0)) _ _ (record { begins = refl; ends = refl }) q
    by_class Comment t q = one t _ (record { begins = refl; ends = refl }) q
    by_class Blanks t q = absurd cc
    by_class LineEnd t q = one t _ (record { begins = refl; ends = refl }) q
    by_class Join t q = absurd cc

pub entry_range : (levels : List ℕ) (p : LineState) (cs : List ℕ) (e : Entry) (q : LineState) (ds : List ℕ) → EntryAhead levels p cs e q ds
    → (p.now.offset ≤ e.«from») × (e.to ≡ q.now.offset)
entry_range levels p cs e q ds h =
    let s : State = with_levels h.there (0 ∷ levels) in
    let own = own_spans s h.lexeme e h.own in
    let came = walks_further s h.before 0 (with_levels p (0 ∷ levels)) cs h.comes.walks in
    let following : q.now.offset ≡ s.now.offset + bytes_in h.lexeme.text = ap (λ (r : State). r.now.offset) h.goes ∙ offset_after s h.lexeme in
    (omega arith, own.ends ∙ sym following)

-- What is left of a text, by where a state stands in it.
pub in_offset : (text : List ℕ) (s : State) (ds : List ℕ) → IsIn text s ds → s.now.offset + bytes_in ds ≡ bytes_in text
in_offset text s ds i = ap (λ n. n + bytes_in ds) i.offset ∙ sym (bytes_in-append i.before ds) ∙ ap bytes_in (sym i.whole)

-- Blanks go on in their line, by a column for each byte.
blank_small : (c : ℕ) → is_blank_char c ≡ true → (c < 128) × ((c == 10) ≡ false)
blank_small c h = (grind (arith, nat_tests), grind (arith, nat_tests))

one_byte : (c : ℕ) → c < 128 → bytes_in (c ∷ []) ≡ 1
one_byte c h = ap (λ u. length (u ++ [])) (encode_ascii c h)

blanks_across : (p : Place) (t : List ℕ) → list_all is_blank_char t ≡ true → p.column + bytes_in t ≡ (place_past p t).column
blanks_across p [] h = omega arith
blanks_across p (c ∷ t) h =
    let both = and_parts (is_blank_char c) (list_all is_blank_char t) h in
    let small = blank_small c both.0 in
    let same = small.1 in
    let one = one_byte c small.0 in
    let whole = bytes_in-append (c ∷ []) t in
    let more = blanks_across (record { row = p.row; column = p.column + 1 }) t both.1 in
    rw (same, place_past) (omega arith)

blanks_class : (k : Class) → is_blanks_class k ≡ true → k ≡ Blanks
blanks_class Blanks e = refl
blanks_class _ e = cc

-- A line that is yet to be measured stays one of blanks up to here.
abbrev pub Measures : State → Type 0
Measures s = s.margin ≡ true → s.now.offset ≤ s.line.offset + s.now.place.column

measures_after : (s : State) (cs : List ℕ) (x : Lexeme) → lexeme_at cs ≡ Some x → Measures s → Measures (after s x)
unfolding after
measures_after s cs x e h = by_end (ends_line s x)
  where
    by_end : (b : Bool) → (b || (is_of_blanks x && s.margin)) ≡ true
        → s.now.offset + bytes_in x.text ≤ (cond {A = Point} b (past s.now x.text) s.line).offset + (place_past s.now.place x.text).column
    by_end true m = omega arith
    by_end false m =
        let both = and_parts (is_of_blanks x) s.margin m in
        let across = blanks_across s.now.place x.text (blanks_text cs x e (blanks_class x.«class» both.0)) in
        let before = h both.1 in
        omega arith

pub measuring_walks : (t : State) (ds : List ℕ) (n : ℕ) (s : State) (cs : List ℕ) → Walks t ds n s cs → Measures s → Measures t
measuring_walks t ds n s cs stays h = h
measuring_walks t ds n s cs (silent m r bs x d e g w) h = measuring_walks t ds n (after s x) (drop (lexeme_len cs) cs) w
    (measures_after s cs x e h)
measuring_walks t ds n s cs (level m r bs a b l c w) h = measuring_walks t ds n (measured s) cs w (λ f. absurd (never f))
  where
    never : false ≡ true → ⊥
    never f = cc
measuring_walks t ds n s cs (dedent m r bs ls v a b e l i w) h = measuring_walks t ds m (record s { levels = ls }) cs w h

pub measuring_comes : (levels : List ℕ) (p : LineState) (cs : List ℕ) (q : LineState) (ds : List ℕ) → Comes levels p cs q ds
    → IsMeasuring p → IsMeasuring q
measuring_comes levels p cs q ds c h = measuring_walks (with_levels q (0 ∷ levels)) ds 0 (with_levels p (0 ∷ levels)) cs c.walks h

-- after an entry and at a text's front the line begins here
pub measuring_anew : (q r : LineState) → ((ns : List ℕ) → with_levels r ns ≡ begun_anew (with_levels q ns)) → IsMeasuring r
measuring_anew q r f m =
    let now : r.now.offset ≡ q.now.offset = ap (λ (s : State). s.now.offset) (f []) in
    let line : r.line.offset ≡ q.now.offset = ap (λ (s : State). s.line.offset) (f []) in
    omega arith

pub measuring_start : (p : LineState) → with_levels p (0 ∷ []) ≡ first_state → IsMeasuring p
measuring_start p f m = let now : p.now.offset ≡ 0 = ap (λ (s : State). s.now.offset) f in omega arith

-- The line of a state begins after whole lines before it.
pub advance_column : (p : Place) (t : List ℕ) → (place_past p t).column ≤ p.column + length t
advance_column p [] = omega arith
advance_column p (c ∷ t) = ⊎_elim
    (λ (e : (c == 10) ≡ true). let h = advance_column (record { row = p.row + 1; column = 0 }) t in rw (e, place_past) (omega arith))
    (λ (e : (c == 10) ≡ false). let h = advance_column (record { row = p.row; column = p.column + 1 }) t in
    rw (e, place_past) (omega arith))
    (cases_Bool (c == 10))

line_begins : (before : List ℕ) → (before ≡ []) ⊎ EndsLine before → (place_after before).column ≡ 0
unfolding place_after
line_begins before (inl e) = ap (λ t. (place_after t).column) e
line_begins before (inr l) = ap (λ t. (place_after t).column) l.1 ∙ ap (λ (p : Place). p.column) (place_after-append l.0 (10 ∷ []))

-- of two fronts of a text, the one with no more after it goes on from the other
goes_on_from : (before front rest ds : List ℕ) → before ++ rest ≡ front ++ ds → bytes_in ds ≤ bytes_in rest
    → (more : List ℕ) × (front ≡ before ++ more)
goes_on_from [] front rest ds e h = (front, refl)
goes_on_from (c ∷ before) [] rest ds e h =
    let bytes = bytes_in-append (c ∷ before) rest in
    let some = length-le-encodes (c ∷ before) in
    let same = ap bytes_in e in
    absurd (omega arith)
goes_on_from (c ∷ before) (d ∷ front) rest ds e h =
    let tails : before ++ rest ≡ front ++ ds = cc in
    let more = goes_on_from before front rest ds tails h in
    let is = more.1 in
    (more.0, cc)

pub column_within : (text before rest : List ℕ) (s : State) (ds : List ℕ) → text ≡ before ++ rest → (before ≡ []) ⊎ EndsLine before
    → IsIn text s ds → bytes_in ds ≤ bytes_in rest → bytes_in before + s.now.place.column ≤ s.now.offset
column_within text before rest s ds w l i h =
    let g = goes_on_from before i.before rest ds (sym w ∙ i.whole) h in
    let bytes : s.now.offset ≡ bytes_in before + bytes_in g.0 = i.offset ∙ ap bytes_in g.1 ∙ bytes_in-append before g.0 in
    let column : s.now.place.column ≡ (place_past (place_after before) g.0).column = i.column ∙ ap (λ t. length (last_line t)) g.1
    ∙ sym (column_is (before ++ g.0)) ∙ ap (λ (p : Place). p.column) (place_after-append before g.0) in
    let begins = line_begins before l in
    let within = advance_column (place_after before) g.0 in
    let some = length-le-encodes g.0 in
    omega arith

-- An INDENT is the blanks of its line, a mark has no text.
step_range : (k : Kind) (p q : Point) (e : Entry) → step_of k None p q ≡ steps.Entry e → (e.«from» ≡ p.offset) × (e.to ≡ q.offset)
step_range k p q e h =
    by (record { kind = k; exact = None; start = p.place; «end» = q.place; «from» = p.offset; to = q.offset }) h refl refl
  where
    by : (d : Entry) → steps.Entry d ≡ steps.Entry e → d.«from» ≡ p.offset → d.to ≡ q.offset → (e.«from» ≡ p.offset) × (e.to ≡ q.offset)
    by d h f t = let same : d ≡ e = cc in subst (λ (x : Entry). (x.«from» ≡ p.offset) × (x.to ≡ q.offset)) same (f, t)

pub mark_range : (k : Kind) (o : ℕ) (p q : Place) (e : Entry) → mark_at k o p q ≡ steps.Entry e → (e.«from» ≡ o) × (e.to ≡ o)
mark_range k o p q e h = step_range k (record { place = p; offset = o }) (record { place = q; offset = o }) e h

pub indent_range : (text before rest : List ℕ) (q : LineState) (levels ds : List ℕ) (e : Entry) → text ≡ before ++ rest
    → (before ≡ []) ⊎ EndsLine before → IsIn text (with_levels q levels) ds → bytes_in ds ≤ bytes_in rest → q.margin ≡ true → IsMeasuring q
    → step_of kinds.Indent None q.line q.now ≡ steps.Entry e → (bytes_in before ≤ e.«from») × (e.to ≡ q.now.offset)
indent_range text before rest q levels ds e w l i h m measuring step =
    let range = step_range kinds.Indent q.line q.now e step in
    let column = column_within text before rest (with_levels q levels) ds w l i h in
    let line = measuring m in
    (omega arith, range.1)

-- The line end that the text's end gives stands there.
line_end_at : (s : State) (e : Entry) → last_line_end s ≡ steps.Entry e ∷ [] → (e.«from» ≡ s.now.offset) × (e.to ≡ s.now.offset)
unfolding last_line_end
line_end_at s e is = by s.logical (is_hash s.lead) s.margin is
  where
    same_entry : (d e : Entry) → (d.«from» ≡ s.now.offset) × (d.to ≡ s.now.offset) → steps.Entry d ∷ [] ≡ steps.Entry e ∷ []
        → (e.«from» ≡ s.now.offset) × (e.to ≡ s.now.offset)
    same_entry d e h q = let x : d ≡ e = cc in subst (λ (y : Entry). (y.«from» ≡ s.now.offset) × (y.to ≡ s.now.offset)) x h

    by : (l h m : Bool) → cond l (cond h [] (mark_at kinds.Newline s.now.offset s.now.place (further s.now.place 1) ∷ []))
        (cond m [] (mark_at kinds.Nl s.now.offset s.now.place s.now.place ∷ [])) ≡ steps.Entry e ∷ []
        → (e.«from» ≡ s.now.offset) × (e.to ≡ s.now.offset)
    by true true m q = absurd cc
    by true false m q = same_entry _ e (refl, refl) q
    by false h true q = absurd cc
    by false h false q = same_entry _ e (refl, refl) q

pub given_at : (s : State) (g : Emitted) → last_line_end s ≡ given g → GivesAt s.now.offset g
given_at s gives.Nothing is = tt
given_at s (gives.Entry e) is = line_end_at s e is
given_at s (gives.Fault f) is = tt
