-- How a lister that stands in a source goes on: the cursor that it shows after one entry more.
--
-- Carries: ahead_is, given_next, not_encoding, given_of and 21 more, for Moving, Returning, Skips,
-- CursorBounds. On: Passing, Resuming, Points, Ahead and 13 more.
use Rattle.std.proofs.Common.{◌≡◌, ℕ, ◌+◌, ◌≤◌, ◌<◌, zero, suc, Bool, true, false, not, ◌&&◌, ◌==◌, cond, List, [], ◌∷◌, ◌++◌, length, take}
use Rattle.std.proofs.Common.{drop, map, reverse, refl, ap, ◌∙◌, sym, subst, arith, Some, None}
use Rattle.std.specs.List.{count_by, prefix_len}
use Rattle.std.proofs.lemmas.List.{reverse-append}
use Rattle.std.proofs.lemmas.Bool.Decides.{nat_tests}
use Rattle.pylex_lexeme.specs.declared.kinds.Exact.{Exact}
use Rattle.pylex_lexeme.specs.declared.lexeme.Class.{Class}
use Rattle.pylex_lexeme.specs.declared.lexeme.Class.TheVariants.{Name, Number, String, Operator, Comment, Blanks, LineEnd, Join}
use Rattle.pylex_listing.specs.declared.kind.Kind.TheVariants as kinds
use Rattle.pylex_listing.specs.declared.entries.Entry.{Entry}
use Rattle.pylex_listing.specs.declared.entries.ListingFault.{ListingFault}
use Rattle.pylex_listing.specs.declared.entries.Step.{Step}
use Rattle.pylex_listing.specs.declared.entries.Step.TheVariants as steps
use Rattle.pylex_lexeme.specs.Operators.{is_closer}
use Rattle.pylex_lexeme.specs.Cuts.{begins_significant}
use Rattle.pylex_lexeme.specs.Lexemes.{Lexeme, lexeme_at, lexeme_len, cut}
use Rattle.pylex_listing.specs.Lines.{text_before, depth, closes, is_significant, line_so_far, before_line, is_at_margin}
use Rattle.pylex_lexeme.specs.Chars.{bytes_in}
use Rattle.pylex_listing.specs.Indentation.{width_from, width_at, widths, open_levels}
use Rattle.pysource.specs.Parts.{Parts}
use Rattle.pylex_listing.specs.Listing.{Source, in_characters, listing, rest, origin, last_line}
use Rattle.pylex_listing.specs.Steps.{entries_of, first_step, mark, IsNoEntry}
use Rattle.pylex.specs.Cursors.{CursorParts, given_last_first, has_no_text, is_encoding, with_text, point, ends_in_indent}
use Rattle.pylex_listing.specs.Laws.{is_indent}
use Rattle.pylex.specs.Cursors.{lexemes_to, cursor_at, cursor}
use Rattle.pylex_listing.specs.Machine.{State, after, step_of, entry_by, remaining, first_state, after_steps}
use Rattle.pylex.specs.LineState.{measured, is_above}
use Rattle.pylex.specs.Standing.{Standing, front_to, standing_by, standing, resumed, to_give, Agrees}
use Rattle.pylex.specs.Listers.{Listed, StandsIn, shown_at, Passes, here, lexeme, layout}
use Rattle.pylex_listing.proofs.Callers.{state_of, bytes_in-append, listing_is, line_split, lexeme_full, drop_of, significant_is, push}
use Rattle.pylex.proofs.Listing.Ends.{is_whole}
use Rattle.pylex.proofs.Resumption.Resume.{cursor_skips, cursor_moves}
use Rattle.pylex.proofs.Listers.Measured.{remaining_lexeme}
use Rattle.pylex.proofs.Levels.Layouts.{layout_indent}
use Rattle.pylex_listing.specs.declared.entries.ListingError.TheVariants as errors
use Rattle.pylex.proofs.Listers.Finding.{measured_significant, no_layout}
use Rattle.pylex.proofs.Resumption.Ahead.{Placed, history_is, front_is}
use Rattle.pylex.proofs.Resumption.Resuming.{resumes, stands_in_agreeing, encoding_entry, state_offset, state_at_margin}
use Rattle.pylex.proofs.Resumption.Agreement.{agrees_on}
use Rattle.pylex.proofs.Resumption.Points.{GoesAs, StoodAt, PointOf, point_after_given, given_pointed}
use Rattle.pylex.proofs.Resumption.Passing.{passes_steps, passes_reach, Reached, plain_stood, stood_depth, next_alike, next_of}
use Rattle.pylex.proofs.Levels.OpenLevels.{grounded, above_ground}
use Rattle.pylex_listing.specs.declared.point.Point.{Point}
use Rattle.std.proofs.lemmas.Str.{length-le-encodes}
use Rattle.pylex.proofs.Callers.{is_following, is_own}
use Rattle.pylex.proofs.Listers.Ranges.{offset_after}

-- What a lister that stands in a source still gives is the rest of that source's listing.
stands_as : (l : Listed) (a : Source) (k : ℕ) → StandsIn l a k → standing_by (in_characters l.source) l.shown ≡ standing a k
stands_as l a k h = (stands_in_agreeing a (in_characters l.source) l.shown h.cursor h.agrees).is ∙ ap (λ n. standing a n) h.count

pub rest_in : (l : Listed) (a : Source) (k : ℕ) → StandsIn l a k → to_give (standing_by (in_characters l.source) l.shown) ≡ rest a k
rest_in l a k h =
    resumes (standing_by (in_characters l.source) l.shown) a l.shown.given
    (stands_in_agreeing a (in_characters l.source) l.shown h.cursor h.agrees)
    ∙ ap (rest a) h.count

nothing_more : (j : ℕ) (e : Entry) → first_step (drop j []) ≡ steps.Entry e → ⊥
nothing_more zero e f = cc
nothing_more (suc j) e f = cc

-- Where the next step is an entry, it is given next.
pub record GivenNext (a : Source) (k : ℕ) (e : Entry) : Type 0 where
  pub within : k < length (entries_of (listing a))
  pub given : given_last_first a (k + 1) ≡ e ∷ given_last_first a k

record NextAt (es : List Entry) (k : ℕ) (e : Entry) : Type 0 where
  within : k < length es
  taken : take (k + 1) es ≡ take k es ++ e ∷ []

not_last : (last : Step) (j : ℕ) (e : Entry) → IsNoEntry last → first_step (drop j (last ∷ [])) ≡ steps.Entry e → ⊥
not_last (steps.Entry d) j e s f = s
not_last steps.End zero e s f = cc
not_last steps.End (suc j) e s f = nothing_more j e f
not_last (steps.Fault g) zero e s f = cc
not_last (steps.Fault g) (suc j) e s f = nothing_more j e f

next_at : (es : List Entry) (last : Step) (k : ℕ) (e : Entry) → IsNoEntry last → first_step (drop k (map steps.Entry es ++ last ∷ [])) ≡
    steps.Entry e → NextAt es k e
next_at [] last k e n f = absurd (not_last last k e n f)
next_at (d ∷ es) last zero e n f = let s : d ≡ e = cc in record { within = omega arith; taken = ap (λ x. x ∷ []) s }
next_at (d ∷ es) last (suc k) e n f =
    let h = next_at es last k e n f in
    let w = h.within in
    record { within = omega arith; taken = let o : suc k + 1 ≡ suc (k + 1) = omega arith in rw o (ap (λ xs. d ∷ xs) h.taken) }

pub given_next : (a : Source) (k : ℕ) (e : Entry) → first_step (rest a k) ≡ steps.Entry e → GivenNext a k e
unfolding given_last_first
given_next a k e f =
    let w = is_whole a in
    let n = next_at (entries_of (listing a)) w.last k e w.stops (ap (λ ss. first_step (drop k ss)) (sym w.whole) ∙ f) in
    record { within = n.within; given = ap reverse n.taken ∙ reverse-append (take k (entries_of (listing a))) (e ∷ []) }

-- and it isn't the encoding's, but for the first
pub not_encoding : (a : Source) (k : ℕ) (e : Entry) → 0 < k → first_step (rest a k) ≡ steps.Entry e → is_encoding e ≡ false
not_encoding a k e n f =
    let g = given_next a k e f in
    given_pointed a k e n g.within g.given

-- An entry without text: the point stays.
pub after_empty : (l : Listed) (a : Source) (k : ℕ) (e : Entry) → StandsIn l a k → 0 < k → first_step (rest a k) ≡ steps.Entry e
    → has_no_text e ≡ true → StandsIn (record l { shown = record l.shown { given = k + 1; skip = l.shown.skip + 1 } }) a (k + 1)
after_empty l a k e h n f t =
    let g = given_next a k e f in
    let w = g.within in
    let c : l.shown ≡ cursor a k = (is_following h.cursor).is ∙ ap (cursor a) h.count in
    record {
      cursor = is_own (record {
        within = omega arith;
        is = ap (λ (p : CursorParts). record p { given = k + 1; skip = p.skip + 1 }) c
            ∙ sym (cursor_skips a k e g.given t (not_encoding a k e n f));
      });
      count = refl;
      agrees = h.agrees;
    }

-- The cursor of a source, by the lexemes before its point.
pub record PointOfCursor (a : Source) (k : ℕ) : Type 0 where
  pub indented : Bool
  pub offset : ℕ
  pub point : PointOf a indented offset
  pub skip : ℕ
  pub is : cursor a k ≡ cursor_at k skip indented point.before

pub cursor_point : (a : Source) (k : ℕ) → PointOfCursor a k
unfolding cursor
cursor_point a k =
    let es = given_last_first a k in
    let p = point_after_given a k in
    record {
      indented = ends_in_indent (with_text es);
      offset = point (with_text es);
      point = p;
      skip = count_by (λ e. not (is_encoding e)) (take (prefix_len has_no_text es) es);
      is = ap (cursor_at k (count_by (λ e. not (is_encoding e)) (take (prefix_len has_no_text es) es)) (ends_in_indent (with_text es)))
          (ap (λ n. lexemes_to n [] (cut a.text)) p.at ∙ history_is a p.before p.later p.text p.left p.placed);
    }

line_is : (a : Source) (h xs : List Lexeme) (text left : List ℕ) (c : CursorParts) → Placed a h xs text left
    → c.offset ≡ bytes_in (text_before h) → (standing_by a c).line ≡ last_line (text_before h)
unfolding standing_by
line_is a h xs text left c p o = ap last_line (ap (λ n. front_to n a.text) o ∙ ap (front_to (bytes_in (text_before h))) p.parts
    ∙ front_is (text_before h) text)

left_is : (a : Source) (h xs : List Lexeme) (text left : List ℕ) (c : CursorParts) → Placed a h xs text left
    → c.offset ≡ bytes_in (text_before h) → (standing_by a c).left ≡ text
unfolding standing_by
left_is a h xs text left c p o = ap (λ t. drop (length t) a.text) (ap (λ n. front_to n a.text) o
    ∙ ap (front_to (bytes_in (text_before h))) p.parts ∙ front_is (text_before h) text) ∙ ap (drop (length (text_before h))) p.parts
    ∙ drop_of (text_before h) text

resumed_as : (k n : ℕ) (indented : Bool) (h : List Lexeme) (line : List ℕ) → resumed (cursor_at 0 0 indented h) line ≡ resumed
    (cursor_at k n indented h) line
unfolding resumed cursor_at
resumed_as k n indented h line = refl

pub offset_at : (k n : ℕ) (indented : Bool) (h : List Lexeme) → (cursor_at k n indented h).offset ≡ bytes_in (text_before h)
unfolding cursor_at
offset_at k n indented h = refl

pub reached_cursor : (a : Source) (k : ℕ) → Reached a (resumed (cursor a k) (standing a k).line) (standing a k).left
reached_cursor a k =
    let q = cursor_point a k in
    let p = q.point in
    let o : (cursor a k).offset ≡ bytes_in (text_before p.before) = ap (λ (c : CursorParts). c.offset) q.is
    ∙ offset_at k q.skip q.indented p.before in
    let line = line_is a p.before p.later p.text p.left (cursor a k) p.placed o in
    let left = left_is a p.before p.later p.text p.left (cursor a k) p.placed o in
    let same : resumed (cursor_at 0 0 q.indented p.before) (last_line (text_before p.before)) ≡ resumed (cursor a k) (standing a k).line =
    resumed_as k q.skip q.indented p.before (last_line (text_before p.before)) ∙ ap (λ c. resumed c (last_line (text_before p.before)))
    (sym q.is) ∙ ap (resumed (cursor a k)) (sym line) in
    record {
      before = p.before;
      later = p.later;
      left = p.left;
      placed = subst (λ (t : List ℕ). Placed a p.before p.later t p.left) (sym left) p.placed;
      balanced = p.balanced;
      stood = subst (λ (t : List ℕ). StoodAt (resumed (cursor a k) (standing a k).line) p.before t) (sym left)
          (subst (λ (s : State). StoodAt s p.before p.text) same p.stood);
    }

-- so does a lister that stands in it
reached_in : (l : Listed) (a : Source) (k : ℕ) → StandsIn l a k
    → Reached a (resumed l.shown (standing_by (in_characters l.source) l.shown).line) (standing_by (in_characters l.source) l.shown).left
reached_in l a k h =
    let c : l.shown ≡ cursor a k = (is_following h.cursor).is ∙ ap (cursor a) h.count in
    let v = stands_as l a k h in
    subst (λ (u : Standing). Reached a (resumed l.shown u.line) u.left) (sym v)
    (subst (λ (p : CursorParts). Reached a (resumed p (standing a k).line) (standing a k).left) (sym c) (reached_cursor a k))

-- What is left where a lister comes past what gives nothing new.
pub ahead_is : (s : Source) (c : CursorParts) → 0 < c.given
    → to_give (standing_by s c) ≡ drop c.skip (remaining s.fault (resumed c (standing_by s c).line) (standing_by s c).left)
unfolding to_give standing_by
ahead_is s c n = let z : (c.given == 0) ≡ false = grind (arith, nat_tests) in rw z refl

pub rest_there : (l : Listed) (a : Source) (k : ℕ) (t : State) (ds : List ℕ) → StandsIn l a k → 0 < k
    → Passes t ds l.shown.skip (resumed l.shown (standing_by (in_characters l.source) l.shown).line)
    (standing_by (in_characters l.source) l.shown).left → rest a k ≡ remaining (in_characters l.source).fault t ds
rest_there l a k t ds h n p =
    let c = h.count in
    sym (rest_in l a k h) ∙ ahead_is (in_characters l.source) l.shown (omega arith) ∙ passes_steps (in_characters l.source).fault t ds
    l.shown.skip (resumed l.shown (standing_by (in_characters l.source) l.shown).line)
    (standing_by (in_characters l.source) l.shown).left p

pub offset_of_resumed : (c : CursorParts) (line : List ℕ) → (resumed c line).now.offset ≡ c.offset
unfolding resumed
offset_of_resumed c line = refl

-- The own entry of a lexeme.
record OwnEntry (t : State) (x : Lexeme) (e : Entry) : Type 0 where
  indent : is_indent e ≡ false
  begins : e.«from» ≡ t.now.offset
  ends : e.to ≡ t.now.offset + bytes_in x.text
  matched : (closes x && (t.depth == 0)) ≡ false

record OwnPlaces (t : State) (u : List ℕ) (e : Entry) : Type 0 where
  indent : is_indent e ≡ false
  begins : e.«from» ≡ t.now.offset
  ends : e.to ≡ t.now.offset + bytes_in u

own_entry : (t : State) (x : Lexeme) (e : Entry) → entry_by t x ≡ steps.Entry e ∷ [] → OwnEntry t x e
unfolding entry_by
own_entry t x e q = by_class x.«class» x.text q
  where
    same_entry : (d : Entry) → steps.Entry d ∷ [] ≡ steps.Entry e ∷ [] → d ≡ e
    same_entry d q = cc

    own : (k : Class) (u : List ℕ) (d : Entry) → (closes (record { «class» = k; text = u }) && (t.depth == 0)) ≡ false → OwnPlaces t u d
        → steps.Entry d ∷ [] ≡ steps.Entry e ∷ [] → OwnEntry t (record { «class» = k; text = u }) e
    own k u d m p q = let r = subst (OwnPlaces t u) (same_entry d q) p in
        record { indent = r.indent; begins = r.begins; ends = r.ends; matched = m }

    line_end : (b : Bool) → elim (cond b kinds.Newline kinds.Nl) [ kinds.Indent ↦ true | _ ↦ false ] ≡ false
    line_end true = refl
    line_end false = refl

    by_operator : (o : Exact) (u : List ℕ) (b : Bool) (f : Step) (d : Entry) → (is_closer o && (t.depth == 0)) ≡ b → (f ≡ steps.Entry e → ⊥)
        → OwnPlaces t u d → cond b (f ∷ []) (steps.Entry d ∷ []) ≡ steps.Entry e ∷ []
        → OwnEntry t (record { «class» = Operator o; text = u }) e
    by_operator o u true f d m n p q = let g : f ≡ steps.Entry e = cc in absurd (n g)
    by_operator o u false f d m n p q = own (Operator o) u d m p q

    no_fault : (f : ListingFault) → steps.Fault f ≡ steps.Entry e → ⊥
    no_fault f q = cc

    by_class : (k : Class) (u : List ℕ) → entry_by t (record { «class» = k; text = u }) ≡ steps.Entry e ∷ []
        → OwnEntry t (record { «class» = k; text = u }) e
    by_class Name u q = own Name u _ refl (record { indent = refl; begins = refl; ends = refl }) q
    by_class Number u q = own Number u _ refl (record { indent = refl; begins = refl; ends = refl }) q
    by_class String u q = own String u _ refl (record { indent = refl; begins = refl; ends = refl }) q
    by_class (Operator o) u q = by_operator o u (is_closer o && (t.depth == 0)) _ _ refl (no_fault _)
        (record { indent = refl; begins = refl; ends = refl }) q
    by_class Comment u q = own Comment u _ refl (record { indent = refl; begins = refl; ends = refl }) q
    by_class Blanks u q = absurd cc
    by_class LineEnd u q = own LineEnd u _ refl (record { indent = line_end (t.logical && (t.depth == 0)); begins = refl; ends = refl }) q
    by_class Join u q = absurd cc

-- The cursor that is shown at the state after some lexemes.
shown_plain : (k : ℕ) (s : State) (h : List Lexeme) → GoesAs s (state_of h) → shown_at k s ≡ cursor_at k 0 false h
unfolding cursor_at state_of
shown_plain k s h g =
    let n = g.now in
    let d = g.depth in
    let l = g.levels in
    let o = g.logical in
    rw (n, d, l, o) refl

shown_laid : (k : ℕ) (s : State) (h : List Lexeme) → is_at_margin h ≡ true → GoesAs s (state_of h)
    → shown_at k (measured s) ≡ cursor_at k 0 true h
unfolding cursor_at state_of
shown_laid k s h m g =
    let n = g.now in
    let d = g.depth in
    let l = g.levels in
    let w : s.width ≡ width_at h = g.width ∙ ap (λ b. cond b (width_at h) 0) m in
    let p = push (width_at h) (widths h) in
    rw (n, d, l, w, p) refl

-- The next entry has text: its end is the new point.
has_text : (m n b : ℕ) (e : Entry) → e.«from» ≡ m → e.to ≡ n → n ≡ m + b → 0 < b → has_no_text e ≡ false
has_text m n b e f t o p = grind (arith, nat_tests)

moved : (l : Listed) (a : Source) (k : ℕ) (e : Entry) (c : CursorParts) (h xs : List Lexeme) (text left : List ℕ) → StandsIn l a k
    → first_step (rest a k) ≡ steps.Entry e → has_no_text e ≡ false → Placed a h xs text left → e.to ≡ bytes_in (text_before h)
    → c ≡ cursor_at (k + 1) 0 (is_indent e) h → c.given ≡ k + 1 → l.shown.offset ≤ c.offset → StandsIn (record l { shown = c }) a (k + 1)
moved l a k e c h xs text left st f t p o q n le =
    let g = given_next a k e f in
    let w = g.within in
    let to : lexemes_to e.to [] (cut a.text) ≡ h = ap (λ m. lexemes_to m [] (cut a.text)) o ∙ history_is a h xs text left p in
    let m : cursor a (k + 1) ≡ cursor_at (k + 1) 0 (is_indent e) h = cursor_moves a k e g.given t
    ∙ ap (cursor_at (k + 1) 0 (is_indent e)) to in
    record {
      cursor = is_own (record { within = omega arith; is = q ∙ sym m ∙ ap (cursor a) (sym n) });
      count = n;
      agrees = agrees_on a (in_characters l.source) l.shown.offset c.offset le st.agrees;
    }

-- no place that is passed stands before the cursor
passes_offset : (t : State) (ds : List ℕ) (n : ℕ) (s : State) (cs : List ℕ) → Passes t ds n s cs → s.now.offset ≤ t.now.offset
passes_offset t ds n s cs here = omega arith
passes_offset t ds n s cs (lexeme m u bs x e g p) = let h = passes_offset t ds n (after s x) (drop (lexeme_len cs) cs) p in let o =
    offset_after s x in omega arith
passes_offset t ds n s cs (layout m u bs b c l p) = passes_offset t ds m (measured s) cs p

-- An entry with text from a lexeme is the next step.
pub lexeme_first : (l : Listed) (a : Source) (k : ℕ) (t : State) (ds : List ℕ) (x : Lexeme) (e : Entry) → StandsIn l a k → 0 < k
    → Passes t ds l.shown.skip (resumed l.shown (standing_by (in_characters l.source) l.shown).line)
    (standing_by (in_characters l.source) l.shown).left → (t.margin && begins_significant ds) ≡ false → lexeme_at ds ≡ Some x
    → entry_by t x ≡ steps.Entry e ∷ [] → first_step (rest a k) ≡ steps.Entry e
lexeme_first l a k t ds x e h n p d f q =
    let significant : (t.margin && is_significant x) ≡ false = ap (λ b. t.margin && b) (significant_is ds x f) ∙ d in
    ap first_step (rest_there l a k t ds h n p ∙ remaining_lexeme (in_characters l.source).fault t ds x f
    ∙ ap (λ ss. after_steps ss (remaining (in_characters l.source).fault (after t x) (drop (lexeme_len ds) ds)))
    (no_layout t x significant ∙ q))

-- The cursor after it.
pub after_lexeme : (l : Listed) (a : Source) (k : ℕ) (t : State) (ds : List ℕ) (x : Lexeme) (e : Entry) → StandsIn l a k → 0 < k
    → Passes t ds l.shown.skip (resumed l.shown (standing_by (in_characters l.source) l.shown).line)
    (standing_by (in_characters l.source) l.shown).left → (t.margin && begins_significant ds) ≡ false → lexeme_at ds ≡ Some x
    → entry_by t x ≡ steps.Entry e ∷ [] → StandsIn (record l { shown = shown_at (k + 1) (after t x) }) a (k + 1)
after_lexeme l a k t ds x e h n p d f q =
    let first = lexeme_first l a k t ds x e h n p d f q in
    let s0 : State = resumed l.shown (standing_by (in_characters l.source) l.shown).line in
    let left : List ℕ = (standing_by (in_characters l.source) l.shown).left in
    let r = passes_reach a t ds l.shown.skip s0 left p (reached_in l a k h) in
    let own = own_entry t x e q in
    let c : (closes x && (depth r.before == 0)) ≡ false = ap (λ m. closes x && (m == 0)) (sym (stood_depth t r.before ds r.stood))
    ∙ own.matched in
    let g = next_alike t r.before ds x f r.balanced c r.stood in
    let next = next_of a r.before r.later ds r.left x f r.placed in
    let o1 = offset_after t x in
    let o2 : (after t x).now.offset ≡ bytes_in (text_before (x ∷ r.before)) = ap (λ (u : Point). u.offset) g.now
    ∙ state_offset (x ∷ r.before) in
    let le = passes_offset t ds l.shown.skip s0 left p in
    let zero_offset = offset_of_resumed l.shown (standing_by (in_characters l.source) l.shown).line in
    let full = lexeme_full ds x f in
    moved l a k e (shown_at (k + 1) (after t x)) (x ∷ r.before) next.later (drop (lexeme_len ds) ds) r.left h first
    (has_text t.now.offset (t.now.offset + bytes_in x.text) (bytes_in x.text) e own.begins own.ends refl full)
    next.placed (own.ends ∙ sym o1 ∙ o2)
    (shown_plain (k + 1) (after t x) (x ∷ r.before) g ∙ ap (λ b. cursor_at (k + 1) 0 b (x ∷ r.before)) (sym own.indent))
    refl (omega arith)

-- A line whose width is above all open levels holds text.
width_none : width_from 0 [] ≡ 0
unfolding width_from
width_none = refl

some_text : (t : List ℕ) → 0 < width_from 0 t → 0 < bytes_in t
some_text [] h = absurd (omega (arith, width_none))
some_text (c ∷ t) h = let b = length-le-encodes (c ∷ t) in omega arith

line_width : (h : List Lexeme) → width_at h ≡ width_from 0 (text_before (line_so_far h))
unfolding width_at
line_width h = refl

pub line_bytes : (h : List Lexeme) → bytes_in (text_before h) ≡ bytes_in (text_before (before_line h)) + bytes_in
    (text_before (line_so_far h))
line_bytes h = sym (ap bytes_in (line_split h)) ∙ bytes_in-append (text_before (before_line h)) (text_before (line_so_far h))

state_line : (h : List Lexeme) → (state_of h).line.offset ≡ bytes_in (text_before (before_line h))
unfolding state_of
state_line h = refl

state_width : (h : List Lexeme) → is_at_margin h ≡ true → (state_of h).width ≡ width_at h
unfolding state_of
state_width h m = rw m refl

state_levels : (h : List Lexeme) → (state_of h).levels ≡ open_levels (widths h)
unfolding state_of
state_levels h = refl

indented_line : (h : List Lexeme) → is_at_margin h ≡ true → is_above (state_of h).width (state_of h).levels ≡ true
    → 0 < bytes_in (text_before (line_so_far h))
indented_line h m e =
    let b : is_above (width_at h) (open_levels (widths h)) ≡ true = sym (ap (λ w. is_above w (state_of h).levels) (state_width h m)
    ∙ ap (is_above (width_at h)) (state_levels h)) ∙ e in
    let w = above_ground (width_at h) (open_levels (widths h)) (grounded (widths h)) b in
    let l = line_width h in
    some_text (text_before (line_so_far h)) (omega arith)

-- An INDENT is the next step.
pub indent_first : (l : Listed) (a : Source) (k : ℕ) (t : State) (ds : List ℕ) → StandsIn l a k → 0 < k
    → Passes t ds l.shown.skip (resumed l.shown (standing_by (in_characters l.source) l.shown).line)
    (standing_by (in_characters l.source) l.shown).left → t.margin ≡ true → begins_significant ds ≡ true → is_above t.width t.levels ≡ true
    → first_step (rest a k) ≡ step_of kinds.Indent None t.line t.now
indent_first l a k t ds h n p m b w =
    ap first_step (rest_there l a k t ds h n p ∙ measured_significant (in_characters l.source).fault t ds m b
    ∙ ap (λ ss. after_steps ss (remaining (in_characters l.source).fault (measured t) ds)) (layout_indent t m w))

-- The cursor after it.
pub after_indent : (l : Listed) (a : Source) (k : ℕ) (t : State) (ds : List ℕ) → StandsIn l a k → 0 < k
    → Passes t ds l.shown.skip (resumed l.shown (standing_by (in_characters l.source) l.shown).line)
    (standing_by (in_characters l.source) l.shown).left → t.margin ≡ true → begins_significant ds ≡ true → is_above t.width t.levels ≡ true
    → StandsIn (record l { shown = shown_at (k + 1) (measured t) }) a (k + 1)
after_indent l a k t ds h n p m b w =
    let s0 : State = resumed l.shown (standing_by (in_characters l.source) l.shown).line in
    let left : List ℕ = (standing_by (in_characters l.source) l.shown).left in
    let r = passes_reach a t ds l.shown.skip s0 left p (reached_in l a k h) in
    let g = plain_stood t r.before ds m r.stood in
    let at : is_at_margin r.before ≡ true = sym (state_at_margin r.before) ∙ sym g.margin ∙ m in
    let above : is_above (state_of r.before).width (state_of r.before).levels ≡ true =
    sym (ap (λ v. is_above v t.levels) g.width ∙ ap (is_above (state_of r.before).width) g.levels) ∙ w in
    let full = indented_line r.before at above in
    let e : Entry = record {
      kind = kinds.Indent;
      exact = None;
      start = t.line.place;
      «end» = t.now.place;
      «from» =
          t.line.offset;
      to = t.now.offset;
    } in
    let o : t.now.offset ≡ bytes_in (text_before r.before) = ap (λ (u : Point). u.offset) g.now ∙ state_offset r.before in
    let i : t.line.offset ≡ bytes_in (text_before (before_line r.before)) = ap (λ (u : Point). u.offset) (g.line m) ∙ state_line r.before in
    let le = passes_offset t ds l.shown.skip s0 left p in
    let zero_offset = offset_of_resumed l.shown (standing_by (in_characters l.source) l.shown).line in
    moved l a k e (shown_at (k + 1) (measured t)) r.before r.later ds r.left h (indent_first l a k t ds h n p m b w)
    (has_text (bytes_in (text_before (before_line r.before))) (bytes_in (text_before r.before))
    (bytes_in (text_before (line_so_far r.before))) e i o (line_bytes r.before) full)
    r.placed o
    (shown_laid (k + 1) t r.before at g)
    refl (omega arith)

-- Before the first entry, and after it.
pub agrees_itself : (a : Source) (n : ℕ) → Agrees a a n
agrees_itself a n = record { encoding = refl; fault = refl; same_length = refl; begins = refl; same = refl }

pub given_of : (a : Source) (k : ℕ) → (cursor a k).given ≡ k
unfolding cursor cursor_at
given_of a k = refl

pub stands_first : (p : Parts) → StandsIn (record { source = p; shown = cursor (in_characters p) 0 }) (in_characters p) 0
stands_first p =
    let a : Source = in_characters p in
    let g = given_of a 0 in
    record {
      cursor = is_own (record { within = omega arith; is = ap (cursor a) (sym g) });
      count = g;
      agrees = agrees_itself a (cursor a 0).offset;
    }

pub first_given : (a : Source) → given_last_first a 1 ≡ encoding_entry ∷ []
unfolding given_last_first
first_given a = ap (λ ss. reverse (take 1 (entries_of ss))) (listing_is a)

pub none_given : (a : Source) → given_last_first a 0 ≡ []
unfolding given_last_first
none_given a = refl

pub cursor_by : Source → ℕ → List Entry → CursorParts
cursor_by a k es = cursor_at k (count_by (λ e. not (is_encoding e)) (take (prefix_len has_no_text es) es)) (ends_in_indent (with_text es))
    (lexemes_to (point (with_text es)) [] (cut a.text))

pub cursor_is : (a : Source) (k : ℕ) → cursor a k ≡ cursor_by a k (given_last_first a k)
unfolding cursor cursor_by
cursor_is a k = refl

pub cursor_first : (a : Source) → cursor_by a 1 (encoding_entry ∷ []) ≡ record (cursor_by a 0 []) { given = 1 }
unfolding cursor_by cursor_at with_text
cursor_first a = refl

pub after_first : (l : Listed) (a : Source) → StandsIn l a 0 → StandsIn (record l { shown = record l.shown { given = 1 } }) a 1
after_first l a h =
    let c : l.shown ≡ cursor a 0 = (is_following h.cursor).is ∙ ap (cursor a) h.count in
    let some : 1 ≤ length (entries_of (listing a)) =
    let e : length (entries_of (listing a)) ≡ suc (length (entries_of (remaining a.fault first_state a.text))) =
    ap (λ ss. length (entries_of ss)) (listing_is a) in omega arith in
    record {
      cursor = is_own (record {
        within = some;
        is = ap (λ (p : CursorParts). record p { given = 1 }) (c ∙ cursor_is a 0 ∙ ap (cursor_by a 0) (none_given a))
            ∙ sym (cursor_is a 1 ∙ ap (cursor_by a 1) (first_given a) ∙ cursor_first a);
      });
      count = refl;
      agrees = h.agrees;
    }

pub encoding_first : (a : Source) → first_step (rest a 0) ≡ mark kinds.Encoding [] origin origin
encoding_first a = ap first_step (listing_is a)

-- no entry is skipped at a source's begin
by_first : (a : Source) → (cursor_by a 1 (encoding_entry ∷ [])).skip ≡ 0
unfolding cursor_by cursor_at with_text
by_first a = refl

pub first_skip : (a : Source) → (cursor a 1).skip ≡ 0
first_skip a = ap (λ (c : CursorParts). c.skip) (cursor_is a 1 ∙ ap (cursor_by a 1) (first_given a)) ∙ by_first a

by_none : (a : Source) → (cursor_by a 0 []).skip ≡ 0
unfolding cursor_by cursor_at with_text
by_none a = refl

pub no_skip : (a : Source) → (cursor a 0).skip ≡ 0
no_skip a = ap (λ (c : CursorParts). c.skip) (cursor_is a 0 ∙ ap (cursor_by a 0) (none_given a)) ∙ by_none a
