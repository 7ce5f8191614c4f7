-- A text is its entries' texts, and blanks and joins between them.
--
-- Carries: Lister::new. On: LexemeClasses, Law, Run, Ends and 1 more.
use Rattle.std.proofs.Common.{◌≡◌, ℕ, ◌+◌, zero, suc, Bool, true, false, not, ◌&&◌, ◌||◌, ◌==◌, cond, List, [], ◌∷◌, ◌++◌, length}
use Rattle.std.proofs.Common.{replicate, refl, ap, ◌∙◌, sym, subst, arith, Option, Some, None, IsTrue, append_assoc, ⊎_elim}
use Rattle.std.specs.List.{list_all, list_any, flat_map, count_by}
use Rattle.std.specs.Prelude.{nat_lt}
use Rattle.std.proofs.lemmas.List.{append-nil}
use Rattle.std.proofs.lemmas.Bool.Decides.{nat_tests}
use Rattle.std.proofs.lemmas.List.Elements.{All-nil, All-cons, All-append}
use Rattle.std.proofs.lemmas.Bool.{cases_Bool}
use Rattle.pysource.specs.declared.places.Place.{Place}
use Rattle.pylex_lexeme.specs.declared.lexeme.Class.{Class}
use Rattle.pylex_lexeme.specs.declared.lexeme.Class.TheVariants.{Name, Number, String, Operator, Comment, Blanks, LineEnd, Join}
use Rattle.pylex_listing.specs.declared.kind.Kind.TheVariants as kinds
use Rattle.pylex_listing.specs.declared.entries.Entry.{Entry}
use Rattle.pylex_listing.specs.declared.entries.ListingFault.{ListingFault}
use Rattle.pylex_listing.specs.declared.entries.Step.{Step}
use Rattle.pylex_listing.specs.declared.entries.Step.TheVariants as steps
use Rattle.pylex_lexeme.specs.Operators.{is_closer}
use Rattle.pylex_lexeme.specs.Lexemes.{Lexeme, are_blanks, is_join, lexeme_at, cut, left_by_cut}
use Rattle.pylex_listing.specs.Lines.{is_of_blanks, is_of_line_end, is_significant}
use Rattle.pylex_lexeme.specs.Chars.{bytes_in}
use Rattle.pylex_listing.specs.Listing.{Source, origin, up_to_end, stop_fault}
use Rattle.pylex_listing.specs.Steps.{entries_of, fault_of, mark}
use Rattle.pylex_listing.specs.Machine.{State, past, following, after, dedents_at, mark_at, step_of, layout_of, entry_by, gives, is_hash}
use Rattle.pylex_listing.specs.Machine.{last_line_end, last_place, tail_of, stop_of, run, remaining, first_state}
use Rattle.pylex_listing.specs.Laws.{AreLexemes, IsGap, StandsNext, Covers, IsCovered}
use Rattle.pylex_listing.proofs.Callers.{bytes_in-append, listing_is, cut_lexed}
use Rattle.pylex.proofs.Listing.Ends.{stop_is_fault}
use Rattle.pylex.proofs.MachineLaws.LexemeClasses.{Says, lexeme_says}

abbrev pub IsPart : List ℕ → Type 0
IsPart t = IsTrue (are_blanks t || is_join t)

no_gap : IsGap []
no_gap = ([], All-nil IsPart, refl)

gap_of : (t : List ℕ) → IsPart t → IsGap t
gap_of t h = (t ∷ [], All-cons IsPart t [] h (All-nil IsPart), sym (append-nil t))

flat_joins : (a b : List (List ℕ)) → flat_map (λ t. t) (a ++ b) ≡ flat_map (λ t. t) a ++ flat_map (λ t. t) b
flat_joins [] b = refl
flat_joins (t ∷ a) b = ap (λ u. t ++ u) (flat_joins a b) ∙ sym (append_assoc t (flat_map (λ t. t) a) (flat_map (λ t. t) b))

gap_more : (a b : List ℕ) → IsGap a → IsGap b → IsGap (a ++ b)
gap_more a b g h = (
  g.0 ++ h.0,
  All-append IsPart g.0 h.0 g.1 h.1,
  ap (λ t. t ++ b) g.2 ∙ ap (λ t. flat_map (λ t. t) g.0 ++ t) h.2
      ∙ sym (flat_joins g.0 h.0),
)

-- lexemes without an entry are gaps
blanks_gap : (cs : List ℕ) (x : Lexeme) → lexeme_at cs ≡ Some x → x.«class» ≡ Blanks → IsGap x.text
blanks_gap cs x e k =
    gap_of x.text (by_test (are_blanks x.text) (is_join x.text) (subst (λ (c : Class). Says c x.text) k (lexeme_says cs x e)))
  where
    by_test : (b j : Bool) → b ≡ true → IsTrue (b || j)
    by_test b j e = rw e refl

join_gap : (cs : List ℕ) (x : Lexeme) → lexeme_at cs ≡ Some x → x.«class» ≡ Join → IsGap x.text
join_gap cs x e k = gap_of x.text
    (by_test (are_blanks x.text) (is_join x.text) (subst (λ (c : Class). Says c x.text) k (lexeme_says cs x e)))
  where
    by_test : (b j : Bool) → j ≡ true → IsTrue (b || j)
    by_test true j e = refl
    by_test false j e = rw e refl

-- steps whose entries cover a text that begins at an offset
abbrev Spans : ℕ → List ℕ → List Step → Type 0
Spans n text [] = ⊥
Spans n text (steps.Entry e ∷ ss) = (next : StandsNext n text e) × Spans e.to next.following ss
Spans n text (steps.End ∷ ss) = IsGap text
Spans n text (steps.Fault f ∷ ss) = Unit {0}

-- an entry's text after a gap
spans_piece : (n : ℕ) (gap own following : List ℕ) (e : Entry) (ss : List Step) → IsGap gap → e.«from» ≡ n + bytes_in gap
    → e.to ≡ e.«from» + bytes_in own → Spans e.to following ss → Spans n (gap ++ (own ++ following)) (steps.Entry e ∷ ss)
spans_piece n gap own following e ss g b t h =
    (record { gap = gap; own = own; following = following; is_gap = g; parts = refl; begins = b; ends = t }, h)

-- what was given up to a state: an end, and the gap since then, which is the line's
-- begin so far at its margin
record Left (s : State) (n : ℕ) (gap : List ℕ) : Type 0 where
  is_gap : IsGap gap
  now : n + bytes_in gap ≡ s.now.offset
  line : s.margin ≡ true → n ≡ s.line.offset

-- steps cover a text from wherever the ones before them left off
abbrev SpansFrom : State → List ℕ → List Step → Type 0
SpansFrom s text ss = (n : ℕ) (gap : List ℕ) → Left s n gap → Spans n (gap ++ text) ss

-- the same where the line has begun
abbrev Begun : State → List ℕ → List Step → Type 0
Begun s text ss = (n : ℕ) (gap : List ℕ) → IsGap gap → n + bytes_in gap ≡ s.now.offset → Spans n (gap ++ text) ss

cond_spans : (b : Bool) (n : ℕ) (text : List ℕ) (a c ss : List Step) → Spans n text (a ++ ss) → Spans n text (c ++ ss)
    → Spans n text (cond b a c ++ ss)
cond_spans true n text a c ss h k = h
cond_spans false n text a c ss h k = k

-- empty entries take the gap, and leave none
marks_span : (m n o : ℕ) (gap text : List ℕ) (e : Entry) (ss : List Step) → e.«from» ≡ o → e.to ≡ o
    → ((n : ℕ) (gap : List ℕ) → IsGap gap → n + bytes_in gap ≡ o → Spans n (gap ++ text) ss) → IsGap gap → n + bytes_in gap ≡ o
    → Spans n (gap ++ text) (replicate m (steps.Entry e) ++ ss)
marks_span zero n o gap text e ss f t k g w = k n gap g w
marks_span (suc m) n o gap text e ss f t k g w =
    spans_piece n gap [] text e (replicate m (steps.Entry e) ++ ss) g (f ∙ sym w) (omega arith)
    (marks_span m e.to o [] text e ss f t k no_gap (omega arith))

dedents_span : (w : ℕ) (levels : List ℕ) (p : Place) (n o : ℕ) (gap text : List ℕ) (ss : List Step)
    → ((n : ℕ) (gap : List ℕ) → IsGap gap → n + bytes_in gap ≡ o → Spans n (gap ++ text) ss) → IsGap gap → n + bytes_in gap ≡ o
    → Spans n (gap ++ text) (dedents_at w levels o p ++ ss)
dedents_span w levels p n o gap text ss k g h = marks_span (count_by (nat_lt w) levels) n o gap text
    (record { kind = kinds.Dedent; exact = None; start = p; «end» = p; «from» = o; to = o }) ss refl refl k g h

layout_spans : (s : State) (text : List ℕ) (ss : List Step) → Begun s text ss → SpansFrom s text (layout_of s ++ ss)
unfolding layout_of
layout_spans s text ss k n gap l = ⊎_elim
    (λ (e : s.margin ≡ true). rw e
    (cond_spans (list_all (λ v. nat_lt v s.width) s.levels) n (gap ++ text) (step_of kinds.Indent None s.line s.now ∷ []) _ ss
    (spans_piece n [] gap text _ ss no_gap (sym (l.line e) ∙ omega arith) (let m = l.line e in let w = l.now in omega arith)
    (k s.now.offset [] no_gap (omega arith)))
    (cond_spans (list_any (λ v. v == s.width) s.levels) n (gap ++ text) (dedents_at s.width s.levels s.now.offset s.now.place) _ ss
    (dedents_span s.width s.levels s.now.place n s.now.offset gap text ss k l.is_gap l.now)
    tt)))
    (λ (e : s.margin ≡ false). rw e (k n gap l.is_gap l.now))
    (cases_Bool s.margin)

-- a lexeme's entry
entry_spans : (s : State) (x : Lexeme) (text : List ℕ) (ss : List Step) → (x.«class» ≡ Blanks → ⊥) → (x.«class» ≡ Join → IsGap x.text)
    → ((n : ℕ) (gap : List ℕ) → IsGap gap → n + bytes_in gap ≡ (past s.now x.text).offset
    → (is_of_line_end x ≡ true → n ≡ (past s.now x.text).offset) → Spans n (gap ++ text) ss) → Begun s (x.text ++ text) (entry_by s x ++ ss)
unfolding entry_by
entry_spans s x text ss b j k n gap g w = by_class x.«class» x.text b j k
  where
    one : (t : List ℕ) (e : Entry) → e.«from» ≡ s.now.offset → e.to ≡ s.now.offset + bytes_in t → Spans e.to text ss
        → Spans n (gap ++ (t ++ text)) (steps.Entry e ∷ ss)
    one t e f h c = spans_piece n gap t text e ss g (f ∙ sym w) (omega arith) c

    by_class : (c : Class) (t : List ℕ) → (c ≡ Blanks → ⊥) → (c ≡ Join → IsGap t)
        → ((n : ℕ) (gap : List ℕ) → IsGap gap → n + bytes_in gap ≡ (past s.now t).offset
        → (is_of_line_end (record { «class» = c; text = t }) ≡ true → n ≡ (past s.now t).offset) → Spans n (gap ++ text) ss)
        → Spans n (gap ++ (t ++ text)) (entry_by s (record { «class» = c; text = t }) ++ ss)
    by_class Name t b j k = one t _ refl refl (k (past s.now t).offset [] no_gap (omega arith) (λ _. refl))
    by_class Number t b j k = one t _ refl refl (k (past s.now t).offset [] no_gap (omega arith) (λ _. refl))
    by_class String t b j k = one t _ refl refl (k (past s.now t).offset [] no_gap (omega arith) (λ _. refl))
    by_class (Operator o) t b j k = cond_spans (is_closer o && (s.depth == 0)) n (gap ++ (t ++ text)) _ _ ss tt
        (one t _ refl refl (k (past s.now t).offset [] no_gap (omega arith) (λ _. refl)))
    by_class Comment t b j k = one t _ refl refl (k (past s.now t).offset [] no_gap (omega arith) (λ _. refl))
    by_class Blanks t b j k = absurd (b refl)
    by_class LineEnd t b j k = one t _ refl refl (k (past s.now t).offset [] no_gap (omega arith) (λ _. refl))
    by_class Join t b j k = subst (λ (u : List ℕ). Spans n u ss) (append_assoc gap t text)
        (k n (gap ++ t) (gap_more gap t g (j refl)) (let a = bytes_in-append gap t in omega arith) (λ f. cc))

is_blanks : (x : Lexeme) → is_of_blanks x ≡ true → x.«class» ≡ Blanks
is_blanks x e = by_class x.«class» x.text e
  where
    by_class : (c : Class) (t : List ℕ) → is_of_blanks (record { «class» = c; text = t }) ≡ true → c ≡ Blanks
    by_class Blanks t e = refl
    by_class Name t e = cc
    by_class Number t e = cc
    by_class String t e = cc
    by_class (Operator o) t e = cc
    by_class Comment t e = cc
    by_class LineEnd t e = cc
    by_class Join t e = cc

not_blanks : (x : Lexeme) → is_of_blanks x ≡ false → x.«class» ≡ Blanks → ⊥
not_blanks x e k = let h : is_of_blanks (record { «class» = Blanks; text = x.text }) ≡ false =
    ap (λ c. is_of_blanks (record { «class» = c; text = x.text })) (sym k) ∙ e in cc

blanks_left : (s : State) (x : Lexeme) (n : ℕ) (gap : List ℕ) → x.«class» ≡ Blanks → IsGap x.text → Left s n gap
    → Left (after s x) n (gap ++ x.text)
unfolding after
blanks_left s x n gap c g l = record {
  is_gap = gap_more gap x.text l.is_gap g;
  now = let a = bytes_in-append gap x.text in let w = l.now in omega arith;
  line = rw c l.line;
}

blanks_give : (s : State) (x : Lexeme) → x.«class» ≡ Blanks → gives s x ≡ []
unfolding gives entry_by
blanks_give s x c = rw c refl

other_left : (s : State) (x : Lexeme) (n : ℕ) (gap : List ℕ) → is_of_blanks x ≡ false → IsGap gap
    → n + bytes_in gap ≡ (past s.now x.text).offset → (is_of_line_end x ≡ true → n ≡ (past s.now x.text).offset) → Left (after s x) n gap
unfolding after
other_left s x n gap b g w l = record { is_gap = g; now = w; line = rw b (by_end (is_of_line_end x) (s.depth == 0) l) }
  where
    by_end : (e d : Bool) → (e ≡ true → n ≡ (past s.now x.text).offset) → ((e && d) || false) ≡ true
        → n ≡ (cond (e && d) (past s.now x.text) s.line).offset
    by_end true true l h = l refl
    by_end true false l h = cc
    by_end false d l h = cc

lexeme_spans : (s : State) (x : Lexeme) (cs text : List ℕ) (ss : List Step) → lexeme_at cs ≡ Some x → SpansFrom (after s x) text ss
    → SpansFrom s (x.text ++ text) (gives s x ++ ss)
unfolding gives
lexeme_spans s x cs text ss e k n gap l = ⊎_elim
    (λ (b : is_of_blanks x ≡ true).
    let c = is_blanks x b in
    let g = blanks_give s x c in
    rw g (subst (λ (u : List ℕ). Spans n u ss) (append_assoc gap x.text text)
    (k n (gap ++ x.text) (blanks_left s x n gap c (blanks_gap cs x e c) l))))
    (λ (b : is_of_blanks x ≡ false).
    let own : Begun s (x.text ++ text) (entry_by s x ++ ss) = entry_spans s x text ss (not_blanks x b) (join_gap cs x e)
    (λ m h g w f. k m h (other_left s x m h b g w f)) in
    subst (λ (us : List Step). Spans n (gap ++ (x.text ++ text)) us)
    (sym (append_assoc (cond (is_significant x) (layout_of s) []) (entry_by s x) ss))
    (cond_spans (is_significant x) n (gap ++ (x.text ++ text)) (layout_of s) [] (entry_by s x ++ ss)
    (layout_spans s (x.text ++ text) (entry_by s x ++ ss) own n gap l)
    (own n gap l.is_gap l.now)))
    (cases_Bool (is_of_blanks x))

pick_spans : (b : Bool) (n : ℕ) (text : List ℕ) (a c : List Step) → (b ≡ true → Spans n text a) → (b ≡ false → Spans n text c)
    → Spans n text (cond b a c)
pick_spans true n text a c h k = h refl
pick_spans false n text a c h k = k refl

tail_spans : (s : State) → Begun s [] (tail_of s)
unfolding tail_of last_line_end
tail_spans s n gap g w =
    let marker = mark_at kinds.EndMarker s.now.offset (last_place s) (last_place s) ∷ steps.End ∷ [] in
    let closing : Begun s [] marker = λ m h g w. spans_piece m h [] [] _ (steps.End ∷ []) g (sym w) (omega arith) no_gap in
    let closes : Begun s [] (dedents_at 0 s.levels s.now.offset (last_place s) ++ marker) =
    λ m h g w. dedents_span 0 s.levels (last_place s) m s.now.offset h [] marker closing g w in
    let ended : Spans n (gap ++ []) (last_line_end s ++ (dedents_at 0 s.levels s.now.offset (last_place s) ++ marker)) =
    cond_spans s.logical n (gap ++ []) _ _ (dedents_at 0 s.levels s.now.offset (last_place s) ++ marker)
    (cond_spans (is_hash s.lead) n (gap ++ []) [] _ (dedents_at 0 s.levels s.now.offset (last_place s) ++ marker) (closes n gap g w)
    (spans_piece n gap [] [] _ (dedents_at 0 s.levels s.now.offset (last_place s) ++ marker) g (sym w) (omega arith)
    (closes s.now.offset [] no_gap (omega arith))))
    (cond_spans s.margin n (gap ++ []) [] _ (dedents_at 0 s.levels s.now.offset (last_place s) ++ marker) (closes n gap g w)
    (spans_piece n gap [] [] _ (dedents_at 0 s.levels s.now.offset (last_place s) ++ marker) g (sym w) (omega arith)
    (closes s.now.offset [] no_gap (omega arith)))) in
    pick_spans (not (s.depth == 0) || s.joined) n (gap ++ []) _ _ (λ _. tt)
    (λ _. subst (λ (us : List Step). Spans n (gap ++ []) us)
    (sym (append_assoc (last_line_end s) (dedents_at 0 s.levels s.now.offset (last_place s)) marker)) ended)

no_length : (left : List ℕ) → not (length left == 0) ≡ false → left ≡ []
no_length [] e = refl
no_length (c ∷ left) e = absurd (one_at_least (length left) e)
  where
    one_at_least : (n : ℕ) → not (suc n == 0) ≡ false → ⊥
    one_at_least n e = grind (arith, nat_tests)

stop_spans : (fault : Option ListingFault) (left : List ℕ) (s : State) → SpansFrom s left (stop_of fault s left)
unfolding stop_of
stop_spans fault left s n gap l =
    pick_spans (not (length left == 0)) n (gap ++ left) _ _
    (λ _. layout_spans s left (stop_fault fault s.now.place left ∷ []) (λ m h g w. let f = stop_is_fault fault s.now.place left in
    subst (λ (t : Step). Spans m (h ++ left) (t ∷ [])) (sym f.1) tt) n gap l)
    (λ e. by_fault fault left (no_length left e))
  where
    by_fault : (o : Option ListingFault) (left : List ℕ) → left ≡ []
        → Spans n (gap ++ left) (elim o [ Some f ↦ steps.Fault f ∷ [] | None ↦ tail_of s ])
    by_fault (Some f) left e = tt
    by_fault None left e = rw e (tail_spans s n gap l.is_gap l.now)

run_spans : (fault : Option ListingFault) (left : List ℕ) (xs : List Lexeme) (s : State) (text : List ℕ) → AreLexemes text xs left
    → SpansFrom s text (run fault left s xs)
run_spans fault left [] s text h n gap l = subst (λ (u : List ℕ). Spans n (gap ++ u) (stop_of fault s left)) h.0
    (stop_spans fault left s n gap l)
run_spans fault left (x ∷ xs) s text h n gap l =
    subst (λ (u : List ℕ). Spans n (gap ++ u) (gives s x ++ run fault left (after s x) xs)) (sym h.2)
    (lexeme_spans s x text h.0 (run fault left (after s x) xs) h.1 (run_spans fault left xs (after s x) h.0 h.3) n gap l)

covered : (ss : List Step) (n : ℕ) (text : List ℕ) → Spans n text ss → (left : List ℕ) × Covers n text (entries_of (up_to_end ss)) left ×
    (fault_of (up_to_end ss) ≡ None → left ≡ [])
covered [] n text h = absurd h
covered (steps.Entry e ∷ ss) n text h = let c = covered ss e.to h.0.following h.1 in (c.0, (h.0, c.1), c.2)
covered (steps.End ∷ ss) n text h = ([], (text, h, sym (append-nil text)), λ _. refl)
covered (steps.Fault f ∷ ss) n text h = (text, ([], no_gap, refl), λ e. cc)

begins_left : Left first_state 0 []
begins_left = record { is_gap = no_gap; now = omega arith; line = λ _. refl }

encoding_next : (text : List ℕ)
    → StandsNext 0 text (record { kind = kinds.Encoding; exact = None; start = origin; «end» = origin; «from» = 0; to = 0 })
encoding_next text = record { gap = []; own = []; following = text; is_gap = no_gap; parts = refl; begins = omega arith; ends = omega arith }

pub is_covered : (s : Source) → IsCovered s
unfolding remaining encoding_next
is_covered s =
    let r = run_spans s.fault (left_by_cut s.text) (cut s.text) first_state s.text (cut_lexed s.text) 0 [] begins_left in
    let c = covered (mark kinds.Encoding [] origin origin ∷ run s.fault (left_by_cut s.text) first_state (cut s.text)) 0 s.text
    (encoding_next s.text, r) in
    let e = listing_is s in
    record { left = c.0; covers = rw e c.1; whole = rw e c.2 }
