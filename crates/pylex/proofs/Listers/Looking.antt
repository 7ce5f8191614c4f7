-- How far a lister has looked: where it stands in its text, and what it has passed.
--
-- Carries: walks_in, line_in, left_in, in_after and 4 more, for Moving, Returning, Lined. On:
-- Layouts, Law, Resumed, Finding and 2 more.
use Rattle.std.proofs.Common.{◌≡◌, ℕ, suc, ◌+◌, ◌<◌, Bool, true, false, ◌&&◌, ◌||◌, ◌==◌, cond, List, [], ◌∷◌, ◌++◌, length, drop, refl, ap}
use Rattle.std.proofs.Common.{◌∙◌, sym, subst, arith, Some, append_assoc}
use Rattle.std.specs.Prelude.{count_by, nat_lt}
use Rattle.std.proofs.lemmas.Bool.Decides.{nat_tests}
use Rattle.std.proofs.lemmas.List.{take-append-drop}
use Rattle.pysource.specs.Places.{place_after}
use Rattle.pysource.specs.declared.places.Place.{Place}
use Rattle.pylex_listing.specs.declared.leading_char.LeadingChar.TheVariants.{Nothing}
use Rattle.pylex_lexeme.specs.Cuts.{begins_significant}
use Rattle.pylex_lexeme.specs.Lexemes.{Lexeme, lexeme_at, lexeme_len}
use Rattle.pylex_listing.specs.Lines.{is_significant}
use Rattle.pylex_lexeme.specs.Chars.{bytes_in}
use Rattle.pylex_listing.specs.Listing.{Source, last_line}
use Rattle.pylex.specs.Cursors.{CursorParts}
use Rattle.pylex_listing.specs.Machine.{State, place_past, past, after, layout_of, dedents_at, pushed, lead_after}
use Rattle.pylex.specs.LineState.{measured, begun_anew, is_above, is_level, Walks, stays, silent, level, dedent}
use Rattle.pylex.specs.Standing.{front_to, standing_by, resumed}
use Rattle.pylex.specs.Listers.{IsIn, shown_at, Passes, here, lexeme, layout}
use Rattle.pylex_listing.proofs.Callers.{place_after-append, bytes_in-append, front-append, lexeme_front, significant_is, drop_of}
use Rattle.pylex.proofs.Resumption.Resumed.{column_is, front_line}
use Rattle.pylex.proofs.Levels.Layouts.{level_not_above, level-push, count-push, layout_dedents, pushed_less}
use Rattle.pylex.proofs.Listers.Finding.{no_layout}
use Rattle.pylex.proofs.Resumption.Ahead.{front_is}

-- Columns don't depend on the row.
advance_column : (p q : Place) (t : List ℕ) → p.column ≡ q.column → (place_past p t).column ≡ (place_past q t).column
advance_column p q [] e = e
advance_column p q (c ∷ t) e =
    advance_column (cond (c == 10) (record { row = p.row + 1; column = 0 }) (record { row = p.row; column = p.column + 1 }))
    (cond (c == 10) (record { row = q.row + 1; column = 0 }) (record { row = q.row; column = q.column + 1 })) t (one (c == 10))
  where
    one : (b : Bool) → (cond {A = Place} b (record { row = p.row + 1; column = 0 }) (record { row = p.row; column = p.column + 1 })).column
        ≡ (cond {A = Place} b (record { row = q.row + 1; column = 0 }) (record { row = q.row; column = q.column + 1 })).column
    one true = refl
    one false = ap (λ n. n + 1) e

past_offset : (s : State) (x : Lexeme) → (after s x).now ≡ past s.now x.text
unfolding after
past_offset s x = refl

lead_past : (s : State) (x : Lexeme) → (after s x).lead ≡ lead_after s.lead x.text
unfolding after
lead_past s x = refl

-- A state goes on in its text by a lexeme.
pub in_after : (text : List ℕ) (s : State) (cs : List ℕ) (x : Lexeme) → lexeme_at cs ≡ Some x → IsIn text s cs
    → IsIn text (after s x) (drop (lexeme_len cs) cs)
in_after text s cs x e i =
    let back = drop (lexeme_len cs) cs in
    let parts : cs ≡ x.text ++ back = sym (ap (λ t. t ++ back) (lexeme_front cs x e) ∙ take-append-drop (lexeme_len cs) cs) in
    let n = past_offset s x in
    record {
      before = i.before ++ x.text;
      whole = i.whole ∙ ap (λ t. i.before ++ t) parts ∙ sym (append_assoc i.before x.text back);
      offset = ap (λ p. p.offset) n ∙ ap (λ m. m + bytes_in x.text) i.offset ∙ sym (bytes_in-append i.before x.text);
      column = ap (λ p. p.place.column) n
          ∙ advance_column s.now.place (place_after i.before) x.text (i.column ∙ sym (column_is i.before))
          ∙ ap (λ (p : Place). p.column) (sym (place_after-append i.before x.text))
          ∙ column_is (i.before ++ x.text);
      lead = lead_past s x
          ∙ ap (λ f. lead_after f x.text) (i.lead ∙ front_line i.before)
          ∙ sym (front-append i.before x.text Nothing)
          ∙ sym (front_line (i.before ++ x.text));
    }

-- and by a walk
pub walks_in : (text : List ℕ) (t : State) (ds : List ℕ) (n : ℕ) (s : State) (cs : List ℕ) → Walks t ds n s cs
    → IsIn text s cs → IsIn text t ds
walks_in text t ds n s cs stays i = i
walks_in text t ds n s cs (silent m r bs x d e g w) i = walks_in text t ds n (after s x) (drop (lexeme_len cs) cs) w
    (in_after text s cs x e i)
walks_in text t ds n s cs (level m r bs a b l c w) i =
    walks_in text t ds n (measured s) cs w (record {
      before = i.before;
      whole = i.whole;
      offset = i.offset;
      column =
          i.column;
      lead = i.lead;
    })
walks_in text t ds n s cs (dedent m r bs ls v a b e l k w) i = walks_in text t ds m (record s { levels = ls }) cs w
    (record { before = i.before; whole = i.whole; offset = i.offset; column = i.column; lead = i.lead })

-- A cursor at a state's point leads back to it.
pub line_in : (a : Source) (c : CursorParts) (s : State) (ds : List ℕ) → c.offset ≡ s.now.offset → (i : IsIn a.text s ds)
    → (standing_by a c).line ≡ last_line i.before
unfolding standing_by
line_in a c s ds o i = ap last_line (ap (λ n. front_to n a.text) (o ∙ i.offset)
    ∙ ap (front_to (bytes_in i.before)) i.whole ∙ front_is i.before ds)

pub left_in : (a : Source) (c : CursorParts) (s : State) (ds : List ℕ) → c.offset ≡ s.now.offset → IsIn a.text s ds
    → (standing_by a c).left ≡ ds
unfolding standing_by
left_in a c s ds o i = ap (λ t. drop (length t) a.text) (ap (λ n. front_to n a.text) (o ∙ i.offset)
    ∙ ap (front_to (bytes_in i.before)) i.whole ∙ front_is i.before ds) ∙ ap (drop (length i.before)) i.whole ∙ drop_of i.before ds

pub resumed_anew : (k : ℕ) (s : State) (line : List ℕ) → s.now.place.column ≡ length line → s.lead ≡ lead_after Nothing line
    → resumed (shown_at k s) line ≡ begun_anew s
unfolding resumed
resumed_anew k s line c f = rw (← c, ← f) refl

-- No line of an open level begins here, so that its DEDENTs would all come.
pub record Ready (t : State) (ds : List ℕ) : Type 0 where
  pub none : t.margin ≡ true → begins_significant ds ≡ true → is_level t.width t.levels ≡ false

pub settled_ready : (t : State) (ds : List ℕ) → (t.margin && begins_significant ds) ≡ false → Ready t ds
settled_ready t ds h = record { none = λ m b. absurd (never (sym (both t.margin (begins_significant ds) m b) ∙ h)) }
  where
    both : (a b : Bool) → a ≡ true → b ≡ true → (a && b) ≡ true
    both a b e f = rw (e, f) refl

    never : true ≡ false → ⊥
    never e = cc

pub above_ready : (t : State) (ds : List ℕ) → is_above t.width t.levels ≡ true → Ready t ds
above_ready t ds h = record { none = λ m b. by (is_level t.width t.levels) refl }
  where
    by : (l : Bool) → is_level t.width t.levels ≡ l → l ≡ false
    by true e = let n = level_not_above t.width t.levels e in let bad : true ≡ false = sym h ∙ n in cc
    by false e = refl

-- The line of an open level: its DEDENTs, and what is passed after them.
record Laid (t : State) (ds : List ℕ) (n : ℕ) (s : State) (cs : List ℕ) : Type 0 where
  more : ℕ
  count : count_by (nat_lt s.width) s.levels + more ≡ n
  gives : layout_of s ≡ dedents_at s.width s.levels s.now.offset s.now.place
  passes : Passes t ds more (measured s) cs

record Both (t : State) (ds : List ℕ) (n : ℕ) (s : State) (cs : List ℕ) : Type 0 where
  passes : Passes t ds n s cs
  laid : s.margin ≡ true → begins_significant cs ≡ true → is_level s.width s.levels ≡ true → Laid t ds n s cs

by_layout : (t : State) (ds : List ℕ) (n : ℕ) (s : State) (cs : List ℕ) → s.margin ≡ true → begins_significant cs ≡ true
    → Laid t ds n s cs → Both t ds n s cs
by_layout t ds n s cs m b l =
    record { passes = subst (λ (k : ℕ). Passes t ds k s cs) l.count (layout l.more s cs m b l.gives l.passes); laid = λ _ _ _. l }

one_less : (t : State) (ds : List ℕ) (n : ℕ) (s : State) (cs ls : List ℕ) (v : ℕ) → s.margin ≡ true → s.levels ≡ ls ++ v ∷ [] → s.width < v
    → is_level s.width ls ≡ true → Laid t ds n (record s { levels = ls }) cs → Laid t ds (suc n) s cs
one_less t ds n s cs ls v m e less i l =
    let whole : is_level s.width s.levels ≡ true = ap (is_level s.width) e ∙ level-push s.width v ls ∙ ap (λ b. b || (v == s.width)) i in
    let state : measured (record s { levels = ls }) ≡ measured s =
    ap (λ ns. record (measured s) { levels = ns }) (sym (ap (pushed s.width) e ∙ pushed_less s.width v ls less)) in
    let yes : nat_lt s.width v ≡ true = grind (arith, nat_tests) in
    let counted : count_by (nat_lt s.width) s.levels ≡ count_by (nat_lt s.width) ls + 1 = ap (count_by (nat_lt s.width)) e
    ∙ count-push s.width v ls ∙ ap (λ b. count_by (nat_lt s.width) ls + cond b 1 0) yes in
    let c = l.count in
    record {
      more = l.more;
      count = omega arith;
      gives = layout_dedents s m (level_not_above s.width s.levels whole) whole;
      passes = subst (λ (u : State). Passes t ds l.more u cs) state l.passes;
    }

walks_both : (t : State) (ds : List ℕ) → Ready t ds → (n : ℕ) (s : State) (cs : List ℕ) → Walks t ds n s cs → Both t ds n s cs
walks_both t ds r n s cs stays = record { passes = here; laid = λ m b l. absurd (never (sym l ∙ r.none m b)) }
  where
    never : true ≡ false → ⊥
    never e = cc
walks_both t ds r n s cs (silent k u bs x d e g w) =
    let significant : (s.margin && is_significant x) ≡ false = ap (λ b. s.margin && b) (significant_is cs x e) ∙ d in
    record {
      passes = lexeme n s cs x e (no_layout s x significant ∙ g) (walks_both t ds r n (after s x) (drop (lexeme_len cs) cs) w).passes;
      laid = λ m b l. absurd (never (sym (rw (m, b) at d)));
    }
  where
    never : false ≡ true → ⊥
    never e = cc
walks_both t ds r n s cs (level k u bs a b l c w) =
    by_layout t ds n s cs a b (record {
      more = n;
      count = ap (λ j. j + n) c ∙ nothing n;
      gives =
          layout_dedents s a (level_not_above s.width s.levels l) l;
      passes = (walks_both t ds r n (measured s) cs w).passes;
    })
  where
    nothing : (n : ℕ) → 0 + n ≡ n
    nothing n = omega arith
walks_both t ds r n s cs (dedent k u bs ls v a b e less i w) =
    by_layout t ds (suc k) s cs a b
    (one_less t ds k s cs ls v a e less i ((walks_both t ds r k (record s { levels = ls }) cs w).laid a b i))

-- A walk to there passes what is passed.
pub walks_pass : (t : State) (ds : List ℕ) → Ready t ds → (n : ℕ) (s : State) (cs : List ℕ) → Walks t ds n s cs → Passes t ds n s cs
walks_pass t ds r n s cs w = (walks_both t ds r n s cs w).passes
