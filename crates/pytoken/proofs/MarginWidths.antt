-- On: the margins of a listing's lines are as wide as the lines that open and close its levels.
--
-- Carries: margins_are_widths, for Said.
use Rattle.std.proofs.Common.{◌≡◌, ℕ, zero, suc, ◌+◌, ◌-◌, Bool, true, false, not, ◌&&◌, ◌||◌, ◌==◌, cond, List, [], ◌∷◌, ◌++◌, length}
use Rattle.std.proofs.Common.{drop}
use Rattle.std.proofs.Common.{replicate, reverse, refl, sym, ap, ap₂, subst, ◌∙◌, arith, append_assoc, append-nil, Option, Some, None}
use Rattle.std.specs.Prelude.{nat_lt, count_by}
use Rattle.std.specs.List.{list_all, list_any}
use Rattle.std.specs.Str.{all_scalars}
use Rattle.std.proofs.lemmas.Bool.Decides.{nat_tests}
use Rattle.std.proofs.lemmas.Grind.{common_steps}
use Rattle.std.proofs.lemmas.List.{map-append, reverse-append}
use Rattle.pysource.specs.declared.places.Place.{Place}
use Rattle.pysource.specs.Places.{place_after}
use Rattle.pylex_lexeme.specs.declared.lexeme.Class.{Class}
use Rattle.pylex_lexeme.specs.declared.lexeme.Class.TheVariants.{Name, Number, String, Operator, Comment, Blanks, LineEnd, Join}
use Rattle.pylex_lexeme.specs.Chars.{bytes_in}
use Rattle.pylex_lexeme.specs.Cuts.{begins_significant}
use Rattle.pylex_lexeme.specs.Strings.{opens_string}
use Rattle.pylex_lexeme.specs.Operators.{is_closer}
use Rattle.pylex_lexeme.specs.Lexemes.{Lexeme, is_comment, are_blanks, is_line_end, lexeme_at, cut, left_by_cut}
use Rattle.pylex_lexeme.specs.Lexemes.{is_open_string, is_significant_class, is_line_end_class, is_blanks_class}
use Rattle.pylex_listing.specs.declared.kind.Kind.TheVariants as kinds
use Rattle.pylex_listing.specs.declared.entries.Entry.{Entry}
use Rattle.pylex_listing.specs.declared.entries.ListingFault.{ListingFault}
use Rattle.pylex_listing.specs.declared.entries.ListingError.TheVariants as errors
use Rattle.pylex_listing.specs.declared.entries.Step.{Step}
use Rattle.pylex_listing.specs.declared.entries.Step.TheVariants as steps
use Rattle.pylex_listing.specs.Lines.{text_before, opens, closes, depth, is_of_blanks, is_of_line_end, is_significant, line_so_far}
use Rattle.pylex_listing.specs.Lines.{is_at_margin, is_logical}
use Rattle.pylex_listing.specs.Indentation.{width_from, width_at, widths, open_levels, dedents, layout_by, layout}
use Rattle.pylex_listing.specs.Margins.{blanks_of}
use Rattle.pylex_listing.specs.Listing.{listing, origin, line_end_kind, entry_of, steps_of, stop_fault, last_line, begins_comment}
use Rattle.pylex_listing.specs.Listing.{line_end_of_last, end_place, ends_in_join, tail, stop, steps_from, up_to_end, further}
use Rattle.pylex_listing.specs.Steps.{entries_of, fault_of, fault_at}
use Rattle.pylex_listing.specs.Laws.{AreLexemes}
use Rattle.pylex_listing.proofs.Callers.{is_cut, longest_wins, significant_is}
use Rattle.pytoken.specs.Brackets
use Rattle.pytoken.specs.Brackets.{open_brackets}
use Rattle.pytoken.specs.Indentation.{Margin, following_offset, margin_at, ends_line, margins_from}
use Rattle.pytoken.specs.Laws.{MarginsAreWidths}
use Rattle.pytoken.proofs.MarginParts.{pending, eights, Fronts, text_following, bytes_on, margin_pends, nothing_pends, pending_by, width_on}
use Rattle.pytoken.proofs.MarginParts.{pending_on, class_fronts, comment_front, line_end_front, blanks_all, significant_front}

-- The brackets that are open, by entries and by lexemes

-- as many were opened and closed by some entries as by some lexemes
record Same (es : List Entry) (before : List Lexeme) : Type 0 where
  opened : count_by Brackets.opens es ≡ count_by opens before
  closed : count_by Brackets.closes es ≡ count_by closes before

count_step : {X : Type 0} (p : X → Bool) (x : X) (xs : List X) → count_by p (x ∷ xs) ≡ cond (p x) 1 0 + count_by p xs
count_step p x xs = grind (arith, common_steps)

both_more : (p : Entry → Bool) (q : Lexeme → Bool) (e : Entry) (x : Lexeme) (es : List Entry) (xs : List Lexeme) → p e ≡ q x
    → count_by p es ≡ count_by q xs → count_by p (e ∷ es) ≡ count_by q (x ∷ xs)
both_more p q e x es xs own rest =
    count_step p e es ∙ ap₂ (λ (b : Bool) (n : ℕ). cond b 1 0 + n) own rest ∙ sym (count_step q x xs)

none_more : {X : Type 0} (p : X → Bool) (x : X) (xs : List X) → p x ≡ false → count_by p (x ∷ xs) ≡ count_by p xs
none_more p x xs h =
    let step = count_step p x xs in
    let none : ◌≡◌ {A = ℕ} (cond (p x) 1 0) 0 = ap (λ (b : Bool). cond {A = ℕ} b 1 0) h in
    omega arith

same_on : (e : Entry) (x : Lexeme) (es : List Entry) (before : List Lexeme) → Brackets.opens e ≡ opens x → Brackets.closes e ≡ closes x
    → Same es before → Same (e ∷ es) (x ∷ before)
same_on e x es before o c had = record {
  opened = both_more Brackets.opens opens e x es before o had.opened;
  closed = both_more Brackets.closes closes e x es before c had.closed;
}

-- a lexeme without an entry
same_over : (x : Lexeme) (es : List Entry) (before : List Lexeme) → opens x ≡ false → closes x ≡ false
    → Same es before → Same es (x ∷ before)
same_over x es before o c had = record {
  opened = had.opened ∙ sym (none_more opens x before o);
  closed = had.closed ∙ sym (none_more closes x before c);
}

-- an entry without a lexeme
same_under : (e : Entry) (es : List Entry) (before : List Lexeme) → Brackets.opens e ≡ false → Brackets.closes e ≡ false → Same es before
    → Same (e ∷ es) before
same_under e es before o c had = record {
  opened = none_more Brackets.opens e es o ∙ had.opened;
  closed = none_more Brackets.closes e es c ∙ had.closed;
}

same_depth : (es : List Entry) (before : List Lexeme) → Same es before → open_brackets es ≡ depth before
unfolding depth
same_depth es before same = ap₂ (λ (m n : ℕ). m - n) same.opened same.closed

-- What some steps give

-- the widths of the lines that begin after entries of these steps
abbrev given : List ℕ → List Entry → List Step → List ℕ
given text es ss = eights (margins_from text es (entries_of (up_to_end ss)))

-- no fault stands before the steps' end
abbrev Comes : List Step → Type 0
Comes ss = fault_of (up_to_end ss) ≡ None

-- after some steps of which no line begins
record Led (text : List ℕ) (before : List Lexeme) (es : List Entry) (front rest : List Step) : Type 0 where
  now : List Entry
  same : Same now before
  comes : Comes rest
  is : given text es (front ++ rest) ≡ given text now rest

-- a step whose entry begins no line, and is no bracket
record Quiet (e : Entry) : Type 0 where
  inner : (es : List Entry) → ends_line es e ≡ false
  opened : Brackets.opens e ≡ false
  closed : Brackets.closes e ≡ false

given_quiet : (text : List ℕ) (es : List Entry) (e : Entry) (ss : List Step) → ends_line es e ≡ false
    → given text es (steps.Entry e ∷ ss) ≡ given text (e ∷ es) ss
given_quiet text es e ss inner = rw inner refl

module _ (text : List ℕ) (before : List Lexeme) (rest : List Step) where
  led_none : (es : List Entry) → Same es before → Comes ([] ++ rest) → Led text before es [] rest
  led_none es same comes = record { now = es; same = same; comes = comes; is = refl }

  led_marks : (n : ℕ) (e : Entry) (es : List Entry) → Quiet e → Same es before → Comes (replicate n (steps.Entry e) ++ rest)
      → Led text before es (replicate n (steps.Entry e)) rest
  led_marks zero e es quiet same comes = led_none es same comes
  led_marks (suc n) e es quiet same comes =
      let more = led_marks n e (e ∷ es) quiet (same_under e es before quiet.opened quiet.closed same) comes in
      record {
        now = more.now;
        same = more.same;
        comes = more.comes;
        is = given_quiet text es e (replicate n (steps.Entry e) ++ rest) (quiet.inner es) ∙ more.is;
      }

  led_cond : (b : Bool) (es : List Entry) (f g : List Step) → (Comes (f ++ rest) → Led text before es f rest)
      → (Comes (g ++ rest) → Led text before es g rest) → Comes (cond b f g ++ rest) → Led text before es (cond b f g) rest
  led_cond true es f g h k comes = h comes
  led_cond false es f g h k comes = k comes

  quiet_dedent : (o : ℕ) (p q : Place) → Quiet (record { kind = kinds.Dedent; exact = None; start = p; «end» = q; «from» = o; to = o })
  quiet_dedent o p q = record { inner = λ es. refl; opened = refl; closed = refl }

  quiet_indent : (o r : ℕ) (p q : Place) → Quiet (record { kind = kinds.Indent; exact = None; start = p; «end» = q; «from» = o; to = r })
  quiet_indent o r p q = record { inner = λ es. refl; opened = refl; closed = refl }

  layout_led : (es : List Entry) → Same es before → Comes (layout before ++ rest) → Led text before es (layout before) rest
  unfolding layout layout_by
  layout_led es same comes =
      led_cond (is_at_margin before) es _ []
      (led_cond (list_all (λ v. nat_lt v (width_at before)) (open_levels (widths before))) es _ _
      (led_marks 1 _ es (quiet_indent _ _ _ _) same)
      (led_cond (list_any (λ v. v == width_at before) (open_levels (widths before))) es _ _
      (led_marks (count_by (nat_lt (width_at before)) (open_levels (widths before))) _ es (quiet_dedent _ _ _) same)
      (λ faulty. absurd cc)))
      (led_none es same)
      comes

-- Where a line ends at a lexeme

abbrev ends_at : List Lexeme → Lexeme → Bool
ends_at before x = is_of_line_end x && (depth before == 0)

-- after the entry of a lexeme: the next line begins where it ends one
record Entered (text : List ℕ) (before : List Lexeme) (x : Lexeme) (es : List Entry) (left : List ℕ) (rest : List Step) : Type 0 where
  now : List Entry
  same : Same now (x ∷ before)
  comes : Comes rest
  is : given text es (entry_of before x ++ rest) ≡ cond (ends_at before x) (pending true 0 left) [] ++ given text now rest

given_line : (text : List ℕ) (es : List Entry) (e : Entry) (ss : List Step) (b : Bool) → ends_line es e ≡ b
    → given text es (steps.Entry e ∷ ss) ≡ cond b (pending true 0 (following_offset text e.to)) [] ++ given text (e ∷ es) ss
given_line text es e ss b is = rw is (by b)
  where
    later : List Margin
    later = margins_from text (e ∷ es) (entries_of (up_to_end ss))

    by : (b : Bool) → eights (cond b (margin_at text e.to) [] ++ later) ≡ cond b
        (pending true 0 (following_offset text e.to)) [] ++ eights later
    by true = map-append (λ m. m.widths.eight) (margin_at text e.to) later
        ∙ ap (λ (ws : List ℕ). ws ++ eights later) (margin_pends text e.to)
    by false = refl

module _ (text : List ℕ) (before : List Lexeme) (es : List Entry) (left : List ℕ) (rest : List Step) where
  unless_closer : (b : Bool) (e : Entry) → ends_line es e ≡ false → (f : ListingFault)
      → Comes (cond b (steps.Fault f ∷ []) (steps.Entry e ∷ []) ++ rest)
      → Comes rest × (given text es (cond b (steps.Fault f ∷ []) (steps.Entry e ∷ []) ++ rest) ≡ given text (e ∷ es) rest)
  unless_closer true e inner f comes = absurd cc
  unless_closer false e inner f comes = (comes, given_quiet text es e rest inner)

  entry_led : (x : Lexeme) → Same es before → following_offset text (bytes_in (text_before before) + bytes_in x.text) ≡ left
      → Comes (entry_of before x ++ rest) → Entered text before x es left rest
  unfolding entry_of
  entry_led x same following comes = by_class x.«class» x.text following comes
    where
      of_line_end : (b : Bool) (t : List ℕ) (e : Entry) → e.kind ≡ cond b kinds.Newline kinds.Nl → e.exact ≡ None
          → e.to ≡ bytes_in (text_before before) + bytes_in t
          → following_offset text (bytes_in (text_before before) + bytes_in t) ≡ left
          → given text es (steps.Entry e ∷ rest) ≡ cond (depth before == 0) (pending true 0 left) [] ++ given text (e ∷ es) rest
      of_line_end b t e kind exact at following =
          given_line text es e rest (depth before == 0) (ends b kind ∙ ap (λ (n : ℕ). n == 0) (same_depth es before same))
          ∙ ap (λ (l : List ℕ). cond (depth before == 0) (pending true 0 l) [] ++ given text (e ∷ es) rest)
          (ap (following_offset text) at ∙ following)
        where
          ends : (b : Bool) → e.kind ≡ cond b kinds.Newline kinds.Nl → ends_line es e ≡ (open_brackets es == 0)
          ends true k = rw k refl
          ends false k = rw k refl

      by_class : (k : Class) (t : List ℕ) → following_offset text (bytes_in (text_before before) + bytes_in t) ≡ left
          → Comes (entry_of before (record { «class» = k; text = t }) ++ rest)
          → Entered text before (record { «class» = k; text = t }) es left rest
      by_class Name t following comes = record { now = _; same = same_on _ _ es before refl refl same; comes = comes; is = refl }
      by_class Number t following comes = record { now = _; same = same_on _ _ es before refl refl same; comes = comes; is = refl }
      by_class String t following comes = record { now = _; same = same_on _ _ es before refl refl same; comes = comes; is = refl }
      by_class (Operator o) t following comes =
          let e : Entry = record {
            kind = kinds.Op;
            exact = Some o;
            start = place_after (text_before before);
            «end» =
                place_after (text_before before ++ t);
            «from» = bytes_in (text_before before);
            to =
                bytes_in (text_before before) + bytes_in t;
          } in
          let parts = unless_closer (is_closer o && (depth before == 0)) e refl _ comes in
          record { now = e ∷ es; same = same_on e _ es before refl refl same; comes = parts.0; is = parts.1 }
      by_class Comment t following comes = record { now = _; same = same_on _ _ es before refl refl same; comes = comes; is = refl }
      by_class Blanks t following comes = record { now = es; same = same_over _ es before refl refl same; comes = comes; is = refl }
      by_class Join t following comes = record { now = es; same = same_over _ es before refl refl same; comes = comes; is = refl }
      by_class LineEnd t following comes =
          let e : Entry = record {
            kind = line_end_kind before;
            exact = None;
            start = place_after (text_before before);
            «end» =
                further (place_after (text_before before)) (length t);
            «from» = bytes_in (text_before before);
            to =
                bytes_in (text_before before) + bytes_in t;
          } in
          record {
            now = e ∷ es;
            same = same_on e _ es before refl refl same;
            comes = comes;
            is = of_line_end (is_logical before && (depth before == 0)) t e refl refl refl following;
          }

-- One lexeme and its layout

-- the widths of the lines that begin among some lexemes, after others
abbrev begun : List Lexeme → List Lexeme → List ℕ
begun before [] = []
begun before (x ∷ xs) = cond (is_at_margin before && is_significant x) (width_at before ∷ begun (x ∷ before) xs) (begun (x ∷ before) xs)

zero_width : width_from 0 [] ≡ 0
unfolding width_from
zero_width = refl

module _ (before : List Lexeme) (x : Lexeme) where
  at_margin_on : is_at_margin (x ∷ before) ≡ cond (ends_at before x) true (is_of_blanks x && is_at_margin before)
  unfolding is_at_margin line_so_far
  at_margin_on = by (ends_at before x)
    where
      by : (b : Bool) → list_all is_of_blanks (cond b [] (x ∷ line_so_far before)) ≡ cond b true
          (is_of_blanks x && list_all is_of_blanks (line_so_far before))
      by true = refl
      by false = refl

  width_at_on : width_at (x ∷ before) ≡ cond (ends_at before x) 0 (width_from (width_at before) x.text)
  unfolding width_at line_so_far
  width_at_on = by (ends_at before x)
    where
      by : (b : Bool) → width_from 0 (text_before (cond b [] (x ∷ line_so_far before))) ≡ cond b 0
          (width_from (width_from 0 (text_before (line_so_far before))) x.text)
      by true = zero_width
      by false = width_on 0 (text_before (line_so_far before)) x.text

-- the margin that was pending, and the line that begins with the lexeme
module _ (m : Bool) (w : ℕ) (t ws ns : List ℕ) where
  -- a lexeme within a line
  inside : (significant : Bool) → pending m w t ≡ cond (m && significant) (w ∷ []) [] → ws ≡ ns
      → pending m w t ++ ws ≡ cond (m && significant) (w ∷ ns) ns
  inside significant pends rest = ap (λ (us : List ℕ). us ++ ws) pends ∙ by (m && significant) rest
    where
      by : (b : Bool) → ws ≡ ns → cond b (w ∷ []) [] ++ ws ≡ cond b (w ∷ ns) ns
      by true h = ap (λ (us : List ℕ). w ∷ us) h
      by false h = h

no_significant : (m : Bool) (w : ℕ) (ns : List ℕ) → cond (m && false) (w ∷ ns) ns ≡ ns
no_significant true w ns = refl
no_significant false w ns = refl

module _ (t left ws ns : List ℕ) (m d : Bool) (w : ℕ) where
  met_by : (k : Class) (u : List ℕ) → begins_significant t ≡ is_significant_class k
      → Fronts k (is_comment u) (are_blanks u) (is_line_end u) → t ≡ u ++ left
      → pending (cond (is_line_end_class k && d) true (is_blanks_class k && m))
      (cond (is_line_end_class k && d) 0 (width_from w u)) left ++ ws ≡ ns
      → pending m w t ++ (cond (is_line_end_class k && d) (pending true 0 left) [] ++ ws) ≡ cond (m && is_significant_class k) (w ∷ ns) ns
  met_by Name u significant front cut more =
      inside m w t ws ns true (pending_by m true w t (significant_front t significant) significant) more
  met_by Number u significant front cut more =
      inside m w t ws ns true (pending_by m true w t (significant_front t significant) significant) more
  met_by String u significant front cut more =
      inside m w t ws ns true (pending_by m true w t (significant_front t significant) significant) more
  met_by (Operator o) u significant front cut more =
      inside m w t ws ns true (pending_by m true w t (significant_front t significant) significant) more
  met_by Join u significant front cut more =
      inside m w t ws ns true (pending_by m true w t (significant_front t significant) significant) more
  met_by Comment u significant front cut more =
      inside m w t ws ns false (pending_by m false w t (ap blanks_of cut ∙ comment_front u left front) significant) more
  met_by LineEnd u significant front cut more = by_depth d more
    where
      pends : pending m w t ≡ cond (m && false) (w ∷ []) []
      pends = pending_by m false w t (ap blanks_of cut ∙ line_end_front u left front) significant

      by_depth : (d : Bool) → pending (cond d true false) (cond d 0 (width_from w u)) left ++ ws ≡ ns
          → pending m w t ++ (cond d (pending true 0 left) [] ++ ws) ≡ cond (m && false) (w ∷ ns) ns
      by_depth true more =
          ap (λ (us : List ℕ). us ++ (pending true 0 left ++ ws)) (pends ∙ no_significant m w []) ∙ more ∙ sym (no_significant m w ns)
      by_depth false more = inside m w t ws ns false pends more
  met_by Blanks u significant front cut more =
      ap (λ (us : List ℕ). us ++ ws) (ap (pending m w) cut ∙ pending_on m w u left (blanks_all u front)) ∙ more
      ∙ sym (no_significant m w ns)

met : (before : List Lexeme) (x : Lexeme) (t left ws ns : List ℕ) → lexeme_at t ≡ Some x → t ≡ x.text ++ left
    → pending (is_at_margin (x ∷ before)) (width_at (x ∷ before)) left ++ ws ≡ ns
    → pending (is_at_margin before) (width_at before) t ++ (cond (ends_at before x) (pending true 0 left) [] ++ ws)
    ≡ cond (is_at_margin before && is_significant x) (width_at before ∷ ns) ns
met before x t left ws ns is cut more =
    met_by t left ws ns (is_at_margin before) (depth before == 0) (width_at before) x.«class» x.text
    (sym (significant_is t x is)) (class_fronts t x.text x.«class» ((longest_wins t).longest x is).in_class) cut
    (sym (ap₂ (λ (b : Bool) (n : ℕ). pending b n left ++ ws) (at_margin_on before x) (width_at_on before x)) ∙ more)

-- The text's end

abbrev IsFault : Step → Type 0
IsFault step = (f : ListingFault) × (step ≡ steps.Fault f)

never_comes : (step : Step) → IsFault step → Comes (step ∷ []) → ⊥
never_comes step is comes = let h : Comes (steps.Fault is.0 ∷ []) = subst (λ (t : Step). Comes (t ∷ [])) is.1 comes in cc

fault_if : (b : Bool) (s t : Step) → IsFault s → IsFault t → IsFault (cond b s t)
fault_if true s t h k = h
fault_if false s t h k = k

stop_faults : (fault : Option ListingFault) (p : Place) (left : List ℕ) → IsFault (stop_fault fault p left)
unfolding stop_fault
stop_faults fault p left =
    fault_if (not (opens_string left)) _ _ (_, refl) (fault_if (not (is_open_string left)) _ _ (_, refl) (by fault))
  where
    by : (fault : Option ListingFault) → IsFault (elim fault [ Some f ↦ steps.Fault f | None ↦ fault_at errors.EofInString p ])
    by (Some f) = (f, refl)
    by None = (_, refl)

-- after no entry among some steps a logical line begins
abbrev Still : List ℕ → List Step → Type 0
Still text [] = Unit {0}
Still text (steps.Entry e ∷ ss) = (margin_at text e.to ≡ []) × Still text ss
Still text (steps.End ∷ ss) = Unit {0}
Still text (steps.Fault f ∷ ss) = Unit {0}

still_given : (text : List ℕ) (ss : List Step) (es : List Entry) → Still text ss → given text es ss ≡ []
still_given text [] es still = refl
still_given text (steps.Entry e ∷ ss) es still = by (ends_line es e) (margin_at text e.to) still.0 (still_given text ss (e ∷ es) still.1)
  where
    by : (b : Bool) (ms : List Margin) → ms ≡ [] → given text (e ∷ es) ss ≡ []
        → eights (cond b ms [] ++ margins_from text (e ∷ es) (entries_of (up_to_end ss))) ≡ []
    by true ms none rest = rw none rest
    by false ms none rest = rest
still_given text (steps.End ∷ ss) es still = refl
still_given text (steps.Fault f ∷ ss) es still = refl

still_append : (text : List ℕ) (ss ts : List Step) → Still text ss → Still text ts → Still text (ss ++ ts)
still_append text [] ts h k = k
still_append text (steps.Entry e ∷ ss) ts h k = (h.0, still_append text ss ts h.1 k)
still_append text (steps.End ∷ ss) ts h k = tt
still_append text (steps.Fault f ∷ ss) ts h k = tt

still_if : (text : List ℕ) (b : Bool) (ss ts : List Step) → Still text ss → Still text ts → Still text (cond b ss ts)
still_if text true ss ts h k = h
still_if text false ss ts h k = k

still_marks : (text : List ℕ) (n : ℕ) (e : Entry) → margin_at text e.to ≡ [] → Still text (replicate n (steps.Entry e))
still_marks text zero e h = tt
still_marks text (suc n) e h = (h, still_marks text n e h)

no_margin : (text : List ℕ) (o : ℕ) → following_offset text o ≡ [] → margin_at text o ≡ []
unfolding begins_significant
no_margin text o none =
    let nothing : begins_significant (drop (length (blanks_of (following_offset text o))) (following_offset text o)) ≡ false =
    ap (λ (t : List ℕ). begins_significant (drop (length (blanks_of t)) t)) none in
    rw nothing refl

module _ (text : List ℕ) (before : List Lexeme) (at_end : margin_at text (bytes_in (text_before before)) ≡ []) where
  last_still : (p : Place) → Still text (line_end_of_last before p)
  unfolding line_end_of_last
  last_still p =
      still_if text (is_logical before) _ _
      (still_if text (begins_comment (last_line (text_before before))) [] _ tt (at_end, tt))
      (still_if text (is_at_margin before) [] _ tt (at_end, tt))

  tail_still : (p : Place) → Still text (tail before p)
  unfolding tail
  tail_still p =
      still_if text (not (depth before == 0) || ends_in_join before) _ _ tt
      (still_append text (line_end_of_last before p ++ dedents 0 (open_levels (widths before)) (text_before before) (end_place before p)) _
      (still_append text (line_end_of_last before p) _ (last_still p)
      (still_marks text (count_by (nat_lt 0) (open_levels (widths before))) _ at_end))
      (at_end, tt))

no_length : (t : List ℕ) → (length t == 0) ≡ true → t ≡ []
no_length [] h = refl
no_length (c ∷ t) h = let none : length (c ∷ t) ≡ 0 = grind (arith, nat_tests) in absurd (omega (arith, none))

module _ (text : List ℕ) (good : all_scalars text ≡ true) (fault : Option ListingFault) (left : List ℕ) where
  ending : (before : List Lexeme) (es : List Entry) → text ≡ text_before before ++ left → Same es before → Comes (stop fault before left)
      → pending (is_at_margin before) (width_at before) left ++ given text es (stop fault before left) ≡ []
  unfolding stop
  ending before es whole same comes = by (length left == 0) (no_length left) comes
    where
      p : Place
      p = place_after (text_before before)

      by_fault : left ≡ [] → (o : Option ListingFault) → Comes (elim o [ Some f ↦ steps.Fault f ∷ [] | None ↦ tail before p ])
          → pending (is_at_margin before) (width_at before) left ++ given text es
          (elim o [ Some f ↦ steps.Fault f ∷ [] | None ↦ tail before p ]) ≡ []
      by_fault nil (Some f) comes = absurd cc
      by_fault nil None comes =
          let at_end = no_margin text (bytes_in (text_before before))
          (text_following text (text_before before) left (bytes_in (text_before before)) good whole refl ∙ nil) in
          ap (λ (us : List ℕ). us ++ given text es (tail before p))
          (ap (pending (is_at_margin before) (width_at before)) nil ∙ nothing_pends (is_at_margin before) (width_at before))
          ∙ still_given text (tail before p) es (tail_still text before at_end p)

      by : (b : Bool) → (b ≡ true → left ≡ [])
          → Comes (cond (not b) (layout before ++ stop_fault fault p left ∷ [])
          (elim fault [ Some f ↦ steps.Fault f ∷ [] | None ↦ tail before p ]))
          → pending (is_at_margin before) (width_at before) left ++ given text es
          (cond (not b) (layout before ++ stop_fault fault p left ∷ [])
          (elim fault [ Some f ↦ steps.Fault f ∷ [] | None ↦ tail before p ])) ≡ []
      by false nil comes =
          absurd (never_comes (stop_fault fault p left) (stop_faults fault p left)
          (layout_led text before (stop_fault fault p left ∷ []) es same comes).comes)
      by true nil comes = by_fault (nil refl) fault comes

  along : (xs before : List Lexeme) (t : List ℕ) (es : List Entry) → text ≡ text_before before ++ t → AreLexemes t xs left → Same es before
      → Comes (steps_from fault left before xs)
      → pending (is_at_margin before) (width_at before) t ++ given text es (steps_from fault left before xs) ≡ begun before xs
  unfolding steps_of
  along [] before t es whole lexed same comes =
      ap (λ (u : List ℕ). pending (is_at_margin before) (width_at before) u ++ given text es (stop fault before left)) (sym lexed.0)
      ∙ ending before es (whole ∙ ap (λ (u : List ℕ). text_before before ++ u) (sym lexed.0)) same comes
  along (x ∷ xs) before t es whole lexed same comes =
      let following = lexed.0 in
      let rest = steps_from fault left (x ∷ before) xs in
      let first = cond (is_significant x) (layout before) [] in
      let on : text ≡ text_before before ++ (x.text ++ following) = whole ∙ ap (λ (u : List ℕ). text_before before ++ u) lexed.2 in
      let whole' : text ≡ (text_before before ++ x.text) ++ following = on ∙ sym (append_assoc (text_before before) x.text following) in
      let split : (first ++ entry_of before x) ++ rest ≡ first ++ (entry_of before x ++ rest) =
      append_assoc first (entry_of before x) rest in
      let led = led_cond text before (entry_of before x ++ rest) (is_significant x) es (layout before) []
      (layout_led text before (entry_of before x ++ rest) es same) (led_none text before (entry_of before x ++ rest) es same)
      (subst Comes split comes) in
      let offset = text_following text (text_before before ++ x.text) following (bytes_in (text_before before) + bytes_in x.text) good whole'
      (sym (bytes_on (text_before before) x.text)) in
      let entered = entry_led text before led.now following rest x led.same offset led.comes in
      let more = along xs (x ∷ before) following entered.now whole' lexed.3 entered.same entered.comes in
      ap (λ (us : List ℕ). pending (is_at_margin before) (width_at before) t ++ us) (ap (given text es) split ∙ led.is ∙ entered.is)
      ∙ met before x t following (given text entered.now rest) (begun (x ∷ before) xs) lexed.1 lexed.2 more

-- the lines that began, in their order
in_order : (xs before : List Lexeme) → reverse (widths (reverse xs ++ before)) ≡ reverse (widths before) ++ begun before xs
unfolding widths
in_order [] before = sym (append-nil (reverse (widths before)))
in_order (x ∷ xs) before =
    ap (λ (ys : List Lexeme). reverse (widths (ys ++ before))) (reverse-append (x ∷ []) xs)
    ∙ ap (λ (ys : List Lexeme). reverse (widths ys)) (append_assoc (reverse xs) (x ∷ []) before)
    ∙ in_order xs (x ∷ before)
    ∙ by (is_at_margin before && is_significant x) (width_at before) (widths before) (begun (x ∷ before) xs)
  where
    by : (b : Bool) (w : ℕ) (ws ns : List ℕ) → reverse (cond b (w ∷ ws) ws) ++ ns ≡ reverse ws ++ cond b (w ∷ ns) ns
    by true w ws ns = ap (λ (us : List ℕ). us ++ ns) (reverse-append (w ∷ []) ws) ∙ append_assoc (reverse ws) (w ∷ []) ns
    by false w ws ns = refl

pub margins_are_widths : MarginsAreWidths
unfolding listing is_at_margin line_so_far width_at width_from widths
margins_are_widths s good comes =
    let text = s.text in
    let ss = steps_from s.fault (left_by_cut text) [] (cut text) in
    let e : Entry = record {
      kind = kinds.Encoding;
      exact = None;
      start = origin;
      «end» = origin;
      «from» =
          bytes_in [];
      to = bytes_in [];
    } in
    let none : Same [] [] = record { opened = refl; closed = refl } in
    map-append (λ m. m.widths.eight) (margin_at text 0) (margins_from text (e ∷ []) (entries_of (up_to_end ss)))
    ∙ ap (λ (us : List ℕ). us ++ given text (e ∷ []) ss) (margin_pends text 0
    ∙ ap (pending true 0) (text_following text [] text 0 good refl refl))
    ∙ along text good s.fault (left_by_cut text) (cut text) [] text (e ∷ []) refl (is_cut text).lexemes
    (same_under e [] [] refl refl none) comes
    ∙ sym (in_order (cut text) [])
    ∙ ap (λ (ys : List Lexeme). reverse (widths ys)) (append-nil (reverse (cut text)))
