-- Fields without their CRs.
-- Carries: pieces. On: ReturnTexts, ReturnScans.
use Rattle.std.proofs.Common.{◌≡◌, ℕ, Bool, true, false, List, [], ◌∷◌, ◌++◌, drop, refl, sym, ap, ◌∙◌, subst, ◌⊎◌, inl, inr, Option, Some}
use Rattle.std.proofs.Common.{None, add_comm, add-one}
use Rattle.std.specs.Prelude.{◌==◌, ◌&&◌, option_map, is_some, slice_get}
use Rattle.std.proofs.lemmas.Option.{some_pair_parts}
use Rattle.std.specs.List.{list_all}
use Rattle.std.proofs.lemmas.Bool.{cases_Bool, eqb-true}
use Rattle.pyfstring.specs.declared.parts.Conversion.{Conversion}
use Rattle.pyfstring.specs.Characters.{exclamation_mark, colon, equals_sign, right_curly_bracket, carriage_return}
use Rattle.pyfstring.specs.Texts.{begins_with}
use Rattle.pyfstring.specs.Expressions.{following_expression}
use Rattle.pyfstring.specs.Returns.{IsLined, nothing, character, line_end, without_returns, plain_field}
use Rattle.pyfstring.specs.Parts.{FieldParts}
use Rattle.pyfstring.specs.Pieces.{Converts, unconverted, by_str, by_repr, by_ascii, is_blank, is_blank_or_tabulation, after_blanks}
use Rattle.pyfstring.specs.Pieces.{conversion_of}
use Rattle.pyfstring.specs.Cutting.{EndsWith, before, Read, expression_at, kept_at, conversion_by, conversion_at, FrontParts, front_at}
use Rattle.pyfstring.specs.Cutting.{with_spec, spec_at, after_closing, field_at}
use Rattle.pyfstring.proofs.Fronts.{ends_all, before_is, before_whole, ends_drop, ends_through}
use Rattle.pyfstring.proofs.Scanning.{expression_ends}
use Rattle.pyfstring.proofs.Reading.{expression_reads, slot_kept, Fronted, front_sound}
use Rattle.pyfstring.proofs.FieldSteps.{conversion_absent, conversion_ends, conversion_fails, conversion_given, kept_absent, kept_fails}
use Rattle.pyfstring.proofs.FieldSteps.{kept_given, expression_fails, expression_blank, expression_given, front_no_expression}
use Rattle.pyfstring.proofs.FieldSteps.{front_no_kept, front_no_conversion, front_given, closing_some, closing_none}
use Rattle.pyfstring.proofs.PieceSteps.{is_some-map, spec_absent, spec_fails, spec_given, field_no_front, field_no_spec, field_no_closing}
use Rattle.pyfstring.proofs.PieceSteps.{field_given}
use Rattle.pyfstring.proofs.ReturnTexts.{plain_one, begins_same}
use Rattle.pyfstring.proofs.ReturnScans.{expression_same}

-- ---- Lists.

pub plain_none : (c : ℕ) (cs : List ℕ) → (c == carriage_return) ≡ true → without_returns (c ∷ cs) ≡ without_returns cs
plain_none c cs e = rw (e, without_returns) refl

plain-append : (t u : List ℕ) → without_returns (t ++ u) ≡ without_returns t ++ without_returns u
plain-append [] u = refl
plain-append (c ∷ t) u = at (cases_Bool (c == carriage_return)) (plain-append t u)
  where
    at : ((c == carriage_return) ≡ true) ⊎ ((c == carriage_return) ≡ false) → without_returns (t ++ u) ≡ without_returns t ++
        without_returns u → without_returns (c ∷ (t ++ u)) ≡ without_returns (c ∷ t) ++ without_returns u
    at (inl e) more = plain_none c (t ++ u) e ∙ more ∙ ap (λ x. x ++ without_returns u) (sym (plain_none c t e))
    at (inr e) more = plain_one c (t ++ u) e ∙ ap (λ x. c ∷ x) more ∙ ap (λ x. x ++ without_returns u) (sym (plain_one c t e))

pub before_same : (cs r : List ℕ) → EndsWith cs r → before (without_returns cs) (without_returns r) ≡ without_returns (before cs r)
before_same cs r e = before_is (without_returns cs) (without_returns (before cs r)) (without_returns r)
    (ap without_returns (before_whole cs r e) ∙ plain-append (before cs r) r)

pub lined_tail : {c : ℕ} {cs : List ℕ} → IsLined (c ∷ cs) → IsLined cs
lined_tail (character e l) = l
lined_tail (line_end l) = character refl l

lined_after : (t r : List ℕ) → IsLined (t ++ r) → IsLined r
lined_after [] r l = l
lined_after (c ∷ t) r l = lined_after t r (lined_tail l)

pub lined_end : (cs r : List ℕ) → EndsWith cs r → IsLined cs → IsLined r
lined_end cs r (t, e) l = lined_after t r (subst (λ (x : List ℕ). IsLined x) e l)

-- after a character that is first, and no CR
pub drop_same : (c : ℕ) (cs : List ℕ) → (c == carriage_return) ≡ false → begins_with c cs ≡ true
    → drop 1 (without_returns cs) ≡ without_returns (drop 1 cs)
drop_same c [] e b = cc
drop_same c (d ∷ cs) e b = let y : d ≡ c = eqb-true d c b in let g : (d == carriage_return) ≡ false = rw y e in
    ap (drop 1) (plain_one d cs g)

blank_same : (cs : List ℕ) → list_all is_blank (without_returns cs) ≡ list_all is_blank cs
blank_same [] = refl
blank_same (c ∷ cs) = at (cases_Bool (c == carriage_return)) (blank_same cs)
  where
    at : ((c == carriage_return) ≡ true) ⊎ ((c == carriage_return) ≡ false) → list_all is_blank (without_returns cs) ≡ list_all is_blank cs
        → list_all is_blank (without_returns (c ∷ cs)) ≡ list_all is_blank (c ∷ cs)
    at (inl e) more = let y : c ≡ 13 = eqb-true c 13 e in
        subst (λ (x : ℕ). list_all is_blank (without_returns (x ∷ cs)) ≡ list_all is_blank (x ∷ cs)) (sym y) more
    at (inr e) more = ap (list_all is_blank) (plain_one c cs e) ∙ ap (λ (b : Bool). is_blank c && b) more

blanks_same : (cs : List ℕ) → after_blanks (without_returns cs) ≡ without_returns (after_blanks cs)
blanks_same [] = refl
blanks_same (c ∷ cs) = at (cases_Bool (c == carriage_return)) (cases_Bool (is_blank_or_tabulation c)) (blanks_same cs)
  where
    goes : (d : ℕ) (ds : List ℕ) → is_blank_or_tabulation d ≡ true → after_blanks (d ∷ ds) ≡ after_blanks ds
    goes d ds e = rw (e, add_comm, add-one) refl

    stops : (d : ℕ) (ds : List ℕ) → is_blank_or_tabulation d ≡ false → after_blanks (d ∷ ds) ≡ d ∷ ds
    stops d ds e = rw e refl

    at : ((c == carriage_return) ≡ true) ⊎ ((c == carriage_return) ≡ false)
        → (is_blank_or_tabulation c ≡ true) ⊎ (is_blank_or_tabulation c ≡ false) → after_blanks (without_returns cs) ≡ without_returns
        (after_blanks cs) → after_blanks (without_returns (c ∷ cs)) ≡ without_returns (after_blanks (c ∷ cs))
    at (inl e) _ more = let y : c ≡ 13 = eqb-true c 13 e in
        subst (λ (x : ℕ). after_blanks (without_returns (x ∷ cs)) ≡ without_returns (after_blanks (x ∷ cs))) (sym y) (more
        ∙ ap without_returns (sym (goes 13 cs refl)))
    at (inr e) (inl b) more = ap after_blanks (plain_one c cs e) ∙ goes c (without_returns cs) b ∙ more
        ∙ ap without_returns (sym (goes c cs b))
    at (inr e) (inr b) more = ap after_blanks (plain_one c cs e) ∙ stops c (without_returns cs) b ∙ sym (plain_one c cs e)
        ∙ ap without_returns (sym (stops c cs b))

-- ---- A reader that gives the same without CRs.

abbrev pub both : {X : Type 0} → (X → X) → Read X → Read X
both plain o = option_map (λ x. (plain x.0, without_returns x.1)) o

pub record Commutes {X : Type 0} (f : List ℕ → Read X) (plain : X → X) : Type 0 where
  pub same : (cs : List ℕ) → IsLined cs → f (without_returns cs) ≡ both plain (f cs)
  pub lined : (cs : List ℕ) (x : X) (r : List ℕ) → IsLined cs → f cs ≡ Some (x, r) → IsLined r

expression_commutes : (cs : List ℕ) → IsLined cs → expression_at (without_returns cs) ≡ both without_returns (expression_at cs)
expression_commutes cs i = at (following_expression cs) refl
  where
    at : (o : Option (List ℕ)) → following_expression cs ≡ o → expression_at (without_returns cs) ≡ both without_returns (expression_at cs)
    at None e = expression_fails (without_returns cs) (expression_same cs i ∙ ap (option_map without_returns) e)
        ∙ ap (both without_returns) (sym (expression_fails cs e))
    at (Some r) e = blank (cases_Bool (list_all is_blank (before cs r)))
      where
        blank : (list_all is_blank (before cs r) ≡ true) ⊎ (list_all is_blank (before cs r) ≡ false)
            → expression_at (without_returns cs) ≡ both without_returns (expression_at cs)
        blank (inl b) =
            let t = before_same cs r (expression_ends cs r e) in
            expression_blank (without_returns cs) (without_returns r) (expression_same cs i ∙ ap (option_map without_returns) e)
            (ap (list_all is_blank) t ∙ blank_same (before cs r) ∙ b)
            ∙ ap (both without_returns) (sym (expression_blank cs r e b))
        blank (inr b) =
            let t = before_same cs r (expression_ends cs r e) in
            expression_given (without_returns cs) (without_returns r) (expression_same cs i ∙ ap (option_map without_returns) e)
            (ap (list_all is_blank) t ∙ blank_same (before cs r) ∙ b)
            ∙ ap (λ (x : List ℕ). Some (x, without_returns r)) t
            ∙ ap (both without_returns) (sym (expression_given cs r e b))

kept_commutes : (n : Bool) (cs here : List ℕ) → EndsWith cs here → IsLined here → kept_at n (without_returns cs) (without_returns here) ≡
    both (option_map without_returns) (kept_at n cs here)
kept_commutes n cs here w i = at (cases_Bool (begins_with equals_sign here)) (cases_Bool n)
  where
    at : (begins_with equals_sign here ≡ true) ⊎ (begins_with equals_sign here ≡ false) → (n ≡ true) ⊎ (n ≡ false)
        → kept_at n (without_returns cs) (without_returns here) ≡ both (option_map without_returns) (kept_at n cs here)
    at (inl b) (inl m) =
        kept_fails n (without_returns cs) (without_returns here) (begins_same (λ d. d == equals_sign) refl i ∙ b) m
        ∙ ap (both (option_map without_returns)) (sym (kept_fails n cs here b m))
    at (inl b) (inr m) =
        let left : after_blanks (drop 1 (without_returns here)) ≡ without_returns (after_blanks (drop 1 here)) =
        ap after_blanks (drop_same equals_sign here refl b) ∙ blanks_same (drop 1 here) in
        let ends : EndsWith cs (after_blanks (drop 1 here)) =
        ends_through cs here _ w (ends_through here (drop 1 here) _ (ends_drop 1 here) (ends_drop _ (drop 1 here))) in
        kept_given n (without_returns cs) (without_returns here) (begins_same (λ d. d == equals_sign) refl i ∙ b) m
        ∙ ap (λ (x : List ℕ). Some (Some (before (without_returns cs) x), x)) left
        ∙ ap (λ (x : List ℕ). Some (Some x, without_returns (after_blanks (drop 1 here))))
        (before_same cs (after_blanks (drop 1 here)) ends)
        ∙ ap (both (option_map without_returns)) (sym (kept_given n cs here b m))
    at (inr b) _ =
        kept_absent n (without_returns cs) (without_returns here) (begins_same (λ d. d == equals_sign) refl i ∙ b)
        ∙ ap (both (option_map without_returns)) (sym (kept_absent n cs here b))

conversion_commutes : (cs : List ℕ) → IsLined cs → conversion_at (without_returns cs) ≡ both (λ k. k) (conversion_at cs)
conversion_commutes cs i = at (cases_Bool (begins_with exclamation_mark cs))
  where
    at : (begins_with exclamation_mark cs ≡ true) ⊎ (begins_with exclamation_mark cs ≡ false)
        → conversion_at (without_returns cs) ≡ both (λ k. k) (conversion_at cs)
    at (inr b) = conversion_absent (without_returns cs) (begins_same (λ d. d == exclamation_mark) refl i ∙ b)
        ∙ ap (both (λ k. k)) (sym (conversion_absent cs b))
    at (inl b) = letter (drop 1 cs) refl (lined_end cs (drop 1 cs) (ends_drop 1 cs) i)
      where
        letter : (ds : List ℕ) → drop 1 cs ≡ ds → IsLined ds → conversion_at (without_returns cs) ≡ both (λ k. k) (conversion_at cs)
        letter _ e nothing =
            conversion_ends (without_returns cs) (begins_same (λ d. d == exclamation_mark) refl i ∙ b)
            (ap (λ (x : List ℕ). slice_get x 0) (drop_same exclamation_mark cs refl b ∙ ap without_returns e))
            ∙ ap (both (λ k. k)) (sym (conversion_ends cs b (ap (λ (x : List ℕ). slice_get x 0) e)))
        letter _ e (line_end {cs = ds} l) =
            conversion_fails (without_returns cs) 10 (begins_same (λ d. d == exclamation_mark) refl i ∙ b)
            (ap (λ (x : List ℕ). slice_get x 0) (drop_same exclamation_mark cs refl b ∙ ap without_returns e)) refl
            ∙ ap (both (λ k. k)) (sym (conversion_fails cs 13 b (ap (λ (x : List ℕ). slice_get x 0) e) refl))
        letter _ e (character {c = c} {cs = ds} g l) = by (conversion_by c) refl
          where
            by : (o : Option Conversion) → conversion_by c ≡ o → conversion_at (without_returns cs) ≡ both (λ k. k) (conversion_at cs)
            by None f =
                conversion_fails (without_returns cs) c (begins_same (λ d. d == exclamation_mark) refl i ∙ b)
                (ap (λ (x : List ℕ). slice_get x 0) (drop_same exclamation_mark cs refl b ∙ ap without_returns e ∙ plain_one c ds g)) f
                ∙ ap (both (λ k. k)) (sym (conversion_fails cs c b (ap (λ (x : List ℕ). slice_get x 0) e) f))
            by (Some k) f =
                conversion_given (without_returns cs) c k (begins_same (λ d. d == exclamation_mark) refl i ∙ b)
                (ap (λ (x : List ℕ). slice_get x 0) (drop_same exclamation_mark cs refl b ∙ ap without_returns e ∙ plain_one c ds g)) f
                ∙ ap (λ (x : List ℕ). Some (k, drop 1 x)) (drop_same exclamation_mark cs refl b ∙ ap without_returns e ∙ plain_one c ds g)
                ∙ ap (λ (x : List ℕ). Some (k, without_returns (drop 1 x))) (sym e)
                ∙ ap (both (λ k. k)) (sym (conversion_given cs c k b (ap (λ (x : List ℕ). slice_get x 0) e) f))

abbrev pub plain_front : FrontParts → FrontParts
plain_front f = record { text = without_returns f.text; kept = option_map without_returns f.kept; given = f.given }

-- ---- Where the parts of a field begin.

kept_ends : (n : Bool) (cs here : List ℕ) (k : Option (List ℕ)) (r : List ℕ) → kept_at n cs here ≡ Some (k, r) → EndsWith here r
kept_ends n cs here k r e = at (cases_Bool (begins_with equals_sign here)) (cases_Bool n)
  where
    at : (begins_with equals_sign here ≡ true) ⊎ (begins_with equals_sign here ≡ false) → (n ≡ true) ⊎ (n ≡ false) → EndsWith here r
    at (inl b) (inl m) = let z : ◌≡◌ {A = Read (Option (List ℕ))} None (Some (k, r)) = sym (kept_fails n cs here b m) ∙ e in cc
    at (inl b) (inr m) =
        let z = some_pair_parts _ _ _ _ (sym (kept_given n cs here b m) ∙ e) in
        subst (λ (x : List ℕ). EndsWith here x) z.1 (ends_through here (drop 1 here) _ (ends_drop 1 here) (ends_drop _ (drop 1 here)))
    at (inr b) _ = let z = some_pair_parts _ _ _ _ (sym (kept_absent n cs here b) ∙ e) in
        subst (λ (x : List ℕ). EndsWith here x) z.1 (ends_all here)

conversion_ends_with : (cs : List ℕ) (k : Conversion) (r : List ℕ) → Converts cs k r → EndsWith cs r
conversion_ends_with cs k r (unconverted b) = ends_all cs
conversion_ends_with cs k r by_str = (33 ∷ 115 ∷ [], refl)
conversion_ends_with cs k r by_repr = (33 ∷ 114 ∷ [], refl)
conversion_ends_with cs k r by_ascii = (33 ∷ 97 ∷ [], refl)

pub front_commutes : (n : Bool) → Commutes (front_at n) plain_front
front_commutes n = record {
  same = λ cs i. by_expression cs i (expression_at cs) refl;
  lined = λ cs f r i e. following cs f r i (front_sound n cs f r e);
}
  where
    by_conversion : (cs : List ℕ) → IsLined cs → (t a : List ℕ) (k : Option (List ℕ)) (b : List ℕ) → expression_at cs ≡ Some (t, a)
        → kept_at n cs a ≡ Some (k, b) → EndsWith cs a → IsLined b → (o : Read Conversion) → conversion_at b ≡ o
        → front_at n (without_returns cs) ≡ both plain_front (front_at n cs)
    by_conversion cs i t a k b e f w j None g =
        front_no_conversion n (without_returns cs) (without_returns t) (without_returns a) (option_map without_returns k)
        (without_returns b) (expression_commutes cs i ∙ ap (both without_returns) e) (kept_commutes n cs a w (lined_end cs a w i)
        ∙ ap (both (option_map without_returns)) f) (conversion_commutes b j ∙ ap (both (λ x. x)) g)
        ∙ ap (both plain_front) (sym (front_no_conversion n cs t a k b e f g))
    by_conversion cs i t a k b e f w j (Some x) g =
        front_given n (without_returns cs) (without_returns t) (without_returns a) (option_map without_returns k) (without_returns b) x.0
        (without_returns x.1) (expression_commutes cs i ∙ ap (both without_returns) e) (kept_commutes n cs a w (lined_end cs a w i)
        ∙ ap (both (option_map without_returns)) f) (conversion_commutes b j ∙ ap (both (λ x. x)) g)
        ∙ ap (both plain_front) (sym (front_given n cs t a k b x.0 x.1 e f g))

    by_kept : (cs : List ℕ) → IsLined cs → (t a : List ℕ) → expression_at cs ≡ Some (t, a) → EndsWith cs a → (o : Read (Option (List ℕ)))
        → kept_at n cs a ≡ o → front_at n (without_returns cs) ≡ both plain_front (front_at n cs)
    by_kept cs i t a e w None f =
        front_no_kept n (without_returns cs) (without_returns t) (without_returns a) (expression_commutes cs i
        ∙ ap (both without_returns) e) (kept_commutes n cs a w (lined_end cs a w i) ∙ ap (both (option_map without_returns)) f)
        ∙ ap (both plain_front) (sym (front_no_kept n cs t a e f))
    by_kept cs i t a e w (Some x) f =
        by_conversion cs i t a x.0 x.1 e f w (lined_end a x.1 (kept_ends n cs a x.0 x.1 f) (lined_end cs a w i)) (conversion_at x.1) refl

    by_expression : (cs : List ℕ) → IsLined cs → (o : Read (List ℕ)) → expression_at cs ≡ o
        → front_at n (without_returns cs) ≡ both plain_front (front_at n cs)
    by_expression cs i None e = front_no_expression n (without_returns cs) (expression_commutes cs i ∙ ap (both without_returns) e)
        ∙ ap (both plain_front) (sym (front_no_expression n cs e))
    by_expression cs i (Some x) e = by_kept cs i x.0 x.1 e (x.0, (expression_reads.sound cs x.0 x.1 e).whole) (kept_at n cs x.1) refl

    following : (cs : List ℕ) (f : FrontParts) (r : List ℕ) → IsLined cs → Fronted n cs f r → IsLined r
    following cs f r i h =
        let a = lined_end cs h.after_expression (f.text, h.expression.whole) i in
        let b = lined_end h.after_expression h.after_kept (slot_kept n cs h.after_expression f.kept h.after_kept h.keeps).1 a in
        lined_end h.after_kept r (conversion_ends_with h.after_kept f.given r h.converts) b

-- ---- A field.

closing_commutes : (cs : List ℕ) → IsLined cs → after_closing (without_returns cs) ≡ option_map without_returns (after_closing cs)
closing_commutes cs i = at (cases_Bool (begins_with right_curly_bracket cs))
  where
    at : (begins_with right_curly_bracket cs ≡ true) ⊎ (begins_with right_curly_bracket cs ≡ false)
        → after_closing (without_returns cs) ≡ option_map without_returns (after_closing cs)
    at (inl b) = closing_some (without_returns cs) (begins_same (λ d. d == right_curly_bracket) refl i ∙ b)
        ∙ ap (λ (x : List ℕ). Some x) (drop_same right_curly_bracket cs refl b) ∙ ap (option_map without_returns) (sym (closing_some cs b))
    at (inr b) = closing_none (without_returns cs) (begins_same (λ d. d == right_curly_bracket) refl i ∙ b)
        ∙ ap (option_map without_returns) (sym (closing_none cs b))

closing_ends : (cs r : List ℕ) → after_closing cs ≡ Some r → EndsWith cs r
closing_ends cs r e = at (cases_Bool (begins_with right_curly_bracket cs))
  where
    at : (begins_with right_curly_bracket cs ≡ true) ⊎ (begins_with right_curly_bracket cs ≡ false) → EndsWith cs r
    at (inl b) = let z : Some (drop 1 cs) ≡ Some r = sym (closing_some cs b) ∙ e in let y : drop 1 cs ≡ r = cc in
        subst (λ (x : List ℕ). EndsWith cs x) y (ends_drop 1 cs)
    at (inr b) = let z : ◌≡◌ {A = Option (List ℕ)} None (Some r) = sym (closing_none cs b) ∙ e in cc

module _ {S : Type 0} (spec : List ℕ → Read S) (plain : S → S) (commutes : Commutes spec plain) where
  pub spec_commutes : Commutes (spec_at spec) (option_map plain)
  spec_commutes = record {
    same = λ cs i. at cs i (cases_Bool (begins_with colon cs));
    lined = λ cs s r i e. left cs s r i e (cases_Bool (begins_with colon cs));
  }
    where
      by_spec : (cs : List ℕ) → IsLined cs → begins_with colon cs ≡ true → (o : Read S) → spec (drop 1 cs) ≡ o
          → spec_at spec (without_returns cs) ≡ both (option_map plain) (spec_at spec cs)
      by_spec cs i b None e =
          spec_fails spec (without_returns cs) (begins_same (λ d. d == colon) refl i ∙ b) (ap spec (drop_same colon cs refl b)
          ∙ commutes.same (drop 1 cs) (lined_end cs (drop 1 cs) (ends_drop 1 cs) i) ∙ ap (both plain) e)
          ∙ ap (both (option_map plain)) (sym (spec_fails spec cs b e))
      by_spec cs i b (Some x) e =
          spec_given spec (without_returns cs) (plain x.0) (without_returns x.1) (begins_same (λ d. d == colon) refl i ∙ b)
          (ap spec (drop_same colon cs refl b) ∙ commutes.same (drop 1 cs) (lined_end cs (drop 1 cs) (ends_drop 1 cs) i)
          ∙ ap (both plain) e)
          ∙ ap (both (option_map plain)) (sym (spec_given spec cs x.0 x.1 b e))

      at : (cs : List ℕ) → IsLined cs → (begins_with colon cs ≡ true) ⊎ (begins_with colon cs ≡ false)
          → spec_at spec (without_returns cs) ≡ both (option_map plain) (spec_at spec cs)
      at cs i (inl b) = by_spec cs i b (spec (drop 1 cs)) refl
      at cs i (inr b) = spec_absent spec (without_returns cs) (begins_same (λ d. d == colon) refl i ∙ b)
          ∙ ap (both (option_map plain)) (sym (spec_absent spec cs b))

      following : (cs : List ℕ) (s : Option S) (r : List ℕ) → IsLined cs → begins_with colon cs ≡ true → spec_at spec cs ≡ Some (s, r)
          → (o : Read S) → spec (drop 1 cs) ≡ o → IsLined r
      following cs s r i b e None f = let z : ◌≡◌ {A = Read (Option S)} None (Some (s, r)) = sym (spec_fails spec cs b f) ∙ e in cc
      following cs s r i b e (Some x) f =
          let z = some_pair_parts _ _ _ _ (sym (spec_given spec cs x.0 x.1 b f) ∙ e) in
          subst (λ (y : List ℕ). IsLined y) z.1 (commutes.lined (drop 1 cs) x.0 x.1 (lined_end cs (drop 1 cs) (ends_drop 1 cs) i) f)

      left : (cs : List ℕ) (s : Option S) (r : List ℕ) → IsLined cs → spec_at spec cs ≡ Some (s, r)
          → (begins_with colon cs ≡ true) ⊎ (begins_with colon cs ≡ false) → IsLined r
      left cs s r i e (inl b) = following cs s r i b e (spec (drop 1 cs)) refl
      left cs s r i e (inr b) = let z = some_pair_parts _ _ _ _ (sym (spec_absent spec cs b) ∙ e) in subst (λ (y : List ℕ). IsLined y) z.1 i

  plain_with : (f : FrontParts) (s : Option S) → with_spec (plain_front f) (option_map plain s) ≡ plain_field plain (with_spec f s)
  plain_with f s =
      ap (λ (b : Bool). record {
        text = without_returns f.text;
        kept = option_map without_returns f.kept;
        conversion =
            conversion_of f.given b (is_some (option_map plain s));
        spec = option_map plain s;
      }) (is_some-map without_returns f.kept)
      ∙ ap (λ (b : Bool). record {
        text = without_returns f.text;
        kept = option_map without_returns f.kept;
        conversion =
            conversion_of f.given (is_some f.kept) b;
        spec = option_map plain s;
      }) (is_some-map plain s)

  pub field_commutes : (n : Bool) → Commutes (field_at spec n) (plain_field plain)
  field_commutes n = record {
    same = λ cs i. by_front cs i (front_at n cs) refl;
    lined = λ cs f r i e. left cs f r i e (front_at n cs) refl;
  }
    where
      by_closing : (cs : List ℕ) → IsLined cs → (f : FrontParts) (a : List ℕ) (s : Option S) (b : List ℕ) → front_at n cs ≡ Some (f, a)
          → spec_at spec a ≡ Some (s, b) → IsLined a → IsLined b → (o : Option (List ℕ)) → after_closing b ≡ o
          → field_at spec n (without_returns cs) ≡ both (plain_field plain) (field_at spec n cs)
      by_closing cs i f a s b e g j k None h =
          field_no_closing spec n (without_returns cs) (plain_front f) (without_returns a) (option_map plain s) (without_returns b)
          ((front_commutes n).same cs i ∙ ap (both plain_front) e) (spec_commutes.same a j ∙ ap (both (option_map plain)) g)
          (closing_commutes b k ∙ ap (option_map without_returns) h)
          ∙ ap (both (plain_field plain)) (sym (field_no_closing spec n cs f a s b e g h))
      by_closing cs i f a s b e g j k (Some u) h =
          field_given spec n (without_returns cs) (plain_front f) (without_returns a) (option_map plain s) (without_returns b)
          (without_returns u) ((front_commutes n).same cs i ∙ ap (both plain_front) e) (spec_commutes.same a j
          ∙ ap (both (option_map plain)) g) (closing_commutes b k ∙ ap (option_map without_returns) h)
          ∙ ap (λ (x : FieldParts S). Some (x, without_returns u)) (plain_with f s)
          ∙ ap (both (plain_field plain)) (sym (field_given spec n cs f a s b u e g h))

      by_spec : (cs : List ℕ) → IsLined cs → (f : FrontParts) (a : List ℕ) → front_at n cs ≡ Some (f, a) → IsLined a → (o : Read (Option S))
          → spec_at spec a ≡ o → field_at spec n (without_returns cs) ≡ both (plain_field plain) (field_at spec n cs)
      by_spec cs i f a e j None g =
          field_no_spec spec n (without_returns cs) (plain_front f) (without_returns a) ((front_commutes n).same cs i
          ∙ ap (both plain_front) e) (spec_commutes.same a j ∙ ap (both (option_map plain)) g)
          ∙ ap (both (plain_field plain)) (sym (field_no_spec spec n cs f a e g))
      by_spec cs i f a e j (Some x) g = by_closing cs i f a x.0 x.1 e g j (spec_commutes.lined a x.0 x.1 j g) (after_closing x.1) refl

      by_front : (cs : List ℕ) → IsLined cs → (o : Read FrontParts) → front_at n cs ≡ o
          → field_at spec n (without_returns cs) ≡ both (plain_field plain) (field_at spec n cs)
      by_front cs i None e = field_no_front spec n (without_returns cs) ((front_commutes n).same cs i ∙ ap (both plain_front) e)
          ∙ ap (both (plain_field plain)) (sym (field_no_front spec n cs e))
      by_front cs i (Some x) e = by_spec cs i x.0 x.1 e ((front_commutes n).lined cs x.0 x.1 i e) (spec_at spec x.1) refl

      after_spec : (cs : List ℕ) (f : FieldParts S) (r : List ℕ) → field_at spec n cs ≡ Some (f, r) → (h : FrontParts) (a : List ℕ)
          → front_at n cs ≡ Some (h, a) → (s : Option S) (b : List ℕ) → spec_at spec a ≡ Some (s, b) → IsLined b → (o : Option (List ℕ))
          → after_closing b ≡ o → IsLined r
      after_spec cs f r e h a x s b y k None z = let w : ◌≡◌ {A = Read (FieldParts S)} None (Some (f, r)) =
          sym (field_no_closing spec n cs h a s b x y z) ∙ e in cc
      after_spec cs f r e h a x s b y k (Some u) z =
          let w = some_pair_parts _ _ _ _ (sym (field_given spec n cs h a s b u x y z) ∙ e) in
          subst (λ (v : List ℕ). IsLined v) w.1 (lined_end b u (closing_ends b u z) k)

      after_front : (cs : List ℕ) (f : FieldParts S) (r : List ℕ) → field_at spec n cs ≡ Some (f, r) → (h : FrontParts) (a : List ℕ)
          → front_at n cs ≡ Some (h, a) → IsLined a → (o : Read (Option S)) → spec_at spec a ≡ o → IsLined r
      after_front cs f r e h a x j None y = let w : ◌≡◌ {A = Read (FieldParts S)} None (Some (f, r)) =
          sym (field_no_spec spec n cs h a x y) ∙ e in cc
      after_front cs f r e h a x j (Some v) y = after_spec cs f r e h a x v.0 v.1 y (spec_commutes.lined a v.0 v.1 j y)
          (after_closing v.1) refl

      left : (cs : List ℕ) (f : FieldParts S) (r : List ℕ) → IsLined cs → field_at spec n cs ≡ Some (f, r) → (o : Read FrontParts)
          → front_at n cs ≡ o → IsLined r
      left cs f r i e None x = let w : ◌≡◌ {A = Read (FieldParts S)} None (Some (f, r)) = sym (field_no_front spec n cs x) ∙ e in cc
      left cs f r i e (Some v) x = after_front cs f r e v.0 v.1 x ((front_commutes n).lined cs v.0 v.1 i x) (spec_at spec v.1) refl
