-- The functions of Inner.Cutting read what the relations of Pieces say: texts, expressions, fields.
use Rattle.std.proofs.Common.{◌≡◌, ℕ, ◌≤◌, Bool, true, false, List, [], ◌∷◌, ◌++◌, length, drop, refl, sym, ap, ◌∙◌, subst, arith, Option}
use Rattle.std.proofs.Common.{Some, None, ◌⊎◌, inl, inr}
use Rattle.std.specs.Prelude.{◌==◌, option_map, option_and_then, slice_get}
use Rattle.std.specs.List.{list_all}
use Rattle.std.proofs.lemmas.Option.{option_and_then_some, some_pair_parts}
use Rattle.std.proofs.lemmas.Bool.{cases_Bool, eqb-true}
use Rattle.pyfstring.specs.declared.parts.Conversion.{Conversion}
use Rattle.pyfstring.specs.declared.parts.Conversion.TheVariants.{None as Unconverted, Str, Repr, Ascii}
use Rattle.pyfstring.specs.Characters.{exclamation_mark, colon, equals_sign, small_a, small_r, small_s, right_curly_bracket}
use Rattle.pyfstring.specs.Texts.{begins_with, after_text}
use Rattle.pyfstring.specs.Expressions.{following_expression}
use Rattle.pyfstring.specs.Parts.{FieldParts}
use Rattle.pyfstring.specs.Pieces.{IsText, IsExpression, Keeps, unkept, kept, Converts, unconverted, by_str, by_repr, by_ascii, Specifies}
use Rattle.pyfstring.specs.Pieces.{unspecified, specified, IsField, is_blank, after_blanks}
use Rattle.pyfstring.specs.Cutting.{EndsWith, before, text_at, expression_at, kept_at, conversion_by, conversion_at, FrontParts, Read}
use Rattle.pyfstring.specs.Cutting.{front_at, with_spec, spec_at, after_closing, field_at}
use Rattle.pyfstring.proofs.Fronts.{before_is, before_whole, ends_drop, ends_through, ends_one, ends_length, ends_all, begins_is}
use Rattle.pyfstring.proofs.Scanning.{text_ends, expression_ends}

-- f reads exactly what stands in the relation R
pub record Reads {X : Type 0} (f : List ℕ → Read X) (R : List ℕ → X → List ℕ → Type 0) : Type 0 where
  pub sound : (cs : List ℕ) (x : X) (rest : List ℕ) → f cs ≡ Some (x, rest) → R cs x rest
  pub complete : (cs : List ℕ) (x : X) (rest : List ℕ) → R cs x rest → f cs ≡ Some (x, rest)
  pub shorter : (cs : List ℕ) (x : X) (rest : List ℕ) → R cs x rest → length rest ≤ length cs

pub map_some : {A B P : Type 0} (g : A → B) (o : Option A) (y : B) → option_map g o ≡ Some y → ((x : A) → o ≡ Some x → g x ≡ y → P) → P
map_some g None y e k = cc
map_some g (Some x) y e k = k x refl cc

whole_length : (cs t r : List ℕ) → cs ≡ t ++ r → length r ≤ length cs
whole_length cs t r e = ends_length cs r (t, e)

pub text_reads : (is_raw has_pairs : Bool) → Reads (text_at is_raw has_pairs) (IsText is_raw has_pairs)
unfolding text_at
text_reads is_raw has_pairs = record {
  sound = λ cs t r e.
      let p = some_pair_parts _ _ _ _ e in
      let whole = before_whole cs (after_text is_raw has_pairs cs) (text_ends is_raw has_pairs cs) in
      record {
        whole = subst (λ x. cs ≡ x ++ r) p.0 (subst (λ x. cs ≡ before cs (after_text is_raw has_pairs cs) ++ x) p.1 whole);
        longest = p.1;
      };
  complete = λ cs t r i. rw (i.longest, before_is cs t r i.whole) refl;
  shorter = λ cs t r i. whole_length cs t r i.whole;
}

pub expression_reads : Reads expression_at IsExpression
unfolding expression_at
expression_reads = record {
  sound = λ cs t r e. option_and_then_some _ (following_expression cs) (t, r) e
      (λ x s h. found cs t r x s (cases_Bool (list_all is_blank (before cs x))) h);
  complete = λ cs t r i. let w = before_is cs t r i.whole in
      rw i.scanned (subst (λ (y : List ℕ). ◌≡◌ {A = Read (List ℕ)} (elim (list_all is_blank y) [ true ↦ None | false ↦ Some (y, r) ])
      (Some (t, r))) (sym w)
      (subst (λ (b : Bool). ◌≡◌ {A = Read (List ℕ)} (elim b [ true ↦ None | false ↦ Some (t, r) ]) (Some (t, r))) (sym i.some) refl));
  shorter = λ cs t r i. whole_length cs t r i.whole;
}
  where
    found : (cs t r x : List ℕ) → following_expression cs ≡ Some x
        → (list_all is_blank (before cs x) ≡ true) ⊎ (list_all is_blank (before cs x) ≡ false)
        → ◌≡◌ {A = Read (List ℕ)} (elim (list_all is_blank (before cs x)) [ true ↦ None | false ↦ Some (before cs x, x) ])
        (Some (t, r)) → IsExpression cs t r
    found cs t r x s (inl b) h = let z : ◌≡◌ {A = Read (List ℕ)} None (Some (t, r)) = rw b at h in cc
    found cs t r x s (inr b) h =
        let z : ◌≡◌ {A = Read (List ℕ)} (Some (before cs x, x)) (Some (t, r)) = rw b at h in
        let p = some_pair_parts _ _ _ _ z in
        let whole = before_whole cs x (expression_ends cs x s) in
        record {
          whole = subst (λ y. cs ≡ y ++ r) p.0 (subst (λ y. cs ≡ before cs x ++ y) p.1 whole);
          scanned = s ∙ ap (λ y. Some y) p.1;
          some = subst (λ y. list_all is_blank y ≡ false) p.0 b;
        }

slot_reads : (is_nested : Bool) (cs here : List ℕ) (k : Option (List ℕ)) (rest : List ℕ) → EndsWith cs here
    → kept_at is_nested cs here ≡ Some (k, rest) → Keeps is_nested cs here k rest
unfolding kept_at
slot_reads is_nested cs here k rest w e = at_sign (cases_Bool (begins_with equals_sign here))
  where
    at_nested : (n : Bool) → n ≡ is_nested → here ≡ equals_sign ∷ drop 1 here
        → ◌≡◌ {A = Read (Option (List ℕ))}
        (elim n [ true ↦ None | false ↦ Some (Some (before cs (after_blanks (drop 1 here))), after_blanks (drop 1 here)) ])
        (Some (k, rest)) → Keeps is_nested cs here k rest
    at_nested true n h z = cc
    at_nested false n h z =
        let p = some_pair_parts _ _ _ _ z in
        let back = before_whole cs (after_blanks (drop 1 here))
        (ends_through cs here _ w (ends_through here (drop 1 here) _ (ends_drop 1 here) (ends_drop _ (drop 1 here)))) in
        let made : Keeps is_nested cs (equals_sign ∷ drop 1 here) (Some (before cs (after_blanks (drop 1 here))))
        (after_blanks (drop 1 here)) = kept (sym n) back in
        subst (λ y. Keeps is_nested cs here k y) p.1 (subst (λ y. Keeps is_nested cs here y (after_blanks (drop 1 here))) p.0
        (subst (λ y. Keeps is_nested cs y (Some (before cs (after_blanks (drop 1 here)))) (after_blanks (drop 1 here))) (sym h) made))

    at_sign : (begins_with equals_sign here ≡ true) ⊎ (begins_with equals_sign here ≡ false) → Keeps is_nested cs here k rest
    at_sign (inl b) = at_nested is_nested refl (begins_is equals_sign here b) (rw (b, kept_at) at e)
    at_sign (inr b) =
        let z : ◌≡◌ {A = Read (Option (List ℕ))} (Some (None, here)) (Some (k, rest)) = rw (b, kept_at) at e in
        let p = some_pair_parts _ _ _ _ z in
        subst (λ y. Keeps is_nested cs here k y) p.1 (subst (λ y. Keeps is_nested cs here y here) p.0 (unkept b))

pub slot_kept : (is_nested : Bool) (cs here : List ℕ) (k : Option (List ℕ)) (rest : List ℕ) → Keeps is_nested cs here k rest
    → (kept_at is_nested cs here ≡ Some (k, rest)) × EndsWith here rest
unfolding kept_at
slot_kept is_nested cs here k rest (unkept b) = (rw (b, kept_at) refl, ends_all here)
slot_kept is_nested cs here k rest (kept {here = inside} {k = t} n w) = (
  rw (kept_at, n, before_is cs t (after_blanks inside) w) refl,
  ends_one equals_sign inside _ (ends_drop _ inside),
)

conversion_reads : Reads conversion_at Converts
unfolding conversion_at
conversion_reads = record {
  sound = λ cs k r e. at_sign cs k r e (cases_Bool (begins_with exclamation_mark cs));
  complete = given;
  shorter = below;
}
  where
    at_letter : (cs : List ℕ) (c : ℕ) (k : Conversion) → conversion_by c ≡ Some k → Converts (exclamation_mark ∷ c ∷ cs) k cs
    at_letter cs c k e = letters (cases_Bool (c == small_s)) (cases_Bool (c == small_r)) (cases_Bool (c == small_a))
      where
        letters : ((c == small_s) ≡ true) ⊎ ((c == small_s) ≡ false) → ((c == small_r) ≡ true) ⊎ ((c == small_r) ≡ false)
            → ((c == small_a) ≡ true) ⊎ ((c == small_a) ≡ false) → Converts (exclamation_mark ∷ c ∷ cs) k cs
        letters (inl s) _ _ = let z : ◌≡◌ {A = Option Conversion} (Some Str) (Some k) = rw s at e in let y : Str ≡ k = cc in
            subst (λ d. Converts (exclamation_mark ∷ d ∷ cs) k cs) (sym (eqb-true c small_s s))
            (subst (λ l. Converts (exclamation_mark ∷ small_s ∷ cs) l cs) y by_str)
        letters (inr s) (inl r) _ = let z : ◌≡◌ {A = Option Conversion} (Some Repr) (Some k) = rw (s, r) at e in let y : Repr ≡ k = cc in
            subst (λ d. Converts (exclamation_mark ∷ d ∷ cs) k cs) (sym (eqb-true c small_r r))
            (subst (λ l. Converts (exclamation_mark ∷ small_r ∷ cs) l cs) y by_repr)
        letters (inr s) (inr r) (inl a) = let z : ◌≡◌ {A = Option Conversion} (Some Ascii) (Some k) = rw (s, r, a) at e in
            let y : Ascii ≡ k = cc in subst (λ d. Converts (exclamation_mark ∷ d ∷ cs) k cs) (sym (eqb-true c small_a a))
            (subst (λ l. Converts (exclamation_mark ∷ small_a ∷ cs) l cs) y by_ascii)
        letters (inr s) (inr r) (inr a) = let z : ◌≡◌ {A = Option Conversion} None (Some k) = rw (s, r, a) at e in cc

    following_sign : (cs : List ℕ) (k : Conversion) (r : List ℕ) → option_map {U = Conversion × List ℕ} (λ (l : Conversion). (l, drop 1 cs))
        (option_and_then conversion_by (slice_get cs 0)) ≡ Some (k, r) → Converts (exclamation_mark ∷ cs) k r
    following_sign [] k r e = cc
    following_sign (c ∷ cs) k r e = map_some _ (conversion_by c) (k, r) e (λ l g h. let y : l ≡ k = ap (λ (p : Conversion × List ℕ). p.0) h in
        let z : cs ≡ r = ap (λ (p : Conversion × List ℕ). p.1) h in subst (λ x. Converts (exclamation_mark ∷ c ∷ cs) k x) z
        (at_letter cs c k (g ∙ ap (λ x. Some x) y)))

    at_sign : (cs : List ℕ) (k : Conversion) (r : List ℕ) → conversion_at cs ≡ Some (k, r)
        → (begins_with exclamation_mark cs ≡ true) ⊎ (begins_with exclamation_mark cs ≡ false) → Converts cs k r
    at_sign [] k r e (inl b) = cc
    at_sign (c ∷ cs) k r e (inl b) = let q : c ≡ exclamation_mark = eqb-true c exclamation_mark b in
        subst (λ d. Converts (d ∷ cs) k r) (sym q) (following_sign cs k r (rw (b, conversion_at) at e))
    at_sign cs k r e (inr b) =
        let z : ◌≡◌ {A = Read Conversion} (Some (Unconverted, cs)) (Some (k, r)) = rw (b, conversion_at) at e in
        let p = some_pair_parts _ _ _ _ z in
        subst (λ y. Converts cs k y) p.1 (subst (λ y. Converts cs y cs) p.0 (unconverted b))

    given : (cs : List ℕ) (k : Conversion) (r : List ℕ) → Converts cs k r → conversion_at cs ≡ Some (k, r)
    given cs k r (unconverted b) = rw (b, conversion_at) refl
    given cs k r by_str = refl
    given cs k r by_repr = refl
    given cs k r by_ascii = refl

    below : (cs : List ℕ) (k : Conversion) (r : List ℕ) → Converts cs k r → length r ≤ length cs
    below cs k r (unconverted b) = omega arith
    below cs k r by_str = omega arith
    below cs k r by_repr = omega arith
    below cs k r by_ascii = omega arith

-- ---- A field.

pub record Fronted (is_nested : Bool) (cs : List ℕ) (f : FrontParts) (rest : List ℕ) : Type 0 where
  pub after_expression : List ℕ
  pub after_kept : List ℕ
  pub expression : IsExpression cs f.text after_expression
  pub keeps : Keeps is_nested cs after_expression f.kept after_kept
  pub converts : Converts after_kept f.given rest

pub front_sound : (is_nested : Bool) (cs : List ℕ) (f : FrontParts) (rest : List ℕ) → front_at is_nested cs ≡ Some (f, rest)
    → Fronted is_nested cs f rest
unfolding front_at
front_sound is_nested cs f rest e =
    option_and_then_some _ (expression_at cs) (f, rest) e (λ t et ht.
    option_and_then_some _ (kept_at is_nested cs t.1) (f, rest) ht (λ k ek hk.
    map_some _ (conversion_at k.1) (f, rest) hk (λ g eg hg.
    let i = expression_reads.sound cs t.0 t.1 et in
    let made : Fronted is_nested cs (record { text = t.0; kept = k.0; given = g.0 }) g.1 = record {
      after_expression = t.1;
      after_kept = k.1;
      expression = i;
      keeps = slot_reads is_nested cs t.1 k.0 k.1 (t.0, i.whole) ek;
      converts = conversion_reads.sound k.1 g.0 g.1 eg;
    } in
    subst (λ (p : FrontParts × List ℕ). Fronted is_nested cs p.0 p.1) hg made)))

front_complete : (is_nested : Bool) (cs : List ℕ) (f : FrontParts) (rest : List ℕ) → Fronted is_nested cs f rest
    → front_at is_nested cs ≡ Some (f, rest)
unfolding front_at
front_complete is_nested cs f rest i =
    let x = expression_reads.complete cs f.text i.after_expression i.expression in
    let k = (slot_kept is_nested cs i.after_expression f.kept i.after_kept i.keeps).0 in
    let g = conversion_reads.complete i.after_kept f.given rest i.converts in
    rw (x, k, g) refl

front_shorter : (is_nested : Bool) (cs : List ℕ) (f : FrontParts) (rest : List ℕ) → Fronted is_nested cs f rest → length rest ≤ length cs
front_shorter is_nested cs f rest i =
    let x = expression_reads.shorter cs f.text i.after_expression i.expression in
    let k = ends_length i.after_expression i.after_kept (slot_kept is_nested cs i.after_expression f.kept i.after_kept i.keeps).1 in
    let g = conversion_reads.shorter i.after_kept f.given rest i.converts in
    omega arith

module _ {S : Type 0} (spec : List ℕ → Read S) (IsSpec : List ℕ → S → List ℕ → Type 0) (reads : Reads spec IsSpec) where
  spec_sound : (cs : List ℕ) (s : Option S) (r : List ℕ) → spec_at spec cs ≡ Some (s, r) → Specifies IsSpec cs s r
  unfolding spec_at
  spec_sound cs s r e = at_sign (cases_Bool (begins_with colon cs))
    where
      at_sign : (begins_with colon cs ≡ true) ⊎ (begins_with colon cs ≡ false) → Specifies IsSpec cs s r
      at_sign (inl b) =
          let q = begins_is colon cs b in
          map_some _ (spec (drop 1 cs)) (s, r) (rw (b, spec_at) at e) (λ x ex hx.
          let made : Specifies IsSpec (colon ∷ drop 1 cs) (Some x.0) x.1 = specified (reads.sound (drop 1 cs) x.0 x.1 ex) in
          subst (λ (p : Option S × List ℕ). Specifies IsSpec cs p.0 p.1) hx
          (subst (λ (y : List ℕ). Specifies IsSpec y (Some x.0) x.1) (sym q) made))
      at_sign (inr b) =
          let z : ◌≡◌ {A = Read (Option S)} (Some (None, cs)) (Some (s, r)) = rw (b, spec_at) at e in
          let p = some_pair_parts _ _ _ _ z in
          subst (λ y. Specifies IsSpec cs s y) p.1 (subst (λ y. Specifies IsSpec cs y cs) p.0 (unspecified b))

  spec_complete : (cs : List ℕ) (s : Option S) (r : List ℕ) → Specifies IsSpec cs s r
      → (spec_at spec cs ≡ Some (s, r)) × (length r ≤ length cs)
  unfolding spec_at
  spec_complete cs s r (unspecified b) = (rw (b, spec_at) refl, omega arith)
  spec_complete cs s r (specified {cs = inside} {s = x} i) =
      (rw (spec_at, reads.complete inside x r i) refl, (let l = reads.shorter inside x r i in omega arith))

  pub field_reads : (is_nested : Bool) → Reads (field_at spec is_nested) (IsField IsSpec is_nested)
  unfolding field_at after_closing
  field_reads is_nested = record {
    sound = λ cs f rest e.
        option_and_then_some _ (front_at is_nested cs) (f, rest) e (λ a ea ha.
        option_and_then_some _ (spec_at spec a.1) (f, rest) ha (λ s es hs.
        map_some _ (after_closing s.1) (f, rest) hs (λ r er hr.
        let i = front_sound is_nested cs a.0 a.1 ea in
        let made : IsField IsSpec is_nested cs (with_spec a.0 s.0) r = record {
          after_expression = i.after_expression;
          after_kept = i.after_kept;
          after_conversion = a.1;
          given = a.0.given;
          expression = i.expression;
          keeps = i.keeps;
          converts = i.converts;
          conversion = refl;
          specifies = subst (λ (y : List ℕ). Specifies IsSpec a.1 s.0 y) (closed s.1 r er) (spec_sound a.1 s.0 s.1 es);
        } in
        subst (λ (p : FieldParts S × List ℕ). IsField IsSpec is_nested cs p.0 p.1) hr made)));
    complete = λ cs f rest i.
        let front : FrontParts = record { text = f.text; kept = f.kept; given = i.given } in
        let x : front_at is_nested cs ≡ Some (front, i.after_conversion) = front_complete is_nested cs front i.after_conversion
        (record {
          after_expression = i.after_expression;
          after_kept = i.after_kept;
          expression = i.expression;
          keeps = i.keeps;
          converts = i.converts;
        }) in
        let s = (spec_complete i.after_conversion f.spec (right_curly_bracket ∷ rest) i.specifies).0 in
        let same : with_spec front f.spec ≡ f =
        ap (λ k. record { text = f.text; kept = f.kept; conversion = k; spec = f.spec }) (sym i.conversion) in
        rw (x, s) (ap (λ (g : FieldParts S). Some (g, rest)) same);
    shorter = λ cs f rest i.
        let front : FrontParts = record { text = f.text; kept = f.kept; given = i.given } in
        let x = front_shorter is_nested cs front i.after_conversion (record {
          after_expression = i.after_expression;
          after_kept =
              i.after_kept;
          expression = i.expression;
          keeps = i.keeps;
          converts = i.converts;
        }) in
        let s = (spec_complete i.after_conversion f.spec (right_curly_bracket ∷ rest) i.specifies).1 in
        omega arith;
  }
    where
      closed : (cs r : List ℕ) → after_closing cs ≡ Some r → cs ≡ right_curly_bracket ∷ r
      closed cs r e = at_brace (cases_Bool (begins_with right_curly_bracket cs))
        where
          at_brace : (begins_with right_curly_bracket cs ≡ true) ⊎ (begins_with right_curly_bracket cs ≡ false)
              → cs ≡ right_curly_bracket ∷ r
          at_brace (inl b) = let z : Some (drop 1 cs) ≡ Some r = rw (b, after_closing) at e in let y : drop 1 cs ≡ r = cc in
              begins_is right_curly_bracket cs b ∙ ap (λ x. right_curly_bracket ∷ x) y
          at_brace (inr b) = let z : ◌≡◌ {A = Option (List ℕ)} None (Some r) = rw (b, after_closing) at e in cc
