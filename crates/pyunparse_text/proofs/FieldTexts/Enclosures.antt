-- How lists of pieces are joined so that the expression of a field is scanned to their end, and which literals are scanned.
--
-- Carries: Enclosed, Kept, enclosed_none and 9 more, for the pieces of an expression. On: Conditions.
use Rattle.std.proofs.Common.{◌≡◌, ℕ, ◌+◌, ◌-◌, length, drop, subst, arith, inl, inr, Bool, true, false, not, ◌&&◌, ◌||◌, ◌==◌, List, []}
use Rattle.std.proofs.Common.{◌∷◌, ◌++◌}
use Rattle.std.proofs.Common.{refl, sym, ◌∙◌, ap, append_assoc, append-nil, if◌then◌else◌}
use Rattle.std.specs.List.{list_all}
use Rattle.std.proofs.lemmas.Bool.{and_from, cases_Bool, not-true, and_parts, or_parts}
use Rattle.std.proofs.lemmas.Bool.Decides.{nat_tests}
use Rattle.pyfstring.specs.Expressions.{is_quote}
use Rattle.pyunparse_text.specs.Spacing.{Piece}
use Rattle.pyunparse_text.specs.Tokens.{opens, closes, closes_all}
use Rattle.pyunparse_text.proofs.FieldTexts.Conditions.{is_pair, is_within, closes_last, ends_field, are_enclosed, is_inner, is_calm}
use Rattle.pyunparse_text.proofs.FieldTexts.Conditions.{is_plain}
use Rattle.pyunparse_text.proofs.FieldTexts.Conditions.{is_own, ends_plainly, is_plain_literal}

-- ---- Brackets.

-- pieces that close their own brackets and have, outside these, no operator that ends the expression of a field
abbrev pub Enclosed : List Piece → Type 0
Enclosed xs = (os : List (List ℕ)) (ys : List Piece) → are_enclosed os (xs ++ ys) ≡ are_enclosed os ys

-- pieces that close their own brackets, within others
abbrev pub Kept : List Piece → Type 0
Kept xs = (o : List ℕ) (os : List (List ℕ)) (ys : List Piece) → are_enclosed (o ∷ os) (xs ++ ys) ≡ are_enclosed (o ∷ os) ys

pub enclosed_none : Enclosed []
enclosed_none os ys = refl

pub kept_none : Kept []
kept_none o os ys = refl

-- what may stand outside brackets may stand within
pub enclosed_kept : (xs : List Piece) → Enclosed xs → Kept xs
enclosed_kept xs e o os ys = e (o ∷ os) ys

-- one piece that is no bracket
pub enclosed_one : (p : Piece) → opens p ≡ false → closes p ≡ false → ends_field p ≡ false → Enclosed (p ∷ [])
enclosed_one p o c n os ys = rw (o, c, n) (always (is_within os) (are_enclosed os ys))
  where
    always : (b x : Bool) → ((b || true) && x) ≡ x
    always true x = refl
    always false x = refl

pub kept_one : (p : Piece) → opens p ≡ false → closes p ≡ false → Kept (p ∷ [])
kept_one p o c t os ys = rw (o, c) refl

pub enclosed_both : (xs ys : List Piece) → Enclosed xs → Enclosed ys → Enclosed (xs ++ ys)
enclosed_both xs ys a b os zs = ap (are_enclosed os) (append_assoc xs ys zs) ∙ a os (ys ++ zs) ∙ b os zs

pub kept_both : (xs ys : List Piece) → Kept xs → Kept ys → Kept (xs ++ ys)
kept_both xs ys a b o os zs = ap (are_enclosed (o ∷ os)) (append_assoc xs ys zs) ∙ a o os (ys ++ zs) ∙ b o os zs

-- pieces in brackets
pub kept_within : (p q : Piece) (xs : List Piece) → opens p ≡ true → opens q ≡ false → closes q ≡ true
    → is_pair p.text q.text ≡ true → Kept xs
    → Enclosed (p ∷ xs ++ q ∷ [])
kept_within p q xs o n c m a os ys =
    rw o (ap (are_enclosed (p.text ∷ os)) (append_assoc xs (q ∷ []) ys) ∙ a p.text os (q ∷ ys) ∙ rw (n, c, m) refl)

-- such pieces as the whole of an expression
pub enclosed_all : (xs : List Piece) → Enclosed xs → are_enclosed [] xs ≡ true
enclosed_all xs a = ap (are_enclosed []) (sym (append-nil xs)) ∙ a [] []

-- brackets of their own kinds are closed
pub enclosed_closes : (os : List (List ℕ)) (ps : List Piece) → are_enclosed os ps ≡ true → closes_all (length os) ps ≡ true
enclosed_closes [] [] e = refl
enclosed_closes (o ∷ os) [] e = cc
enclosed_closes os (p ∷ ps) e = elim (cases_Bool (opens p)) [
  | inl o ↦ rw o (subst (λ (n : ℕ). closes_all n ps ≡ true) (one_more os) (enclosed_closes (p.text ∷ os) ps (rw o at e)))
  | inr o ↦ elim (cases_Bool (closes p)) [
    | inl c ↦ rw (o, c) (closer os (rw (o, c) at e) (λ ts. enclosed_closes ts ps))
    | inr c ↦ rw (o, c) (enclosed_closes os ps (and_parts (is_within os || not (ends_field p)) (are_enclosed os ps) (rw (o, c) at e)).1)
  ]
]
  where
    one_more : (os : List (List ℕ)) → length (p.text ∷ os) ≡ length os + 1
    one_more os = omega arith

    closer : (os : List (List ℕ)) → (closes_last p.text os && are_enclosed (drop 1 os) ps) ≡ true
        → ((ts : List (List ℕ)) → are_enclosed ts ps ≡ true → closes_all (length ts) ps ≡ true)
        → (not (length os == 0) && closes_all (length os - 1) ps) ≡ true
    closer [] h r = cc
    closer (t ∷ os) h r =
        let q = and_parts (is_pair t p.text) (are_enclosed os ps) h in
        let n : (length (t ∷ os) == 0) ≡ false = grind (arith, nat_tests) in
        let m : length (t ∷ os) - 1 ≡ length os = omega arith in
        rw (n, m) (r os q.1)

-- ---- Literals.

ends_with_quote : (q : ℕ) (t : List ℕ) → (q == q) ≡ true → list_all is_own t ≡ true → ends_plainly q (t ++ q ∷ []) ≡ true
ends_with_quote q [] e a = e
ends_with_quote q (c ∷ []) e a = and_from (is_own c) (q == q) (and_parts (is_own c) true a).0 e
ends_with_quote q (c ∷ d ∷ t) e a =
    let p = and_parts (is_own c) (list_all is_own (d ∷ t)) a in
    and_from (is_own c) (ends_plainly q (d ∷ t ++ q ∷ [])) p.0 (ends_with_quote q (d ∷ t) e p.1)

-- a prefix, and bare characters in double quotes
pub literal_plain : (a t : List ℕ) → list_all is_plain a ≡ true → list_all is_own t ≡ true
    → is_plain_literal (a ++ 34 ∷ (t ++ 34 ∷ [])) ≡ true
literal_plain [] t e b = ends_with_quote 34 t refl b
literal_plain (c ∷ a) t e b =
    let p = and_parts (is_plain c) (list_all is_plain a) e in
    otherwise (c == 34) (ends_plainly 34 (a ++ 34 ∷ (t ++ 34 ∷ [])))
    (is_plain c && is_plain_literal (a ++ 34 ∷ (t ++ 34 ∷ []))) (plain_quote c p.0)
    (and_from (is_plain c) (is_plain_literal (a ++ 34 ∷ (t ++ 34 ∷ []))) p.0 (literal_plain a t p.1 b))
  where
    plain_quote : (c : ℕ) → is_plain c ≡ true → (c == 34) ≡ false
    plain_quote c h =
        let i = and_parts (is_inner c) _ (and_parts (is_calm c) _ h).0 in
        let o = and_parts (is_own c) _ i.0 in
        (or_parts (c == 39) (c == 34) (not-true (is_quote c) (and_parts (not (is_quote c)) _ o.0).0)).1

    otherwise : (b x y : Bool) → b ≡ false → y ≡ true → (if b then x else y) ≡ true
    otherwise true x y h e = cc
    otherwise false x y h e = e
