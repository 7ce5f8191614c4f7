-- A source that is refused has one reason, but for a long line without any form.
--
-- Carries: one_reason, for SourceLaw. On: Law, Line/Law, Answer, FirstDeep.
use Rattle.std.proofs.Common.{◌≡◌, ◌⊎◌, inl, inr, ℕ, suc, ◌<◌, List, [], ◌∷◌, ◌++◌, length, Bool, Some, None, Contains, refl, sym, ap, ◌∙◌}
use Rattle.std.proofs.Common.{subst, length-append, arith}
use Rattle.std.proofs.lemmas.List.Elements.{Contains-append_right}
use Rattle.pysource.specs.declared.places.Place.{Place}
use Rattle.pylex_listing.specs.Listing.{Source}
use Rattle.pytree_node.specs.declared.profiles.Profile.{Profile}
use Rattle.pytree_node.specs.declared.profiles.Extent.{Extent}
use Rattle.pytoken.specs.declared.refusals.Refusal.{Refusal}
use Rattle.pytoken.specs.Refusals.{refusal}
use Rattle.pytoken.specs.Tokens.{Token, tokens, lines}
use Rattle.pytoken.specs.Tokens as Tokens
use Rattle.pygrammar.specs.Lengths.{weight}
use Rattle.pygrammar.specs.Lines.{Line}
use Rattle.pygrammar.specs.Blocks.{Fault, FirstFault, stands_in_match}
use Rattle.pygrammar.specs.Refusals.{Code, terminals, Indentation, TooDeep, Reason, in_tokens, at, StartsAt, at_line, at_end, HasNone}
use Rattle.pygrammar.specs.Refusals.{Unread, too_high, no_match, no_form, too_long, FirstUnread, unread, unread_after, FirstDeep, Refused}
use Rattle.pygrammar.specs.Refusals.{by_tokens, by_line, by_block, by_height}
use Rattle.pygrammar.specs.SourceLaws.{IsFreeChoice, free}
use Rattle.pygrammar.proofs.Line.Law.{one_form}
use Rattle.pygrammar.proofs.Block.Law.{tree_faultless, no_first, one_first}
use Rattle.pygrammar.proofs.Block.Answer.{one_formed, unread_as, unread_formed, unread_none}
use Rattle.pygrammar.proofs.Block.FirstDeep.{one_deep}

-- ---- Places.

cons_parts : {A : Type 0} (a b : A) (xs ys : List A) → a ∷ xs ≡ b ∷ ys → (a ≡ b) × (xs ≡ ys)
cons_parts a b xs ys e = (cc, cc)

same_at : {A : Type 0} (xs ys : List A) (a b : A) (us vs : List A) → xs ++ (a ∷ us) ≡ ys ++ (b ∷ vs) → length xs ≡ length ys → a ≡ b
same_at [] [] a b us vs e n = (cons_parts a b us vs e).0
same_at [] (y ∷ ys) a b us vs e n = absurd (omega (arith, n))
same_at (x ∷ xs) [] a b us vs e n = absurd (omega (arith, n))
same_at (x ∷ xs) (y ∷ ys) a b us vs e n = same_at xs ys a b us vs (cons_parts x y (xs ++ (a ∷ us)) (ys ++ (b ∷ vs)) e).1 (omega (arith, n))

same_last : (xs ys : List Token) (a b : Token) → xs ++ (a ∷ []) ≡ ys ++ (b ∷ []) → a ≡ b
same_last xs ys a b e =
    let n : length (xs ++ (a ∷ [])) ≡ length (ys ++ (b ∷ [])) = ap length e in
    same_at xs ys a b [] [] e (omega (arith, n, length-append xs (a ∷ []), length-append ys (b ∷ [])))

past_end : (n : ℕ) (xs before following : List Tokens.Line) (x : Tokens.Line) → xs ≡ before ++ (x ∷ following)
    → length before ≡ n → length xs ≡ n → ⊥
past_end n xs before following x e b l =
    let k : length xs ≡ length (before ++ (x ∷ following)) = ap length e in omega (arith, k, b, l, length-append before (x ∷ following))

pub one_place : {s : Source} {n : ℕ} {p q : Place} → StartsAt s n p → StartsAt s n q → p ≡ q
one_place (at_line b1 r1 x t ts e n i) (at_line b2 r2 y u us f m j) =
    let same : x ≡ y = same_at b1 b2 x y r1 r2 (sym e ∙ f) (n ∙ sym m) in
    ap (λ (z : Token). z.start) (cons_parts t u ts us (sym i ∙ ap (λ (z : Tokens.Line). z.tokens) same ∙ j)).0
one_place {s} {n} (at_line b1 r1 x t ts e k i) (at_end b2 u l f) = absurd (past_end n (lines s) b1 r1 x e k l)
one_place {s} {n} (at_end b1 t l e) (at_line b2 r2 y u us f k j) = absurd (past_end n (lines s) b2 r2 y f k l)
one_place (at_end b1 t l e) (at_end b2 u m f) = ap (λ (z : Token). z.start) (same_last b1 b2 t u (sym e ∙ f))

place_at : {s : Source} {n m : ℕ} {p q : Place} → n ≡ m → StartsAt s n p → StartsAt s m q → p ≡ q
place_at {s} {p = p} e a b = let P : ℕ → Type 0 = λ z. StartsAt s z p in one_place (subst P e a) b

-- ---- Lines.

abbrev IsLong : Profile → Bool → Tokens.Line → Type 0
IsLong profile inside x = HasNone profile inside x × (500 < weight (terminals x))

one_code : {profile : Profile} {inside : Bool} {x : Tokens.Line} {c d : Code} → Unread profile inside x c → Unread profile inside x d
    → (c ≡ d) ⊎ IsLong profile inside x
one_code (too_high p h) (too_high q k) = inl refl
one_code (too_high {f = f} p h) (no_match q k) = absurd (q f p)
one_code (too_high {f = f} p h) (no_form q k) = absurd (q f p)
one_code (too_high {f = f} p h) (too_long q k) = absurd (q f p)
one_code (no_match p h) (too_high {f = f} q k) = absurd (p f q)
one_code (no_match p h) (no_match q k) = inl refl
one_code (no_match p h) (no_form q k) = absurd (cc)
one_code (no_match p h) (too_long q k) = inr (q, k)
one_code (no_form p h) (too_high {f = f} q k) = absurd (p f q)
one_code (no_form p h) (no_match q k) = absurd (cc)
one_code (no_form p h) (no_form q k) = inl refl
one_code (no_form p h) (too_long q k) = inr (q, k)
one_code (too_long p h) _ = inr (p, h)

abbrev HasLong : Profile → List Tokens.Line → Type 0
HasLong profile xs = (x : Tokens.Line) × (inside : Bool) × Contains xs x × IsLong profile inside x

pub one_unread : {profile : Profile} {earlier : List Line} {xs : List Tokens.Line} {a b : ℕ} {c d : Code}
    → FirstUnread profile earlier xs a c → FirstUnread profile earlier xs b d →
    (a ≡ b) × ((c ≡ d) ⊎ HasLong profile xs)
one_unread (unread {earlier = earlier} {x = x} h) (unread k) =
    (refl, elim (one_code h k) [ inl e ↦ inl e | inr l ↦ inr (x, stands_in_match x.level earlier, (0, omega arith, refl), l) ])
one_unread (unread h) (unread_after k q) = absurd (unread_formed k h)
one_unread (unread_after h p) (unread k) = absurd (unread_formed h k)
one_unread (unread_after {x = x} {xs = xs} h p) (unread_after k q) =
    let r = one_unread p (unread_as (one_form k.is h.is) q) in
    (ap suc r.0, elim r.1 [ inl e ↦ inl e | inr l ↦ inr (l.0, l.1, Contains-append_right (x ∷ []) xs l.0 l.2, l.3) ])

-- ---- Reasons.

abbrev IsOne : Profile → Source → Reason → Reason → Type 0
IsOne profile s r q = (r ≡ q) ⊎ IsFreeChoice profile s r q

same_reason : (p q : Place) (c d : Code) → p ≡ q → c ≡ d → at p c ≡ at q d
same_reason p q c d e f = ap (λ z. at z c) e ∙ ap (λ z. at q z) f

of_lines : {profile : Profile} {s : Source} {p q : Place} {c d : Code} → p ≡ q → (c ≡ d) ⊎ HasLong profile (lines s)
    → IsOne profile s (at p c) (at q d)
of_lines {p = p} {q = q} {c = c} {d = d} e (inl f) = inl (same_reason p q c d e f)
of_lines {profile} {s} {p = p} {c = c} {d = d} e (inr l) = let P : Place → Type 0 = λ z. IsFreeChoice profile s (at p c) (at z d) in
    inr (subst P e (free {inside = l.1} l.0 l.2 l.3.0 l.3.1))

clear_or_not : (x : Extent) (s : Source) {r : Refusal} → refusal x s ≡ None → refusal x s ≡ Some r → ⊥
clear_or_not x s h k = absurd (cc)

same_refusal : (x : Extent) (s : Source) {r q : Refusal} → refusal x s ≡ Some r → refusal x s ≡ Some q → in_tokens r ≡ in_tokens q
same_refusal x s h k = cc

in_forms : {forms others rest : List Line} {f : Fault} → forms ≡ others → FirstFault [] forms rest f → FirstFault [] others rest f
in_forms {rest = rest} {f = f} e h = let P : List Line → Type 0 = λ z. FirstFault [] z rest f in subst P e h

pub one_reason : {profile : Profile} {s : Source} {r q : Reason} → Refused profile s r → Refused profile s q → IsOne profile s r q
one_reason {s = s} (by_tokens h) (by_tokens k) = inl (same_refusal _ s h k)
one_reason {s = s} (by_tokens h) (by_line c u w) = absurd (clear_or_not _ s c h)
one_reason {s = s} (by_tokens h) (by_block c p f n w) = absurd (clear_or_not _ s c h)
one_reason {s = s} (by_tokens h) (by_height c p b t d w) = absurd (clear_or_not _ s c h)
one_reason {s = s} (by_line c u w) (by_tokens h) = absurd (clear_or_not _ s c h)
one_reason (by_line c u w) (by_line e v z) = let r = one_unread u v in of_lines (place_at r.0 w z) r.1
one_reason (by_line c u w) (by_block e p f n z) = absurd (unread_none p u)
one_reason (by_line c u w) (by_height e p b t d z) = absurd (unread_none p u)
one_reason {s = s} (by_block c p f n w) (by_tokens h) = absurd (clear_or_not _ s c h)
one_reason (by_block c p f n w) (by_line e v z) = absurd (unread_none p v)
one_reason (by_block {forms = xs} {rest = a} {f = e1} {n = n1} {p = p1} c p f n w)
    (by_block {forms = ys} {rest = b} {f = e2} {n = n2} {p = p2} e q g m z) =
    let same = one_formed p q in
    let r = one_first (in_forms same f) g in
    let i : length xs ≡ length ys = ap length same in
    let j : length a ≡ length b = ap length r.0 in
    inl (same_reason p1 p2 (Indentation e1) (Indentation e2) (place_at (omega (arith, n, m, i, j)) w z) (ap Indentation r.1))
one_reason (by_block c p f n w) (by_height {forms = ys} {m = m} e q b t d z) =
    absurd (no_first (tree_faultless ys m.body b) (in_forms (one_formed p q) f))
one_reason {s = s} (by_height c p b t d w) (by_tokens h) = absurd (clear_or_not _ s c h)
one_reason (by_height c p b t d w) (by_line e v z) = absurd (unread_none p v)
one_reason (by_height {forms = xs} {m = m} c p b t d w) (by_block e q g n z) =
    absurd (no_first (tree_faultless xs m.body b) (in_forms (one_formed q p) g))
one_reason (by_height {n = n1} {p = p1} c p b t d w) (by_height {n = n2} {p = p2} e q b2 u d2 z) =
    let P : List Line → Type 0 = λ y. FirstDeep [] y n1 in
    inl (same_reason p1 p2 TooDeep TooDeep (place_at (one_deep (subst P (one_formed p q) d) d2) w z) refl)
