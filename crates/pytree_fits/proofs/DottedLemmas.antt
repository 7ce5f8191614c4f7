-- Carries: dotted_fits, is_star. On: the characters of a text around its first dot.
use Rattle.std.proofs.Common.{◌≡◌, refl, sym, ap, subst, ◌∙◌, ℕ, ◌+◌, ◌<◌, arith, List, [], ◌∷◌, ◌++◌, length, get_or, drop, append_assoc}
use Rattle.std.proofs.Common.{length-append, Option, Some, None, Bool, true, false}
use Rattle.std.specs.Prelude.{◌&&◌, ◌==◌, not, MatchOption}
use Rattle.std.specs.Bool.{Decides}
use Rattle.std.specs.List.{list_all}
use Rattle.std.specs.Str.{chars, IsUtf8, NoCharPasses, NonePass, encode_utf8_all}
use Rattle.std.proofs.lemmas.Bool.{and_from, eqb-true}
use Rattle.std.proofs.lemmas.List.{take_at, drop_at, get_or_at}
use Rattle.std.proofs.lemmas.Str.{chars-append, chars_from_encodes, IsUtf8-take, IsUtf8-drop, IsCharBoundary-before_ascii}
use Rattle.std.proofs.lemmas.Str.{IsCharBoundary-after_ascii}
use Rattle.std.proofs.lemmas.Str.Pattern.{IsSplitOnceResult, split_parts}
use Rattle.std.proofs.Math.Bool.{and-true}
use Rattle.std.specs.Cmp.{both_ways}
use denote.Ref.{Bor}
use Rattle.pytree_fits.specs.Names.{is_name}
use Rattle.pytree_fits.specs.Statements.{dotted, is_star}
use Rattle.pytree_fits.proofs.Fields.Dots.{is_other, one_part, part_before_dot}

others : (cs : List ℕ) → NonePass (λ c. c == 46) cs → list_all is_other cs ≡ true
others [] h = refl
others (c ∷ cs) h = and_from (is_other c) (list_all is_other cs) (ap not h.0) (others cs h.1)

-- a text with no dot
abbrev IsDotless : List ℕ → Type 0
IsDotless bs = NoCharPasses (λ c. c == 46) bs

dotless_chars : (bs : List ℕ) → IsUtf8 bs → IsDotless bs → list_all is_other (chars bs) ≡ true
dotless_chars bs u w = subst (λ cs. list_all is_other cs ≡ true) (chars_from_encodes w.0 bs u w.1) (others w.0 w.2)

-- the characters around a dot
pub chars_around : (part following : List ℕ) → IsUtf8 part → chars (part ++ (46 ∷ following)) ≡ chars part ++ (46 ∷ chars following)
unfolding chars lib.Utf8.encode
chars_around part following u =
    let dot : IsUtf8 (46 ∷ []) = (46 ∷ [], (refl, refl)) in
    chars-append part (46 ∷ following) u ∙ ap (λ z. chars part ++ z) (chars-append (46 ∷ []) following dot)

-- what stands on both sides of a dot is text
pub sides : (part following : List ℕ) → IsUtf8 (part ++ (46 ∷ following)) → IsUtf8 part × IsUtf8 following
sides part following u =
    let bs = part ++ (46 ∷ following) in
    let at : get_or bs (length part) 0 ≡ 46 = get_or_at part 46 following 0 (length part) refl in
    let inside : length part < length bs = simp length-append (omega arith) in
    let front = IsUtf8-take bs (length part) u (IsCharBoundary-before_ascii bs (length part) inside (omega (arith, at))) in
    let same : (part ++ (46 ∷ [])) ++ following ≡ bs = append_assoc part (46 ∷ []) following in
    let long : length (part ++ (46 ∷ [])) ≡ length part + 1 = length-append part (46 ∷ []) in
    let back = IsUtf8-drop bs (length part + 1) u (IsCharBoundary-after_ascii bs (length part) u inside (omega (arith, at))) in (
      subst IsUtf8 (take_at part (46 ∷ following) (length part) refl) front,
      subst IsUtf8 (ap (drop (length part + 1)) (sym same) ∙ drop_at (part ++ (46 ∷ [])) following (length part + 1) long) back,
    )

around_dot : (text part following : List ℕ) → IsUtf8 text → text ≡ part ++ (46 ∷ following) → IsDotless part
    → dotted is_name (chars text) ≡ (is_name (chars part) && dotted is_name (chars following))
around_dot text part following u e h =
    let v = (sides part following (subst IsUtf8 e u)).0 in
    ap (λ z. dotted is_name (chars z)) e ∙ ap (dotted is_name) (chars_around part following v)
    ∙ ap (list_all is_name) (part_before_dot (chars part) (chars following) (dotless_chars part v h))

without_dot : (text : List ℕ) → IsUtf8 text → IsDotless text → dotted is_name (chars text) ≡ is_name (chars text)
without_dot text u h = ap (list_all is_name) (one_part (chars text) (dotless_chars text u h)) ∙ and-true (is_name (chars text))

-- a text that is split at its first dot, or has none
pub at_dot : (text : List ℕ) (r : Option (Bor (List ℕ) × Bor (List ℕ))) → IsUtf8 text → IsSplitOnceResult 46 text r →
    MatchOption r (dotted is_name (chars text) ≡ is_name (chars text))
    (λ x. IsUtf8 x.1.now × (dotted is_name (chars text) ≡ (is_name (chars x.0.now) && dotted is_name (chars x.1.now))))
at_dot text None u h = without_dot text u h
at_dot text (Some x) u h =
    let is = (split_parts 46 text (Some x) h (omega arith)).0 in
    ((sides x.0.now x.1.now (subst IsUtf8 is u)).1, around_dot text x.0.now x.1.now u is (subst IsDotless (sym h.3) h.2.0))

-- its first part shows that it is none, or leaves it to what follows
pub fails : (x y : Bool) {told z : Bool} → told ≡ x → told ≡ false → z ≡ (x && y) → false ≡ z
fails x y is failed e = sym (e ∙ ap (λ b. b && y) (sym is ∙ failed))

pub passes : (x y : Bool) {told z : Bool} → told ≡ x → told ≡ true → z ≡ (x && y) → z ≡ y
passes x y is passed e = e ∙ ap (λ b. b && y) (sym is ∙ passed)

-- ---- The name `*`.

star_chars : chars (42 ∷ []) ≡ 42 ∷ []
unfolding chars
star_chars = refl

star_bytes : encode_utf8_all (42 ∷ []) ≡ 42 ∷ []
unfolding lib.Utf8.encode
star_bytes = refl

pub star_is : (x : List ℕ) → is_star x ≡ true → x ≡ 42 ∷ []
star_is [] h = absurd (cc)
star_is (c ∷ []) h = ap (λ z. z ∷ []) (eqb-true c 42 h)
star_is (c ∷ (d ∷ cs)) h = absurd (cc)

pub star_told : (text x : List ℕ) (told : Bool) → chars text ≡ x → text ≡ encode_utf8_all x
    → Decides told (text ≡ 42 ∷ []) → told ≡ is_star x
star_told text x told characters bytes decides =
    both_ways told (is_star x) (λ t. ap is_star (sym characters ∙ ap chars (decides.0 t) ∙ star_chars))
    (λ s. decides.1 (bytes ∙ ap encode_utf8_all (star_is x s) ∙ star_bytes))
