-- Carries: write_dotted, write_module_alias. A name is written point by point.
use Rattle.std.proofs.Common.{◌≡◌, ◌∙◌, ℕ, ◌==◌, Bool, true, false, if◌then◌else◌, List, [], ◌∷◌, ◌++◌}
use Rattle.std.proofs.Common.{Option, Some, None, refl, ap, sym, subst, arith}
use Rattle.std.specs.Prelude.{MatchOption}
use Rattle.std.specs.Str.{chars, IsUtf8, NoCharPasses, NonePass}
use Rattle.std.proofs.lemmas.Str.{chars_from_encodes}
use Rattle.std.proofs.lemmas.Str.Pattern.{IsSplitOnceResult, split_parts}
use denote.Ref.{Bor}
use Rattle.pylex_lexeme.specs.declared.kinds.Exact.TheVariants.{Dot}
use Rattle.pytree_node.specs.Trees.{Identifier}
use Rattle.pytoken.specs.Terminals.{in_form, Op}
use Rattle.pyunparse_text.specs.Pieces.{Sited, piece, sited}
use Rattle.pygrammar.specs.DottedNames.{lengthen, names_in}
use Rattle.pyunparse_text.specs.Statements.{dotted, dotted_names, dotted_rest}
use Rattle.pyunparse_text.specs.Written.{tight}
use Rattle.pyunparse_text.specs.Folds.{puts, sited_in_utf8}
use Rattle.pytree_fits.proofs.Callers.Names.{chars_around, sides}

-- ---- The names of a text.

-- up to its first point, and after it
names_around : (x y : Identifier) → NonePass (λ c. c == 46) x → names_in (x ++ (46 ∷ y)) ≡ x ∷ names_in y
names_around [] y h = refl
names_around (c ∷ cs) y h = rw (h.0, names_around cs y h.1) refl

-- a text without points
one_name : (x : Identifier) → NonePass (λ c. c == 46) x → names_in x ≡ x ∷ []
one_name [] h = refl
one_name (c ∷ cs) h = rw (h.0, one_name cs h.1) refl

-- after a first one
following_point : (y : Identifier) → dotted_rest piece (names_in y) ≡ tight piece Dot ∷ dotted piece false y
following_point [] = refl
following_point (c ∷ cs) = by (c == 46) (names_in cs)
  where
    by : (b : Bool) (xs : List Identifier) →
        dotted_rest piece (if b then [] ∷ xs else lengthen c xs) ≡ tight piece Dot ∷ dotted_names piece false
        (if b then [] ∷ xs else lengthen c xs)
    by true xs = refl
    by false [] = refl
    by false (x ∷ xs) = refl

-- ---- Their bytes.

abbrev HasNoPoint : List ℕ → Type 0
HasNoPoint bs = NoCharPasses (λ c. c == 46) bs

pointless : (bs : List ℕ) → IsUtf8 bs → HasNoPoint bs → NonePass (λ c. c == 46) (chars bs)
pointless bs u w = subst (NonePass (λ c. c == 46)) (chars_from_encodes w.0 bs u w.1) w.2

around_point : (close : Bool) (text part tail : List ℕ) → IsUtf8 text → text ≡ part ++ (46 ∷ tail) → HasNoPoint part →
    dotted piece close (chars text) ≡ sited (in_form (chars part)) close false ∷ (tight piece Dot ∷ dotted piece false (chars tail))
around_point close text part tail u e h =
    let v = (sides part tail (subst IsUtf8 e u)).0 in
    ap (λ z. dotted piece close (chars z)) e
    ∙ ap (λ z. dotted piece close z) (chars_around part tail v)
    ∙ ap (dotted_names piece close) (names_around (chars part) (chars tail) (pointless part v h))
    ∙ ap (λ z. sited (in_form (chars part)) close false ∷ z) (following_point (chars tail))

-- a text that is split at its first point, or has none
pub at_point : (close : Bool) (text : List ℕ) (r : Option (Bor (List ℕ) × Bor (List ℕ))) → IsUtf8 text → IsSplitOnceResult 46 text r →
    MatchOption r (dotted piece close (chars text) ≡ sited (in_form (chars text)) close false ∷ [])
    (λ x. IsUtf8 x.0.now × IsUtf8 x.1.now × (dotted piece close (chars text) ≡ sited (in_form (chars x.0.now)) close false ∷
    (tight piece Dot ∷ dotted piece false (chars x.1.now))))
at_point close text None u h = ap (dotted_names piece close) (one_name (chars text) (pointless text u h))
at_point close text (Some x) u h =
    let is = (split_parts 46 text (Some x) h (omega arith)).0 in
    let both = sides x.0.now x.1.now (subst IsUtf8 is u) in
    (both.0, both.1, around_point close text x.0.now x.1.now u is (subst HasNoPoint (sym h.3) h.2.0))

-- ---- They are written.

module _ {S : Type 0} (after : S → Sited → S) (base o : S) (close : Bool) (text : List ℕ) where
  -- a name and the point after it
  pub name_on : (part tail : List ℕ) (o1 o2 : S) →
      dotted piece close (chars text) ≡ sited (in_form (chars part)) close false ∷ (tight piece Dot ∷ dotted piece false (chars tail)) →
      puts after o (dotted piece close (chars text)) ≡ base →
      o1 ≡ puts after o (sited (in_form (chars part)) close false ∷ []) → o2 ≡ puts after o1 (sited (Op Dot) true true ∷ []) →
      puts after o2 (dotted piece false (chars tail)) ≡ base
  name_on part tail o1 o2 is so_far e1 e2 =
      ap (λ z. puts after z (dotted piece false (chars tail))) (e2 ∙ ap (λ z. after z (sited_in_utf8 (tight piece Dot))) e1)
      ∙ ap (puts after o) (sym is) ∙ so_far

  -- the last one
  pub name_ends : dotted piece close (chars text) ≡ sited (in_form (chars text)) close false ∷ []
      → puts after o (dotted piece close (chars text)) ≡ base →
      puts after o (sited (in_form (chars text)) close false ∷ []) ≡ base
  name_ends is so_far = ap (puts after o) (sym is) ∙ so_far
