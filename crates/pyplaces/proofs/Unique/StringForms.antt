-- Literals and f-strings.
--
-- Carries: no_part_goes .. run_joined, for Expressions, Patterns. On: Levels, Answered.
use Rattle.std.proofs.Common.{◌≡◌, refl, sym, ap, ◌∙◌, ℕ, ◌+◌, ◌≤◌, arith, List, [], ◌∷◌, ◌++◌, length, append_assoc, length-append}
use Rattle.std.proofs.Common.{map}
use Rattle.std.proofs.Common.{Bool, true, false}
use Rattle.std.proofs.Math.Path.{fun_ext}
use Rattle.std.proofs.lemmas.List.{map-append, length-map}
use Rattle.pylex_lexeme.specs.declared.kinds.Exact.TheVariants.{LPar}
use Rattle.pyfstring.specs.declared.parts.Conversion.{Conversion}
use Rattle.pytree_node.specs.Trees.{Expr, OptionalExpr}
use Rattle.pytree_node.specs.Values
use Rattle.pytoken.specs.Terminals.{Terminal, Op, Literal, FormattedBegin, FormattedEnd, FormattedText, FieldBegin, SpecBegin, FieldEnd}
use Rattle.pygrammar.specs.declared.levels.Level.TheVariants.{Atom}
use Rattle.pygrammar.specs.FormattedStrings.{StringPart, Text, Field, with_text, merged, has_formatted}
use Rattle.pygrammar.specs.Grammar as G
use Rattle.pyplaces.specs.Stretches.{Stretch, stretch, over}
use Rattle.pyplaces.specs.ExpressionPlaces.{string_places}
use Rattle.pyplaces.specs.Inner.Looks.{grip_of}
use Rattle.pyplaces.specs.Inner.ExpressionSteps.{Goes}
use Rattle.pyplaces.specs.Inner.AtomSteps.{a_field, text_of, run, parts_step, specified_step}
use Rattle.pyplaces.specs.Inner.Questions.{Strings, Parts, Specified, Row, row_of, Reading, Ask}
use Rattle.pyplaces.specs.Inner.Steps.{here, on}
use Rattle.pyplaces.proofs.Unique.Leading.{Comes, via, from, to, is_true}
use Rattle.pyplaces.proofs.Unique.LookLemmas.{strings_end}
use Rattle.pyplaces.proofs.Unique.Levels.{Reads}
use Rattle.pyplaces.proofs.Unique.Answered.{Answers, counted, shaped, EndsParts, EndsField}

-- ---- Parts without what stands in their fields.

abbrev pub blank : StringPart → StringPart
blank (Text t) = Text t
blank (Field e) = a_field

blank_text : (t : List ℕ) (ps : List StringPart) → with_text t (map blank ps) ≡ map blank (with_text t ps)
blank_text [] ps = refl
blank_text (c ∷ cs) [] = refl
blank_text (c ∷ cs) (Text t ∷ ps) = refl
blank_text (c ∷ cs) (Field e ∷ ps) = refl

blank_merged : (ps : List StringPart) → merged (map blank ps) ≡ map blank (merged ps)
blank_merged [] = refl
blank_merged (Text t ∷ ps) = ap (with_text t) (blank_merged ps) ∙ blank_text t (merged ps)
blank_merged (Field e ∷ ps) = ap (λ z. a_field ∷ z) (blank_merged ps)

blank_places : (row : Stretch) (ps : List StringPart) (fs : List (List Stretch))
    → string_places row (map blank ps) fs ≡ string_places row ps fs
blank_places row [] fs = refl
blank_places row (Text t ∷ ps) fs = ap (λ z. row ∷ z) (blank_places row ps fs)
blank_places row (Field e ∷ ps) [] = refl
blank_places row (Field e ∷ ps) (f ∷ fs) = ap (λ z. f ++ (row ∷ z)) (blank_places row ps fs)

pub row_places : (row : Stretch) (ps : List StringPart) (fs : List (List Stretch))
    → string_places row (merged (map blank ps)) fs ++ (row ∷ []) ≡ string_places row (merged ps) fs ++ (row ∷ [])
row_places row ps fs =
    ap (λ z. string_places row z fs ++ (row ∷ [])) (blank_merged ps) ∙ ap (λ z. z ++ (row ∷ [])) (blank_places row (merged ps) fs)

-- ---- The parts of an f-string.

abbrev pub PartsRead : List Terminal → List StringPart → (Stretch → ℕ → List (List Stretch)) → Type 0
PartsRead ts ps f = Answers Parts ts (λ at. row_of false (map blank ps) (λ row. f row at)) EndsParts

abbrev pub SpecReads : List Terminal → (Stretch → ℕ → List Stretch) → Type 0
SpecReads ts f = Answers Specified ts (λ at row. f row at) EndsField

parts_end : (at : ℕ) (r : List Terminal) (k : Row → ℕ → List Terminal → Reading) → EndsParts r
    → parts_step at r k ≡ k (row_of false [] (λ row. [])) 0 r
parts_end at (FormattedEnd ∷ r) k s = refl
parts_end at (FieldEnd ∷ r) k s = refl
parts_end at [] k s = absurd s
parts_end at (_ ∷ r) k s = absurd s

spec_end : (at : ℕ) (r : List Terminal) (k : (Stretch → List Stretch) → ℕ → List Terminal → Reading) → EndsField r
    → specified_step at r k ≡ k (λ row. []) 0 r
spec_end at (FieldEnd ∷ r) k s = refl
spec_end at [] k s = absurd s
spec_end at (_ ∷ r) k s = absurd s

field_ends : (r : List Terminal) → EndsField r → EndsParts r
field_ends (FieldEnd ∷ r) s = tt
field_ends [] s = absurd s
field_ends (_ ∷ r) s = absurd s

pub no_part_goes : PartsRead [] [] (λ row at. [])
no_part_goes at rest k s = on (from (parts_end at rest k s) here)

pub text_part_goes : (t : List ℕ) (ts : List Terminal) (ps : List StringPart) (f : Stretch → ℕ → List (List Stretch)) → PartsRead ts ps f
    → PartsRead (FormattedText t ∷ ts) (Text t ∷ ps) (λ row at. f row (1 + at))
text_part_goes t ts ps f p at rest k s = on (via (p (1 + at) rest _ s) (counted k rest (omega arith)))

pub spec_grip : {u : Bool} {us : List Terminal} {e : OptionalExpr} → G.Spec u us e → (r : List Terminal)
    → grip_of (us ++ (FieldEnd ∷ r)) ≤ 24
spec_grip G.no_spec r = omega arith
spec_grip (G.spec p) r = omega arith

pub field_part_goes : (c : Conversion) (ts us vs : List Terminal) (ps : List StringPart) (e : Expr) (f : ℕ → List Stretch)
    (g : Stretch → ℕ → List Stretch) (h : Stretch → ℕ → List (List Stretch)) → ((r : List Terminal) → grip_of (us ++ (FieldEnd ∷ r)) ≤ 24)
    → Reads Atom (Op LPar ∷ ts) f → SpecReads us g → PartsRead vs ps h
    → PartsRead (FieldBegin c ∷ (Op LPar ∷ (ts ++ (us ++ (FieldEnd ∷ vs))))) (Field e ∷ ps)
    (λ row at. (f (1 + at) ++ g row (2 + (at + length ts))) ∷ h row (3 + (at + (length ts + length us))))
field_part_goes c ts us vs ps e f g h w p q r at rest k s = shaped Parts at k (shape rest)
    (on (via (p (1 + at) (us ++ (FieldEnd ∷ (vs ++ rest))) _ (w (vs ++ rest)))
    (via (q (2 + (at + length ts)) (FieldEnd ∷ (vs ++ rest)) _ tt)
    (via (r (3 + (at + (length ts + length us))) rest _ s)
    (counted k rest (omega (arith, length-append ts (us ++ (FieldEnd ∷ vs)), length-append us (FieldEnd ∷ vs))))))))
  where
    shape : (rest : List Terminal) → (FieldBegin c ∷ (Op LPar ∷ (ts ++ (us ++ (FieldEnd ∷ vs))))) ++ rest ≡
        FieldBegin c ∷ (Op LPar ∷ (ts ++ (us ++ (FieldEnd ∷ (vs ++ rest)))))
    shape rest = simp append_assoc refl

pub no_spec_goes : SpecReads [] (λ row at. [])
no_spec_goes at rest k s = on (from (spec_end at rest k s) here)

pub spec_goes : (ts : List Terminal) (ps : List StringPart) (f : Stretch → ℕ → List (List Stretch)) → PartsRead ts ps f
    → SpecReads (SpecBegin ∷ ts) (λ row at. string_places row (merged ps) (f row (1 + at)) ++ (row ∷ []))
spec_goes ts ps f p at rest k s = on (via (p (1 + at) rest _ (field_ends rest s))
    (to (counted k rest (omega arith))
    (ap (λ z. k z (length (SpecBegin ∷ ts)) rest) (fun_ext (λ row. row_places row ps (f row (1 + at)))))))

-- ---- Runs.

abbrev pub StringsStop : List Terminal → Type 0
StringsStop r = grip_of r ≤ 24

abbrev pub StringsRead : List Terminal → List StringPart → (Stretch → ℕ → List (List Stretch)) → Type 0
StringsRead ts ps f = Answers Strings ts (λ at. row_of (has_formatted ts) (map blank ps) (λ row. f row at)) StringsStop

pub no_literal_goes : StringsRead [] [] (λ row at. [])
no_literal_goes at rest k s = on (from (strings_end at rest k s) here)

pub text_literal_goes : (t : List ℕ) (u : Bool) (ts : List Terminal) (ps : List StringPart) (f : Stretch → ℕ → List (List Stretch))
    → StringsRead ts ps f → StringsRead (Literal (Values.Str t u) ∷ ts) (Text t ∷ ps) (λ row at. f row (1 + at))
text_literal_goes t u ts ps f p at rest k s = on (via (p (1 + at) rest _ s) (counted k rest (omega arith)))

pub formatted_literal_goes : (ts us : List Terminal) (ps qs : List StringPart) (f g : Stretch → ℕ → List (List Stretch))
    → PartsRead ts ps f → StringsRead us qs g
    → StringsRead (FormattedBegin ∷ (ts ++ (FormattedEnd ∷ us))) (ps ++ qs)
    (λ row at. f row (1 + at) ++ g row (2 + (at + length ts)))
formatted_literal_goes ts us ps qs f g p q at rest k s =
    shaped Strings at k (ap (λ z. FormattedBegin ∷ z) (append_assoc ts (FormattedEnd ∷ us) rest))
    (on (via (p (1 + at) (FormattedEnd ∷ (us ++ rest)) _ tt) (via (q (2 + (at + length ts)) rest _ s)
    (to (counted k rest (omega (arith, length-append ts (FormattedEnd ∷ us))))
    (ap (λ z. k (row_of true z (λ row. f row (1 + at) ++ g row (2 + (at + length ts))))
    (length (FormattedBegin ∷ (ts ++ (FormattedEnd ∷ us)))) rest) (sym (map-append blank ps qs)))))))

-- literals alone
plain_strings : (vs : List Values.Value) (at : ℕ) (rest : List Terminal) (k : Row → ℕ → List Terminal → Reading) → grip_of rest ≤ 24
    → Comes (Ask Strings at (map Literal vs ++ rest) k) (k (row_of false (map (λ v. Text (text_of v)) vs) (λ row. [])) (length vs) rest)
plain_strings [] at rest k s = on (from (strings_end at rest k s) here)
plain_strings (v ∷ vs) at rest k s = on (via (plain_strings vs (1 + at) rest _ s) (counted k rest (omega arith)))

pub run_strings : (v : Values.Value) (vs : List Values.Value) (at : ℕ) (rest : List Terminal) (k : Goes) → grip_of rest ≤ 24
    → Comes (run at (Literal v ∷ (map Literal vs ++ rest)) k) (k (over at (1 + length vs)) (length (Literal v ∷ map Literal vs)) rest)
run_strings v vs at rest k s = via (plain_strings (v ∷ vs) at rest _ s)
    (to here (ap (λ z. k (over at z) (length (v ∷ vs)) rest) one_more ∙ ap (λ z. k (over at (1 + length vs)) z rest) as_many))
  where
    one_more : length (v ∷ vs) ≡ 1 + length vs
    one_more = omega arith

    as_many : length (v ∷ vs) ≡ length (Literal v ∷ map Literal vs)
    as_many = omega (arith, length-map vs Literal)

pub run_joined : (ts : List Terminal) (ps : List StringPart) (f : Stretch → ℕ → List (List Stretch)) → has_formatted ts ≡ true
    → StringsRead ts ps f → (at : ℕ) (rest : List Terminal) (k : Goes) → grip_of rest ≤ 24
    → Comes (run at (ts ++ rest) k)
    (k (string_places (stretch at (at + length ts)) (merged ps) (f (stretch at (at + length ts)) at) ++ (stretch at (at + length ts) ∷ []))
    (length ts) rest)
run_joined ts ps f h p at rest k s = via (p at rest _ s) (is_true _ h
    (to here (ap (λ z. k z (length ts) rest)
    (row_places (stretch at (at + length ts)) ps (f (stretch at (at + length ts)) at)))))
