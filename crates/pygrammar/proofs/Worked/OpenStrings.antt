-- Worked counts of tokens, and what is open after some terminals.
--
-- Carries: no contract; its rows are computed as it is checked.
use Rattle.std.proofs.Common.{◌≡◌, refl, List, [], ◌∷◌, ◌++◌}
use Rattle.pylex_lexeme.specs.declared.kinds.Exact.TheVariants.{Comma, LPar, RPar}
use Rattle.pyfstring.specs.declared.parts.Conversion.TheVariants as By
use Rattle.pytoken.specs.Terminals.{Terminal, Op, in_form, FormattedBegin, FormattedEnd, FormattedText, FieldBegin, SpecBegin, FieldEnd}
use Rattle.pygrammar.specs.OpenStrings.{open_after_all, token_count}

abbrev x : Terminal
x = in_form (120 ∷ [])

abbrev text : Terminal
text = FormattedText (97 ∷ [])

-- f'' and f'{ts}'
abbrev empty : List Terminal
empty = FormattedBegin ∷ FormattedEnd ∷ []

abbrev around : List Terminal → List Terminal
around ts = FormattedBegin ∷ FieldBegin By.None ∷ Op LPar ∷ (ts ++ (Op RPar ∷ FieldEnd ∷ FormattedEnd ∷ []))

-- {x:a{x}}
abbrev with_spec : List Terminal
with_spec =
    FieldBegin By.None ∷ Op LPar ∷ x ∷ Op RPar ∷ SpecBegin ∷ text ∷ FieldBegin By.None ∷ Op LPar ∷ x ∷ Op RPar ∷ FieldEnd ∷ FieldEnd ∷ []

-- {f"
abbrev begun : List Terminal
begun = FieldBegin By.None ∷ Op LPar ∷ FormattedBegin ∷ []

-- x, f''
worked_1 : token_count (x ∷ Op Comma ∷ empty) ≡ 3
worked_1 = refl

-- f'{x}', x
worked_2 : token_count (around (x ∷ []) ++ (Op Comma ∷ x ∷ [])) ≡ 3
worked_2 = refl

-- f'{f"{x}" f""}' x
worked_3 : token_count (around (around (x ∷ []) ++ empty) ++ (x ∷ [])) ≡ 2
worked_3 = refl

-- f'{x:a{x}}' f''
worked_4 : token_count (FormattedBegin ∷ (with_spec ++ (FormattedEnd ∷ empty))) ≡ 2
worked_4 = refl

-- f'{x:a{f"
worked_5 : open_after_all [] (FormattedBegin ∷ FieldBegin By.None ∷ Op LPar ∷ x ∷ Op RPar ∷ SpecBegin ∷ text ∷ begun) ≡ 0 ∷ 2 ∷ []
worked_5 = refl

-- f'{x:a{x}} and then its end
worked_6 : open_after_all [] (FormattedBegin ∷ with_spec) ≡ 0 ∷ []
worked_6 = refl

worked_7 : open_after_all [] (FormattedBegin ∷ (with_spec ++ (FormattedEnd ∷ []))) ≡ []
worked_7 = refl
