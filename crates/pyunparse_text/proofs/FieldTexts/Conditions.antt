-- Which pieces may stand in a field of an f-string, so that its expression is scanned to their end, and what may follow them there
-- (reference 2.4.3).
--
-- Carries: IsFieldExpression, for FieldScans, FieldCuts.
use Rattle.std.specs.Prelude.{◌≡◌, ℕ, Bool, true, false, not, ◌&&◌, ◌||◌, ◌==◌, List, [], ◌∷◌, ◌++◌, drop, codes, Option, Some, None}
use Rattle.std.specs.Prelude.{if◌then◌else◌}
use Rattle.std.specs.List.{list_all, list_any}
use Rattle.std.specs.Str.{bytes_eq, all_scalars}
use Rattle.pyfstring.specs.Characters.{exclamation_mark, colon, equals_sign, backslash, hash, double_quote, left_curly_bracket}
use Rattle.pyfstring.specs.Characters.{right_curly_bracket}
use Rattle.pyfstring.specs.Characters.{space, less_than_sign, greater_than_sign}
use Rattle.pyfstring.specs.Texts.{begins_with}
use Rattle.pyfstring.specs.Expressions.{is_quote, is_end, opened_by, closed_by}
use Rattle.pylex_lexeme.specs.Chars.{is_comment_part}
use Rattle.pylex_listing.specs.declared.kind.Kind.TheVariants as kinds
use Rattle.pyunparse_text.specs.Spacing.{Piece, is_operator_kind, spaced, are_readable}
use Rattle.pyunparse_text.specs.Tokens.{opens, closes, opens_within}

abbrev pub is_there : {A : Type 0} → Option A → Bool
is_there None = false
is_there (Some x) = true

-- ---- Characters.

-- in a literal in one quote, whichever quote that is, it stands for itself
abbrev pub is_own : ℕ → Bool
is_own c = not (is_quote c) && (not (c == backslash) && (is_comment_part c && not (c == 0)))

-- outside literals, within brackets: a character that is passed by itself
abbrev pub is_inner : ℕ → Bool
is_inner c = is_own c && (not (c == hash) && (not (is_there (opened_by c)) && not (is_there (closed_by c))))

-- outside brackets too, where no `=` follows it
abbrev pub is_calm : ℕ → Bool
is_calm c = is_inner c && not (is_end c)

-- whatever follows it
abbrev pub is_plain : ℕ → Bool
is_plain c = is_calm c && not ((c == less_than_sign) || (c == greater_than_sign))

-- ---- Brackets.

-- a bracket, and the one that closes it
abbrev pub is_pair : List ℕ → List ℕ → Bool
is_pair o t =
    (bytes_eq o (codes "(") && bytes_eq t (codes ")")) ||
    ((bytes_eq o (codes "[") && bytes_eq t (codes "]")) || (bytes_eq o (codes "{") && bytes_eq t (codes "}")))

-- among open brackets, the last one first, it closes the last one
abbrev pub closes_last : List ℕ → List (List ℕ) → Bool
closes_last t [] = false
closes_last t (o ∷ os) = is_pair o t

abbrev pub is_within : List (List ℕ) → Bool
is_within [] = false
is_within (o ∷ os) = true

-- "!=", "==", "<=" or ">="
abbrev pub comparisons : List (List ℕ)
comparisons = codes "!=" ∷ codes "==" ∷ codes "<=" ∷ codes ">=" ∷ []

abbrev pub is_comparison : List ℕ → Bool
is_comparison t = list_any (bytes_eq t) comparisons

-- an operator that an expression of a field doesn't have outside brackets: one with `:` or `=` but for a comparison, and `->`
abbrev pub ends_text : List ℕ → Bool
ends_text t = bytes_eq t (codes "->") || (not (is_comparison t) && list_any is_end t)

abbrev pub ends_field : Piece → Bool
ends_field p = is_operator_kind p.kind && ends_text p.text

-- After pieces that left these brackets open, the last one first: each bracket is closed by one of its own kind, and outside brackets
-- there is no
-- operator that an expression of a field doesn't have there.
abbrev pub are_enclosed : List (List ℕ) → List Piece → Bool
are_enclosed os [] = not (is_within os)
are_enclosed os (p ∷ ps) =
    if opens p then are_enclosed (p.text ∷ os) ps
    else (if closes p then closes_last p.text os && are_enclosed (drop 1 os) ps
    else (is_within os || not (ends_field p)) && are_enclosed os ps)

-- ---- Literals.

-- what stands after a literal's quote: own characters and the same quote
abbrev pub ends_plainly : ℕ → List ℕ → Bool
ends_plainly q [] = false
ends_plainly q (c ∷ []) = c == q
ends_plainly q (c ∷ d ∷ t) = is_own c && ends_plainly q (d ∷ t)

-- a prefix, and own characters in double quotes
abbrev pub is_plain_literal : List ℕ → Bool
is_plain_literal [] = false
is_plain_literal (c ∷ t) = if c == double_quote then ends_plainly double_quote t else is_plain c && is_plain_literal t

abbrev pub is_plain_piece : Piece → Bool
is_plain_piece p = elim p.kind [ kinds.String ↦ is_plain_literal p.text | _ ↦ true ]

-- ---- The expression of a field, and what stands after it.

-- the brackets that may be open at once in the text of a field
abbrev pub most_open : ℕ
most_open = 599

pub record IsFieldExpression (ps : List Piece) : Type 0 where
  pub readable : are_readable ps ≡ true
  pub scalars : list_all (λ p. all_scalars p.text) ps ≡ true
  pub enclosed : are_enclosed [] ps ≡ true
  pub shallow : opens_within most_open 0 ps ≡ true
  pub plain : list_all is_plain_piece ps ≡ true

-- what stands after the brace of the field
abbrev pub expression_text : List Piece → List ℕ
expression_text [] = []
expression_text (p ∷ ps) = (if begins_with left_curly_bracket p.text then space ∷ [] else []) ++ spaced (p ∷ ps)

-- `}`, `:`, or a `!` that isn't one of `!=`
pub data EndsExpression : List ℕ → Type 0 where
  brace : {r : List ℕ} → EndsExpression (right_curly_bracket ∷ r)
  spec : {r : List ℕ} → EndsExpression (colon ∷ r)
  conversion : {r : List ℕ} → begins_with equals_sign r ≡ false → EndsExpression (exclamation_mark ∷ r)
