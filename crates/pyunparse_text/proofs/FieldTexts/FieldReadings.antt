-- What the tokens of a field's expression are to the grammar, and their faults, piece by piece.
--
-- Carries: expression_is, nested_expression_is, field_faultless, for what reads f-strings back. On: FieldTokens, Enclosures.
use Rattle.std.proofs.Common.{◌≡◌, ℕ, Bool, true, false, ◌||◌, List, [], ◌∷◌, ◌++◌, map, Option, None, refl, ◌∙◌, ap, ap₂, is_some}
use Rattle.std.specs.List.{list_any, flat_map}
use Rattle.std.proofs.lemmas.Grind.{flat_map-append}
use Rattle.std.proofs.lemmas.List.Folds.{list_any-append}
use Rattle.pyfstring_tokens.specs.FieldTokens.{FieldToken, field_tokens, closing}
use Rattle.pyfstring_tokens.specs.Laws.{HasOwnTokens}
use Rattle.pylex_listing.specs.declared.kind.Kind.{Kind}
use Rattle.pylex_listing.specs.declared.kind.Kind.TheVariants as kinds
use Rattle.pylex_lexeme.specs.declared.kinds.Exact.TheVariants.{LPar, RPar}
use Rattle.pylex_lexeme.specs.Operators.{operators, exact_of}
use Rattle.pytree_node.specs.declared.profiles.Extent.TheVariants.{Whole}
use Rattle.pytoken.specs.declared.faults.TokenError.{TokenError}
use Rattle.pytoken.specs.FormattedStrings.{is_faulty_by}
use Rattle.pytoken.specs.Terminals.{Terminal, Op, terminal_of, terminals_by, nested_expression, expression, single_fault, fault_by}
use Rattle.pytoken.specs.Terminals.{field_fault}
use Rattle.pytoken.specs.Terminals.{is_nested_faulty, is_faulty}
use Rattle.pyunparse_text.specs.Spacing.{Piece}
use Rattle.pyunparse_text.proofs.FieldTexts.Conditions.{IsFieldExpression, expression_text}
use Rattle.pyunparse_text.proofs.FieldTexts.Enclosures.{enclosed_closes}
use Rattle.pyunparse_text.proofs.FieldTexts.FieldTokens.{own_token, field_tokens_are, field_has_tokens}

-- what pieces are, where each is this
abbrev pub given_by : (Kind → List ℕ → List Terminal) → List Piece → List Terminal
given_by by ps = flat_map (λ p. by p.kind p.text) ps

-- what a token of a field in a field is
abbrev pub single_terminal : Kind → List ℕ → List Terminal
single_terminal k t = terminal_of k t ∷ []

all_given : (by : Kind → List ℕ → List Terminal) (ps : List Piece) → flat_map (λ x. by x.kind x.text) (map own_token ps) ≡ given_by by ps
all_given by [] = refl
all_given by (p ∷ ps) = ap (λ ts. by p.kind p.text ++ ts) (all_given by ps)

tokens_given : (by : Kind → List ℕ → List Terminal) → by kinds.Op (40 ∷ []) ≡ Op LPar ∷ []
    → by kinds.Op (41 ∷ []) ≡ Op RPar ∷ [] → (ps : List Piece)
    → IsFieldExpression ps → HasOwnTokens (expression_text ps)
    → flat_map (λ x. by x.kind x.text) (field_tokens (expression_text ps)) ≡ Op LPar ∷ (given_by by ps ++ (Op RPar ∷ []))
tokens_given by o c ps e h =
    let to : FieldToken → List Terminal = λ x. by x.kind x.text in
    ap (flat_map to) (field_tokens_are ps e.readable (enclosed_closes [] ps e.enclosed) h)
    ∙ ap (λ x. x ++ flat_map to (map own_token ps ++ closing ∷ [])) o
    ∙ ap (λ x. Op LPar ∷ x) (flat_map-append to (map own_token ps) (closing ∷ []) ∙ ap₂ (λ x y. x ++ (y ++ [])) (all_given by ps) c)

bracket_terminals : (terminal_of kinds.Op (40 ∷ []) ≡ Op LPar) × (terminal_of kinds.Op (41 ∷ []) ≡ Op RPar)
unfolding terminal_of exact_of operators
bracket_terminals = (refl, refl)

-- in an f-string that stands in no field
pub expression_is : (ps : List Piece) → IsFieldExpression ps → HasOwnTokens (expression_text ps)
    → expression (expression_text ps) ≡ Op LPar ∷ (given_by (terminals_by true nested_expression) ps ++ (Op RPar ∷ []))
unfolding expression terminals_by
expression_is ps e h =
    tokens_given (terminals_by true nested_expression) (ap (λ x. x ∷ []) bracket_terminals.0) (ap (λ x. x ∷ []) bracket_terminals.1) ps e h

-- and in one that stands in a field
pub nested_expression_is : (ps : List Piece) → IsFieldExpression ps → HasOwnTokens (expression_text ps)
    → nested_expression (expression_text ps) ≡ Op LPar ∷ (given_by single_terminal ps ++ (Op RPar ∷ []))
unfolding nested_expression
nested_expression_is ps e h = tokens_given single_terminal (ap (λ x. x ∷ []) bracket_terminals.0)
    (ap (λ x. x ∷ []) bracket_terminals.1) ps e h

-- ---- Faults.

-- none of the pieces has one
abbrev pub has_fault_by : (Kind → List ℕ → Option TokenError) → List Piece → Bool
has_fault_by fault ps = list_any (λ p. is_some (fault p.kind p.text)) ps

all_faults : (fault : Kind → List ℕ → Option TokenError) (ps : List Piece)
    → list_any (λ x. is_some (fault x.kind x.text)) (map own_token ps) ≡ has_fault_by fault ps
all_faults fault [] = refl
all_faults fault (p ∷ ps) = ap (λ b. is_some (fault p.kind p.text) || b) (all_faults fault ps)

faultless_by : (fault : Kind → List ℕ → Option TokenError) → fault kinds.Op (40 ∷ []) ≡ None
    → fault kinds.Op (41 ∷ []) ≡ None → (ps : List Piece)
    → IsFieldExpression ps → HasOwnTokens (expression_text ps) → has_fault_by fault ps ≡ false
    → is_faulty_by fault (expression_text ps) ≡ false
unfolding is_faulty_by
faultless_by fault o c ps e h n =
    let k = enclosed_closes [] ps e.enclosed in
    let t = field_has_tokens ps e.readable k h in
    let f = field_tokens_are ps e.readable k h in
    let a = list_any-append (λ (x : FieldToken). is_some (fault x.kind x.text)) (map own_token ps) (closing ∷ []) in
    let m = all_faults fault ps in
    rw (t, f, o, a, m, n, c) refl

pub field_faultless : (ps : List Piece) → IsFieldExpression ps → HasOwnTokens (expression_text ps) → has_fault_by field_fault ps ≡ false
    → is_faulty (expression_text ps) ≡ false
unfolding fault_by single_fault
field_faultless ps e h n = faultless_by field_fault refl refl ps e h n

pub nested_field_faultless : (ps : List Piece) → IsFieldExpression ps → HasOwnTokens (expression_text ps)
    → has_fault_by (single_fault Whole) ps ≡ false → is_nested_faulty (expression_text ps) ≡ false
unfolding single_fault
nested_field_faultless ps e h n = faultless_by (single_fault Whole) refl refl ps e h n
