-- How lists of pieces are put together: what their first and last pieces are.
--
-- Internal: no public contract cites them. They serve the proof that the pieces of a tree are told apart.
use Rattle.std.specs.Prelude.{Bool, true, false, not, ◌&&◌, ◌||◌, List, [], ◌∷◌, ℕ, codes}
use Rattle.std.specs.List.{list_any}
use Rattle.std.specs.Str.{bytes_eq}
use Rattle.pyunparse_text.specs.Spacing.{Piece, is_token, is_operator_kind, touches, stay_apart}

-- one of some texts
abbrev pub is_among : List (List ℕ) → List ℕ → Bool
is_among ts t = list_any (bytes_eq t) ts

-- operators after which an expression may stand without a blank: opening brackets, prefixes, and those with none on either side
abbrev pub leading : List (List ℕ)
leading = codes "(" ∷ codes "[" ∷ codes "{" ∷ codes "-" ∷ codes "+" ∷ codes "~" ∷ codes "*" ∷ codes "**" ∷ codes "@" ∷
    codes "=" ∷ codes ":" ∷ []

-- operators that an expression begins with, stars aside
abbrev pub openings : List (List ℕ)
openings = codes "(" ∷ codes "[" ∷ codes "{" ∷ codes "-" ∷ codes "+" ∷ codes "~" ∷ codes "..." ∷ []

-- the opening brackets
abbrev pub openers : List (List ℕ)
openers = codes "(" ∷ codes "[" ∷ codes "{" ∷ []

-- the stars
abbrev pub stars : List (List ℕ)
stars = codes "*" ∷ codes "**" ∷ []

-- a name, a number, a string, or an operator that an expression begins with, not close to what stands before it
abbrev pub begins_expression : Piece → Bool
begins_expression p = is_token p.kind p.text && ((not (is_operator_kind p.kind) || is_among openings p.text) && not p.before)

-- the same, or a star
abbrev pub begins_item : Piece → Bool
begins_item p = begins_expression p || ((is_operator_kind p.kind && is_among stars p.text) && not p.before)

-- closing brackets and the ellipsis
abbrev pub closings : List (List ℕ)
closings = codes ")" ∷ codes "]" ∷ codes "}" ∷ codes "..." ∷ []

-- a name, a number, a string, a closing bracket or an ellipsis, not close to what stands after it
abbrev pub ends_expression : Piece → Bool
ends_expression p = is_token p.kind p.text && ((not (is_operator_kind p.kind) || is_among closings p.text) && not p.following)

-- not close to what comes after, or before
abbrev pub is_free_after : Piece → Bool
is_free_after p = not p.following

abbrev pub is_free_before : Piece → Bool
is_free_before p = not p.before

-- operators that may stand after an expression without a blank
abbrev pub trailing : List (List ℕ)
trailing = codes ")" ∷ codes "]" ∷ codes "}" ∷ codes "," ∷ codes ":" ∷ codes "=" ∷ codes "(" ∷ codes "[" ∷ []

abbrev pub is_sign : List (List ℕ) → Piece → Bool
is_sign ts p = is_operator_kind p.kind && is_among ts p.text

-- two neighbours: with a blank between them, or told apart without one
abbrev pub fit : Piece → Piece → Bool
fit p q = not (touches p q) || stay_apart p q

abbrev pub all_fit : Piece → List Piece → Bool
all_fit p [] = true
all_fit p (q ∷ qs) = fit p q && all_fit q qs

-- pieces that fit, one after another
abbrev pub are_neat : List Piece → Bool
are_neat [] = true
are_neat (p ∷ ps) = all_fit p ps

-- the first piece is there, and passes; so is the last
abbrev pub begins_by : (Piece → Bool) → List Piece → Bool
begins_by f [] = false
begins_by f (p ∷ ps) = f p

abbrev pub ends_by : (Piece → Bool) → List Piece → Bool
ends_by f [] = false
ends_by f (p ∷ []) = f p
ends_by f (p ∷ q ∷ qs) = ends_by f (q ∷ qs)
