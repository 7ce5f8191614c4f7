-- Which tokens lines of pieces are, and when they are: each line's brackets are closed within it, and no line is more than a level deeper
-- than the one before.
use Rattle.std.specs.Prelude.{◌≡◌, ℕ, ◌+◌, ◌-◌, ◌*◌, nat_le, nat_lt, Bool, true, not, ◌&&◌, ◌==◌, List, [], ◌∷◌, ◌++◌, map, replicate}
use Rattle.std.specs.Prelude.{if◌then◌else◌}
use Rattle.std.specs.Prelude.{false, Option, Some, None}
use Rattle.std.specs.List.{list_all}
use Rattle.std.specs.Str.{all_scalars}
use Rattle.pylex_lexeme.specs.Characters.{line_feed, space}
use Rattle.pylex_listing.specs.declared.kind.Kind.{Kind}
use Rattle.pylex_listing.specs.declared.kind.Kind.TheVariants as kinds
use Rattle.pylex_listing.specs.declared.entries.Entry.{Entry}
use Rattle.pylex_listing.specs.declared.entries.Step.TheVariants as steps
use Rattle.pylex_lexeme.specs.declared.kinds.Exact.{Exact}
use Rattle.pylex_lexeme.specs.Operators.{exact_of, is_opener, is_closer}
use Rattle.pylex_listing.specs.Listing.{Source, origin, listing}
use Rattle.pylex_listing.specs.Steps.{entries_of, mark}
use Rattle.pytoken.specs.Tokens as source
use Rattle.pytoken.specs.Indentation.{Margin, margins}
use Rattle.pyunparse_text.specs.Spacing.{Piece, Line, is_operator_kind, are_readable}

-- a token without its place: its kind and text
pub record PlainToken : Type 0 where
  pub kind : Kind
  pub text : List ℕ

-- the token of an entry of a text, by its place in the text's bytes
abbrev pub token_at : List ℕ → Entry → PlainToken
token_at text e = record { kind = e.kind; text = source.text_of text e }

-- which operator a token is
abbrev pub exact_in : PlainToken → Option Exact
exact_in t = elim t.kind [ kinds.Op ↦ exact_of t.text | _ ↦ None ]

abbrev pub token_of : Piece → PlainToken
token_of p = record { kind = p.kind; text = p.text }

-- a logical line without places: its level, and its tokens up to its NEWLINE
pub record PlainLine : Type 0 where
  pub level : ℕ
  pub tokens : List PlainToken

-- a token and a line of a source without their places
abbrev pub unplaced : source.Token → PlainToken
unplaced t = record { kind = t.kind; text = t.text }

abbrev pub unplaced_line : source.Line → PlainLine
unplaced_line l = record { level = l.level; tokens = map unplaced l.tokens }

-- a written line as one of tokens
abbrev pub token_line : Line → PlainLine
token_line l = record { level = l.level; tokens = map token_of l.pieces }

abbrev pub newline : PlainToken
newline = record { kind = kinds.Newline; text = line_feed ∷ [] }

abbrev pub indent : ℕ → PlainToken
indent n = record { kind = kinds.Indent; text = replicate (4 * n) space }

abbrev pub dedent : PlainToken
dedent = record { kind = kinds.Dedent; text = [] }

abbrev pub end_marker : PlainToken
end_marker = record { kind = kinds.EndMarker; text = [] }

-- what stands before a line of level n that follows one of level m
abbrev pub level_tokens : ℕ → ℕ → List PlainToken
level_tokens m n = if nat_lt m n then indent n ∷ [] else replicate (m - n) dedent

abbrev pub line_tokens : ℕ → Line → List PlainToken
line_tokens m l = level_tokens m l.level ++ (map token_of l.pieces ++ newline ∷ [])

-- the tokens of lines that follow a line of level m, to the end
abbrev pub tokens_after : ℕ → List Line → List PlainToken
tokens_after m [] = replicate m dedent ++ end_marker ∷ []
tokens_after m (l ∷ ls) = line_tokens m l ++ tokens_after l.level ls

-- a text that is an opening bracket, and a closing one
abbrev pub is_opening : List ℕ → Bool
is_opening t = elim (exact_of t) [ Some e ↦ is_opener e | None ↦ false ]

abbrev pub is_closing : List ℕ → Bool
is_closing t = elim (exact_of t) [ Some e ↦ is_closer e | None ↦ false ]

abbrev pub opens : Piece → Bool
opens p = is_operator_kind p.kind && is_opening p.text

abbrev pub closes : Piece → Bool
closes p = is_operator_kind p.kind && is_closing p.text

-- with d brackets open before them, the pieces close these and their own
abbrev pub closes_all : ℕ → List Piece → Bool
closes_all d [] = d == 0
closes_all d (p ∷ ps) =
    if opens p then closes_all (d + 1) ps else (if closes p then not (d == 0) && closes_all (d - 1) ps else closes_all d ps)

-- no line is more than a level deeper than the one before it; the one before the first is of level m
abbrev pub rise_by_one : ℕ → List Line → Bool
rise_by_one m [] = true
rise_by_one m (l ∷ ls) = nat_le l.level (m + 1) && rise_by_one l.level ls

-- a line that can be read back
abbrev pub is_written : Line → Bool
is_written l = are_readable l.pieces && (closes_all 0 l.pieces && list_all (λ p. all_scalars p.text) l.pieces)

abbrev pub are_written : List Line → Bool
are_written ls = list_all is_written ls && rise_by_one 0 ls

-- with d brackets open before the pieces, no more than so many are ever open at once
abbrev pub opens_within : ℕ → ℕ → List Piece → Bool
opens_within most d [] = true
opens_within most d (p ∷ ps) =
    if opens p then nat_lt d most && opens_within most (d + 1) ps
    else (if closes p then opens_within most (d - 1) ps else opens_within most d ps)

-- the blanks that a line begins with are as wide, whichever way tabs count
abbrev pub is_even : Margin → Bool
is_even m = m.widths.eight == m.widths.one

-- A source is listed as these tokens: ENCODING, their entries, and the end. The entries say which operators the tokens are, and lines begin
-- with
-- blanks that are as wide, whichever way tabs count.
pub record IsListedAs (s : Source) (ts : List PlainToken) : Type 0 where
  pub entries : List Entry
  pub listed : listing s ≡ mark kinds.Encoding [] origin origin ∷ (map steps.Entry entries ++ steps.End ∷ [])
  pub tokens : map (token_at s.text) entries ≡ ts
  pub exacts : map (λ e. e.exact) entries ≡ map exact_in ts
  pub even : list_all is_even (margins s.text (entries_of (listing s))) ≡ true
