-- What begins a line at its place, in the program.
use Rattle.std.specs.Prelude.{ℕ, List, [], ◌∷◌, Bool, cond}
use Rattle.pytree_node.specs.declared.profiles.Profile.{Profile}
use Rattle.pytoken.specs.declared.keywords.Keyword.{Keyword}
use Rattle.pytoken.specs.Terminals.{Terminal, Ident, Word}
use Rattle.unicode_normalization.specs.Forms.{nfkc}
use Rattle.pygrammar.specs.Forms.{is_case_line}
use Rattle.pygrammar.specs.LineReader as reader
use Rattle.pygrammar.specs.LineReader.{is_match_line}
use Rattle.pyparse_line.specs.declared.openings.Opening.{Opening}
use Rattle.pyparse_line.specs.declared.openings.Opening.TheVariants as kind

-- as the reader has it, of a line that is no header of a `match` or a case
abbrev pub plain_opening : reader.Opening → Opening
plain_opening reader.Decorates = kind.Decorates
plain_opening reader.Heads = kind.Heads
plain_opening reader.States = kind.States

abbrev pub word_opening : Keyword → Opening
word_opening w = plain_opening (reader.opening (Word w))

abbrev pub terminal_opening : Terminal → Opening
terminal_opening t = plain_opening (reader.opening t)

-- a NAME of this text
abbrev pub name_of : List ℕ → Terminal
name_of text = Ident (record { spelling = text; form = nfkc text })

-- of a line at its place
abbrev pub opening_at : Profile → Bool → List Terminal → Opening
opening_at profile inside [] = kind.States
opening_at profile inside (t ∷ r) = cond (is_case_line profile inside (t ∷ r)) kind.Cases
    (cond (is_match_line profile (t ∷ r)) kind.Matches (terminal_opening t))
