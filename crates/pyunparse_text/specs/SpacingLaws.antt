-- The law of written lines (reference 2.1).
use Rattle.std.specs.Prelude.{◌≡◌, ℕ, true, List, map, None, Ok, All}
use Rattle.std.specs.Str.{encode_utf8_all}
use Rattle.pysource.specs.Cookies.{plain}
use Rattle.pysource.specs.Parts.{Parts}
use Rattle.pysource.specs.Sources.{source_of}
use Rattle.pylex_listing.specs.Listing.{in_characters}
use Rattle.pyunparse_text.specs.Spacing.{Line, lines_text}
use Rattle.pyunparse_text.specs.Tokens.{tokens_after, opens_within, are_written, IsListedAs, unplaced, unplaced_line, token_line}
use Rattle.pytree_node.specs.declared.profiles.Extent.{Extent}
use Rattle.pytoken.specs.Terminals.{fault_of}
use Rattle.pytoken.specs.Tokens.{tokens, lines}
use Rattle.pytoken.specs.Refusals.{most_brackets, refusal}

-- Bytes are a source in UTF-8 without a mark, a cookie or a fault; it is listed as these lines, and its tokens and logical lines are
-- theirs.
pub record ReadsBack (bytes : List ℕ) (ls : List Line) : Type 0 where
  pub parts : Parts
  pub source : source_of bytes ≡ Ok parts
  pub encoding : parts.encoding ≡ plain
  pub text : parts.text ≡ bytes
  pub fault : parts.fault ≡ None
  pub listed : IsListedAs (in_characters parts) (tokens_after 0 ls)
  pub tokens : map unplaced (tokens (in_characters parts)) ≡ tokens_after 0 ls
  pub lines : map unplaced_line (lines (in_characters parts)) ≡ map token_line ls

-- The law of written lines: the UTF-8 of their text is read back as them.
abbrev pub WrittenIsRead : Type 0
WrittenIsRead = (ls : List Line) → are_written ls ≡ true → ReadsBack (encode_utf8_all (lines_text ls)) ls

-- No piece of a line has a fault in an extent of the language, and no more brackets are open at once than may be.
pub record IsClear (extent : Extent) (l : Line) : Type 0 where
  pub faultless : All (λ p. fault_of extent p.kind p.text ≡ None) l.pieces
  pub shallow : opens_within most_brackets 0 l.pieces ≡ true

-- What such lines are read back as isn't refused for its tokens in that extent.
abbrev pub WrittenIsClear : Type 0
WrittenIsClear = (extent : Extent) (ls : List Line) → are_written ls ≡ true → All (IsClear extent) ls
    → (back : ReadsBack (encode_utf8_all (lines_text ls)) ls)
    → refusal extent (in_characters back.parts) ≡ None
