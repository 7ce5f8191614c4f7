-- Literals that are open at the end of some lines.
use Rattle.std.specs.Prelude.{◌≡◌, ℕ, true, ◌==◌, List, drop}
use Rattle.pylex_lexeme.specs.Chars.{begins}
use Rattle.pylex_lexeme.specs.Strings.{opens_triple, quote_char}
use Rattle.pylex_lexeme.specs.Lexemes.{is_open_string}
use Rattle.pylex_lexeme.specs.Lengths.{Opens}
use Rattle.pylex_lexeme.specs.declared.string.OpenLiteral.{OpenLiteral}

-- a literal with this quote opens at the front of a text, in three quotes or in one, and is open up to the text's end
pub record IsOpenBy (o : OpenLiteral) (cs : List ℕ) : Type 0 where
  pub «prefix» : ℕ
  pub opens : Opens «prefix» cs
  pub here : begins (λ c. c == quote_char o.quote) (drop «prefix» cs) ≡ true
  pub triple : opens_triple cs ≡ o.triple
  pub unended : is_open_string cs ≡ true
