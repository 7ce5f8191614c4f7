-- What one pass over a listing gathers after some entries.
use Rattle.std.specs.Prelude.{◌≡◌, ℕ, List, [], ◌++◌, map}
use Rattle.pylex_listing.specs.declared.entries.Entry.{Entry}
use Rattle.pytoken.specs.Tokens
use Rattle.pytoken.specs.Tokens.{tokens_of_entry, tokens_from}
use Rattle.pytoken.specs.Refusals.{entry_refusal}
use Rattle.pyparse_tokens.specs.declared.gather.Gather.{Gather}
use Rattle.pyparse_tokens.specs.declared.tokens.Token.{Token}
use Rattle.pyparse_tokens.specs.Answers.{token_of}
use Rattle.pyparse_tokens.specs.Inner.Passing.{Gains, Passed}

-- tokens of the code with some more after them
abbrev pub Grows : List Token → List Token → List Tokens.Token → Type 0
Grows old new more = map token_of new ≡ map token_of old ++ more

-- what is gathered after one entry more
pub record Gathers (text : List ℕ) (e : Entry) (old new : Gather) : Type 0 where
  pub tokens : Grows old.tokens.items new.tokens.items (tokens_of_entry text old.pass.begun e)
  pub pass : Gains text e (entry_refusal old.pass.extent text e) old.pass new.pass

-- what is gathered is what the entries say
pub record Gathered (text : List ℕ) (es : List Entry) (g : Gather) : Type 0 where
  pub tokens : map token_of g.tokens.items ≡ tokens_from text [] es
  pub pass : Passed text es g.pass
