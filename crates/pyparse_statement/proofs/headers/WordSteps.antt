-- A word at a place.
--
-- Carries: word_at. On: Views.
use Rattle.std.proofs.Common.{◌≡◌, sym, ap, ◌∙◌, ℕ, ◌+◌, ◌<◌, List, ◌∷◌, length, Option, Some, None, MatchOption}
use Rattle.pytoken.specs.declared.keywords.Keyword.{Keyword}
use Rattle.pytoken.specs.Terminals.{Terminal, Word}
use Rattle.pytoken.specs.declared.values.terminals.Terminal as given
use Rattle.pygrammar.specs.Reader.{on_some}
use Rattle.pyparse_nodes.specs.Views.{Stands, first_is, first_of, seen}
use Rattle.pyparse_reads.proofs.Callers.Looks.{front}
use Rattle.pyparse_statement.specs.Inner.Words.{word_in}

is_word : (w : Keyword) (t : Terminal) → Some w ≡ word_in t → t ≡ Word w
is_word w (Word x) h = cc
is_word w _ h = absurd (cc)

pub word_stands : (ts : List given.Terminal) (at : ℕ) (t : Terminal) (o : Option Keyword) → at < length ts → first_of (seen ts at) ≡ Some t
    → o ≡ word_in t → MatchOption o (None ≡ first_is word_in (seen ts at)) (λ w. Stands (Word w) ts at)
word_stands ts at t None l h q = q ∙ ap (λ f. on_some f word_in None) (sym h)
word_stands ts at t (Some w) l h q = record { within = l; is = front ts at t h ∙ ap (λ z. z ∷ seen ts (at + 1)) (is_word w t q) }
