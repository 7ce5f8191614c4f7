-- The lexeme at the front of a text that begins with a whole one, by what stands after that.
--
-- Carries: leaves, run_ends, blanks_front and 1 more, for NameFronts, LineCuts,
-- NumberFronts, OperatorFronts and 2 more.
use Rattle.std.proofs.Common.{◌≡◌, ℕ, Bool, true, false, List, [], ◌∷◌, ◌++◌, length, drop, refl, ◌∙◌, ap, subst, suc}
use Rattle.std.proofs.Common.{Some}
use Rattle.std.proofs.Common.{add-one, add_comm}
use Rattle.std.specs.List.{list_all, prefix_len}
use Rattle.std.proofs.Math.Seq.{drop-append_seam}
use Rattle.std.proofs.lemmas.Bool.{and_parts}
use Rattle.pylex_lexeme.specs.declared.lexeme.Class.{Class}
use Rattle.pylex_lexeme.specs.declared.lexeme.Class.TheVariants.{Blanks, LineEnd}
use Rattle.pylex_lexeme.specs.Chars.{begins, is_blank_char}
use Rattle.pylex_lexeme.specs.Lexemes.{lexeme_at}
use Rattle.pylex_lexeme.specs.Cuts.{TakesLexeme}
use Rattle.pylex_lexeme.proofs.Callers.Lexemes.{blanks_take, feed_takes}
use Rattle.pyfstring_tokens.proofs.Callers.Lexemes.{is_lexeme}

pub leaves : (t r : List ℕ) (k : Class) (n : ℕ) → n ≡ length t → TakesLexeme (t ++ r) (Some k) (drop n (t ++ r))
    → TakesLexeme (t ++ r) (Some k) r
leaves t r k n e h = subst (TakesLexeme (t ++ r) (Some k)) (ap (λ i. drop i (t ++ r)) e ∙ drop-append_seam t r) h

-- A run of characters of a set ends where another stands.
pub run_ends : (p : ℕ → Bool) (t r : List ℕ) → list_all p t ≡ true → begins p r ≡ false → prefix_len p (t ++ r) ≡ length t
run_ends p [] [] a b = refl
run_ends p [] (c ∷ r) a b = rw b refl
run_ends p (c ∷ t) r a b =
    let q = and_parts (p c) (list_all p t) a in
    rw (q.0, add_comm, add-one) (ap suc (run_ends p t r q.1 b))

-- Blanks and line ends
pub blanks_front : (t r : List ℕ) → list_all is_blank_char t ≡ true → begins is_blank_char t ≡ true → begins is_blank_char r ≡ false
    → lexeme_at (t ++ r) ≡ Some (record { «class» = Blanks; text = t })
blanks_front [] r a s b = cc
blanks_front (c ∷ t) r a s b =
    is_lexeme (c ∷ t) r Blanks
    (leaves (c ∷ t) r Blanks (prefix_len is_blank_char (c ∷ t ++ r)) (run_ends is_blank_char (c ∷ t) r a b) (blanks_take (c ∷ t ++ r) s))

pub feed_front : (r : List ℕ) → lexeme_at (10 ∷ r) ≡ Some (record { «class» = LineEnd; text = 10 ∷ [] })
feed_front r = is_lexeme (10 ∷ []) r LineEnd (feed_takes (10 ∷ r) refl)
