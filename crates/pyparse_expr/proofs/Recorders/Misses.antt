-- What doesn't stand at a place, as the lemmas on places take it.
--
-- Carries: listing, more_pairs, curly, read_slices, read_part, read_slice, comps.
use Rattle.std.proofs.Common.{◌≡◌, refl, sym, ap, ◌∙◌, ℕ, List, [], ◌∷◌, Option, Some, None, false}
use Rattle.pylex_lexeme.specs.declared.kinds.Exact.{Exact}
use Rattle.pylex_lexeme.specs.declared.kinds.Exact.TheVariants.{ColonEqual}
use Rattle.pytoken.specs.declared.keywords.Keyword.TheVariants as Key
use Rattle.pytoken.specs.Terminals.{Terminal, Spelled, Op, Word, Ident}
use Rattle.pygrammar.specs.Looks.{is_op, is_word}
use Rattle.pygrammar.specs.Precedence.{starts_comp}
use Rattle.pygrammar.specs.Reader.{on_name_with}
use Rattle.pyparse_nodes.specs.Views.{first_is}
use Rattle.pyplaces.specs.Rests.{Lacks}
use Rattle.pyplaces.proofs.Answers.{lacks_op}

pub lacks_sign : (r : List Terminal) (x : Exact) → None ≡ first_is (is_op x) r → Lacks (Op x) r
lacks_sign r x h = lacks_op x (λ t s q. sym (h ∙ ap (λ z. first_is (is_op x) z) q))

no_some : (f : List ℕ) → ◌≡◌ {A = Option (List ℕ)} None (Some f) → ⊥
no_some f h = absurd (cc)

-- no assignment expression stands there
pub not_named : (r : List Terminal) → None ≡ on_name_with ColonEqual r (λ x s. Some x) None → (x : Spelled) (s : List Terminal)
    → r ≡ Ident x ∷ (Op ColonEqual ∷ s) → ⊥
not_named r h x s q = no_some x.form (h ∙ ap (λ z. on_name_with ColonEqual z (λ y u. Some y) None) q)

-- no clause of a comprehension begins there
pub no_comp : (r : List Terminal) → None ≡ first_is (is_word Key.For) r → None ≡ first_is (is_word Key.Async) r → starts_comp r ≡ false
no_comp [] h k = refl
no_comp (Word Key.For ∷ r) h k = absurd (cc)
no_comp (Word Key.Async ∷ r) h k = absurd (cc)
no_comp (Word _ ∷ r) h k = refl
no_comp (_ ∷ r) h k = refl
