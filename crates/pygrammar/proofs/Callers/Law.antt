-- On: the laws of the grammar of expressions.
--
-- Carries: what pyparse_expr, pyparse, pyunparse_text cite.
use Rattle.std.proofs.Common.{◌≡◌, ◌⊎◌, inl, inr, refl, sym, ◌∙◌, suc, [], ◌∷◌, length}
use Rattle.pytree_node.specs.Trees.{Expr}
use Rattle.pygrammar.specs.Grammar.{Derives}
use Rattle.pygrammar.specs.Reader.{Answer, Found, NoForm, TooDeep, reads}
use Rattle.pygrammar.specs.Meets.{Shapeless}
use Rattle.pygrammar.specs.Laws.{ExpressionsAreUnique, ExpressionsAreDecided, HeightsAreBounded, ReaderIsExact, LimitIsExact, LimitMeets}
use Rattle.pygrammar.specs.Laws.{GrammarIsLawful}
use Rattle.pygrammar.proofs.Answers.{rest_found}
use Rattle.pygrammar.proofs.Completeness.Complete
use Rattle.pygrammar.proofs.Depths.Whole
use Rattle.pygrammar.proofs.Heights.Bound
use Rattle.pygrammar.proofs.Heights.Contract

pub expressions_are_unique : ExpressionsAreUnique
expressions_are_unique l ts a b p q = Complete.one_tree p q

pub expressions_are_decided : ExpressionsAreDecided
expressions_are_decided l ts = by_answer (reads l ts) refl
  where
    by_answer : (x : Answer Expr) → reads l ts ≡ x → ((e : Expr) × Derives l ts e) ⊎ Shapeless l ts
    by_answer (Found e []) h = inl (e, (Whole.exactly l ts e).1 h)
    by_answer (Found a (t ∷ r)) h = inr (λ e p. rest_found a e t r (sym h ∙ Whole.reads_all p))
    by_answer NoForm h = inr (λ e p. Whole.no_tree (suc (length ts)) l ts e h p)
    by_answer TooDeep h = absurd (Whole.answered l ts h)

pub heights_are_bounded : HeightsAreBounded
heights_are_bounded l ts e p = Bound.tall p

pub reader_is_exact : ReaderIsExact
reader_is_exact = Whole.exactly

pub limit_is_exact : LimitIsExact
limit_is_exact = Contract.limit_exactly

pub limit_meets : LimitMeets
limit_meets = Contract.meets

pub grammar_is_lawful : GrammarIsLawful
grammar_is_lawful = record {
  unique = expressions_are_unique;
  decided = expressions_are_decided;
  bounded = heights_are_bounded;
  exact = reader_is_exact;
  limited = limit_is_exact;
  meets = limit_meets;
}
