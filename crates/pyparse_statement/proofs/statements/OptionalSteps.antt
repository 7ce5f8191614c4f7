-- Where expressions begin, and one after a mark.
--
-- Carries: starts_expression, starts_stars, stars_or_none, after_sign, after_word.
-- On: LineReader, Precedence.
use Rattle.std.proofs.Common.{◌≡◌, refl, sym, ap, ◌∙◌, arith, ℕ, ◌+◌, ◌≤◌, ◌<◌, List, [], ◌∷◌, Option, Some, None, true, false, cond}
use Rattle.std.proofs.Common.{length, leb}
use Rattle.std.proofs.lemmas.Bool.{le-leb, lt-leb}
use Rattle.pylex_lexeme.specs.declared.kinds.Exact.{Exact}
use Rattle.pytree_node.specs.Trees.{Expr}
use Rattle.pytoken.specs.declared.keywords.Keyword.{Keyword}
use Rattle.pytoken.specs.Terminals.{Op, Terminal, Word}
use Rattle.pytoken.specs.declared.values.terminals.Terminal as given
use Rattle.pygrammar.specs.declared.levels.Level.{Level}
use Rattle.pygrammar.specs.declared.levels.Level.TheVariants.{Expression, Stars}
use Rattle.pygrammar.specs.Entries.{Of}
use Rattle.pygrammar.specs.LineReader.{after, if_any}
use Rattle.pygrammar.specs.Looks.{is_op, is_word}
use Rattle.pygrammar.specs.Precedence.{starts}
use Rattle.pygrammar.specs.Reader.{Answer, Found, Reads, and_then, on_first, on_some}
use Rattle.pygrammar.proofs.Callers.Terminals.{op_is, word_is}
use Rattle.pyparse_nodes.specs.declared.stop.Stop.{Stop}
use Rattle.pyparse_nodes.specs.Answers.{Failed, PartAt}
use Rattle.pyparse_nodes.specs.Views.{Stands, first_is, lead_of, seen}
use Rattle.pyparse_reads.proofs.Callers.Looks.{failed_then, first_miss}

expression_lead : (r : List Terminal) → starts (Of Expression) r ≡ leb 9 (lead_of r)
expression_lead [] = refl
expression_lead (t ∷ r) = refl

stars_lead : (r : List Terminal) → starts (Of Stars) r ≡ leb 7 (lead_of r)
stars_lead [] = refl
stars_lead (t ∷ r) = refl

pub expression_high : (r : List Terminal) → 9 ≤ lead_of r → starts (Of Expression) r ≡ true
expression_high r h = expression_lead r ∙ le-leb 9 (lead_of r) h

pub expression_low : (r : List Terminal) → lead_of r < 9 → starts (Of Expression) r ≡ false
expression_low r h = expression_lead r ∙ lt-leb 9 (lead_of r) h

pub stars_high : (r : List Terminal) → 7 ≤ lead_of r → starts (Of Stars) r ≡ true
stars_high r h = stars_lead r ∙ le-leb 7 (lead_of r) h

pub stars_low : (r : List Terminal) → lead_of r < 7 → starts (Of Stars) r ≡ false
stars_low r h = stars_lead r ∙ lt-leb 7 (lead_of r) h

-- what is read, if anything begins
module _ (ts : List given.Terminal) (self : Reads) (l : Level) (at : ℕ) where
  pub any_absent : starts (Of l) (seen ts at) ≡ false → at ≤ length ts → PartAt ts at (if_any self l (seen ts at)) None at
  any_absent h w = record {
    ahead = omega arith;
    within = w;
    is = ap (λ b. cond b (and_then (self l (seen ts at)) (λ e r. Found (Some e) r)) (Found None (seen ts at))) h;
  }

  some_is : starts (Of l) (seen ts at) ≡ true → if_any self l (seen ts at) ≡ and_then (self l (seen ts at)) (λ e r. Found (Some e) r)
  some_is h = ap (λ b. cond b (and_then (self l (seen ts at)) (λ e r. Found (Some e) r)) (Found None (seen ts at))) h

  pub any_failed : starts (Of l) (seen ts at) ≡ true → (e : Stop) → Failed e (self l (seen ts at)) → Failed e (if_any self l (seen ts at))
  any_failed h e f = rw (some_is h) (failed_then e (self l (seen ts at)) (λ e r. Found (Some e) r) f)

  pub any_found : starts (Of l) (seen ts at) ≡ true → (e : Expr) (o : Option Expr) (n m : ℕ) → self l (seen ts at) ≡ Found e (seen ts n)
      → at ≤ n → n ≤ length ts → o ≡ Some e → m ≡ n → PartAt ts at (if_any self l (seen ts at)) o m
  any_found h e o n m f le w p q = record {
    ahead = omega (arith, le, q);
    within = omega (arith, w, q);
    is = some_is h ∙ ap (λ y. and_then y (λ e r. Found (Some e) r)) f ∙ ap (λ y. Found y (seen ts n)) (sym p)
        ∙ ap (λ k. Found o (seen ts k)) (sym q);
  }

-- what is read after a mark, where it stands
module _ (ts : List given.Terminal) (self : Reads) (t : Terminal) (l : Level) (at : ℕ) where
  module _ (h : after self t l (seen ts at) ≡ and_then (self l (seen ts (at + 1))) (λ e r. Found (Some e) r)) where
    pub after_failed : (e : Stop) → Failed e (self l (seen ts (at + 1))) → Failed e (after self t l (seen ts at))
    after_failed e f = rw h (failed_then e (self l (seen ts (at + 1))) (λ e r. Found (Some e) r) f)

    pub after_found : (e : Expr) (o : Option Expr) (n m : ℕ) → self l (seen ts (at + 1)) ≡ Found e (seen ts n) → at ≤ n → n ≤ length ts
        → o ≡ Some e → m ≡ n → PartAt ts at (after self t l (seen ts at)) o m
    after_found e o n m f le w p q = record {
      ahead = omega (arith, le, q);
      within = omega (arith, w, q);
      is = h ∙ ap (λ y. and_then y (λ e r. Found (Some e) r)) f ∙ ap (λ y. Found y (seen ts n)) (sym p)
          ∙ ap (λ k. Found o (seen ts k)) (sym q);
    }

module _ (ts : List given.Terminal) (self : Reads) (l : Level) (at : ℕ) where
  pub sign_absent : (s : Exact) → None ≡ first_is (is_op s) (seen ts at) → at ≤ length ts
      → PartAt ts at (after self (Op s) l (seen ts at)) None at
  sign_absent s h w = record { ahead = omega arith; within = w; is = first_miss (is_op s) (seen ts at) _ (Found None (seen ts at)) h }

  pub word_absent : (s : Keyword) → None ≡ first_is (is_word s) (seen ts at) → at ≤ length ts
      → PartAt ts at (after self (Word s) l (seen ts at)) None at
  word_absent s h w = record { ahead = omega arith; within = w; is = first_miss (is_word s) (seen ts at) _ (Found None (seen ts at)) h }

  abbrev some : List Terminal → Answer (Option Expr)
  some r = and_then (self l r) (λ e r1. Found (Some e) r1)

  pub sign_stands : (s : Exact) → Stands (Op s) ts at → after self (Op s) l (seen ts at) ≡ some (seen ts (at + 1))
  sign_stands s h =
      ap (λ i. on_first (is_op s) i (λ _ r. some r) (Found None (seen ts at))) h.is
      ∙ ap (λ o. on_some o (λ _. some (seen ts (at + 1))) (Found None (seen ts at))) (op_is s)

  pub word_stands : (s : Keyword) → Stands (Word s) ts at → after self (Word s) l (seen ts at) ≡ some (seen ts (at + 1))
  word_stands s h =
      ap (λ i. on_first (is_word s) i (λ _ r. some r) (Found None (seen ts at))) h.is
      ∙ ap (λ o. on_some o (λ _. some (seen ts (at + 1))) (Found None (seen ts at))) (word_is s)
