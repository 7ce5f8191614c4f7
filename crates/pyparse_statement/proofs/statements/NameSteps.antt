-- Names, and the name after an `as`.
--
-- Carries: read_name, read_as. On: LineReader.
use Rattle.std.proofs.Common.{◌≡◌, refl, sym, ap, ◌∙◌, arith, ℕ, ◌+◌, ◌≤◌, ◌<◌, List, Some, None, length}
use Rattle.pytree_node.specs.Trees.{Identifier}
use Rattle.pytoken.specs.declared.keywords.Keyword.TheVariants.{As}
use Rattle.pytoken.specs.Terminals.{Word}
use Rattle.pytoken.specs.declared.values.terminals.Terminal as given
use Rattle.pygrammar.specs.LineReader.{read_as, read_name}
use Rattle.pygrammar.specs.Looks.{is_word, name_in}
use Rattle.pygrammar.specs.Reader.{Found, NoForm, on_first}
use Rattle.pyparse_nodes.specs.Answers.{PartAt}
use Rattle.pyparse_nodes.specs.Views.{Stands, first_is, seen}
use Rattle.pyparse_reads.proofs.Callers.Looks.{first_miss}
use Rattle.pyparse_statement.proofs.Callers.Parts.{name_next}

module _ (ts : List given.Terminal) (at : ℕ) where
  pub name_missing : None ≡ first_is name_in (seen ts at) → read_name (seen ts at) ≡ NoForm
  name_missing h = first_miss name_in (seen ts at) (λ x r. Found x r) NoForm h

  pub name_found : (x y : Identifier) → Some x ≡ first_is name_in (seen ts at) → y ≡ x → at < length ts
      → PartAt ts (at + 1) (read_name (seen ts at)) y (at + 1)
  name_found x y h e w = record {
    ahead = omega arith;
    within = omega (arith, w);
    is = name_next ts at x (λ z r. Found z r) NoForm h ∙ ap (λ z. Found z (seen ts (at + 1))) (sym e);
  }

  pub as_absent : None ≡ first_is (is_word As) (seen ts at) → at ≤ length ts → PartAt ts at (read_as (seen ts at)) None at
  as_absent h w = record {
    ahead = omega arith;
    within = w;
    is = first_miss (is_word As) (seen ts at) (λ _ r. on_first name_in r (λ x r1. Found (Some x) r1) NoForm) (Found None (seen ts at)) h;
  }

  module _ (s : Stands (Word As) ts at) where
    named : read_as (seen ts at) ≡ on_first name_in (seen ts (at + 1)) (λ x r. Found (Some x) r) NoForm
    named = rw s.is refl

    pub as_missing : None ≡ first_is name_in (seen ts (at + 1)) → read_as (seen ts at) ≡ NoForm
    as_missing h = named ∙ first_miss name_in (seen ts (at + 1)) (λ x r. Found (Some x) r) NoForm h

    pub as_found : (x y : Identifier) → Some x ≡ first_is name_in (seen ts (at + 1)) → y ≡ x → at + 1 < length ts
        → PartAt ts at (read_as (seen ts at)) (Some y) (at + 2)
    as_found x y h e w = record {
      ahead = omega arith;
      within = omega (arith, w);
      is = named ∙ name_next ts (at + 1) x (λ z r. Found (Some z) r) NoForm h ∙ ap (λ z. Found (Some z) (seen ts (at + 1 + 1))) (sym e)
          ∙ ap (λ n. Found (Some y) (seen ts n)) two;
    }
      where
        two : at + 1 + 1 ≡ at + 2
        two = omega arith
