-- An f-string isn't plain.
--
-- Carries: formatted_said, for Numbers. On: Terminals.
use Rattle.std.proofs.Common.{◌≡◌, refl, ℕ, true, false, List, Option, Some, None}
use Rattle.std.specs.List.{list_all}
use Rattle.pylex_listing.specs.declared.kind.Kind.{Kind}
use Rattle.pytree_node.specs.declared.profiles.Extent.TheVariants.{Whole}
use Rattle.pytoken.specs.FormattedStrings.{Element, is_fstring, elements_of, elements_fault}
use Rattle.pytoken.specs.Terminals.{elements_terminals, terminals_by, fault_by, terminals_of, fault_of}
use Rattle.pytoken.specs.Terminals.{expression, is_faulty}
use Rattle.pygrammar.proofs.Plain.Terminals.{is_terminal_plain}

elements_said : (t : List ℕ) (o : Option (List Element)) → elements_fault is_faulty t o ≡ None
    → list_all is_terminal_plain (elements_terminals expression o) ≡ false
unfolding elements_fault
elements_said t None none = absurd cc
elements_said t (Some es) none = refl

-- it begins as an f-string, where it has no fault
pub formatted_said : (k : Kind) (t : List ℕ) → is_fstring k t ≡ true → fault_of Whole k t ≡ None
    → list_all is_terminal_plain (terminals_of k t) ≡ false
unfolding terminals_by fault_by fault_of
formatted_said k t is none = rw is (elements_said t (elements_of false t) (rw is at none))
