-- Carries: push, fault_beside. On: an entry that has an exact type is an operator, and has no fault; nor has one that stands in no line.
use Rattle.std.proofs.Common.{false, ◌≡◌, ℕ, List, [], ◌∷◌, refl, sym, ap, ◌∙◌, Option, Some, None}
use Rattle.pylex_lexeme.specs.declared.kinds.Exact.{Exact}
use Rattle.pylex_lexeme.specs.Operators.{exact_of}
use Rattle.pylex_listing.specs.declared.kind.Kind.{Kind}
use Rattle.pylex_listing.specs.declared.kind.Kind.TheVariants as kinds
use Rattle.pylex_listing.specs.declared.entries.Entry.{Entry}
use Rattle.pylex_listing.specs.Laws.{HasExact}
use Rattle.pytree_node.specs.declared.profiles.Extent.{Extent}
use Rattle.pytoken.specs.Terminals
use Rattle.pytoken.specs.Terminals.{terminal_of, terminals_of, single_fault, fault_of, expression}
use Rattle.pytoken.specs.Tokens.{text_of}
use Rattle.pytoken.specs.Refusals.{entry_refusal}
use Rattle.pyparse_tokens.specs.declared.open_line.OpenLine.{OpenLine}
use Rattle.pyparse_tokens.specs.Inner.OpenLines.{Pushes}
use Rattle.pyparse_tokens.specs.Inner.LineGathering.{stands_in_line, Adds}
use Rattle.pytoken.proofs.Callers.Singles.{of_single, one_terminal}
use Rattle.pyparse_tokens.proofs.TerminalLemmas.{no_refusal, pushed_adds}

-- an entry is an operator of this exact type
pub record IsOperator (text : List ℕ) (e : Entry) (x : Exact) : Type 0 where
  pub kind : e.kind ≡ kinds.Op
  pub exact : exact_of (text_of text e) ≡ Some x

abbrev exact_by : Option Exact → Kind → Option Exact
exact_by own k = elim k [ kinds.Op ↦ own | _ ↦ None ]

operator_kind : (k : Kind) (own : Option Exact) (x : Exact) → Some x ≡ exact_by own k → (k ≡ kinds.Op) × (own ≡ Some x)
operator_kind kinds.Op own x h = (refl, sym h)
operator_kind kinds.Name own x h = absurd cc
operator_kind kinds.Number own x h = absurd cc
operator_kind kinds.String own x h = absurd cc
operator_kind kinds.Comment own x h = absurd cc
operator_kind kinds.Nl own x h = absurd cc
operator_kind kinds.Newline own x h = absurd cc
operator_kind kinds.Indent own x h = absurd cc
operator_kind kinds.Dedent own x h = absurd cc
operator_kind kinds.EndMarker own x h = absurd cc
operator_kind kinds.Encoding own x h = absurd cc

is_operator : (text : List ℕ) (e : Entry) (x : Exact) → HasExact text e → e.exact ≡ Some x → IsOperator text e x
is_operator text e x has is =
    let own : Some x ≡ exact_by (exact_of (text_of text e)) e.kind = sym is ∙ has in
    let parts = operator_kind e.kind (exact_of (text_of text e)) x own in
    record { kind = parts.0; exact = parts.1 }

-- it has no fault
none_of : (extent : Extent) (t : List ℕ) → fault_of extent kinds.Op t ≡ None
unfolding single_fault
none_of extent t = of_single extent kinds.Op t refl

pub operator_faultless : (extent : Extent) (text : List ℕ) (e : Entry) (x : Exact) → HasExact text e → e.exact ≡ Some x
    → entry_refusal extent text e ≡ None
operator_faultless extent text e x has is =
    let own = is_operator text e x has is in
    no_refusal extent text e (ap (λ (k : Kind). fault_of extent k (text_of text e)) own.kind ∙ none_of extent (text_of text e))

-- what it is
one_operator : (t : List ℕ) (x : Exact) → exact_of t ≡ Some x → terminals_of kinds.Op t ≡ Terminals.Op x ∷ []
unfolding terminal_of
one_operator t x is = one_terminal false expression kinds.Op t refl ∙ (rw (is, terminal_of) refl)

pub operator_adds : (text : List ℕ) (e : Entry) (x : Exact) (old new : OpenLine) → HasExact text e → e.exact ≡ Some x →
    Pushes e.start (text_of text e) (Terminals.Op x ∷ []) old new → Adds text e old new
operator_adds text e x old new has is pushes =
    let own = is_operator text e x has is in
    let same : Terminals.Op x ∷ [] ≡ terminals_of e.kind (text_of text e) =
    sym (ap (λ (k : Kind). terminals_of k (text_of text e)) own.kind ∙ one_operator (text_of text e) x own.exact) in
    pushed_adds text e (Terminals.Op x ∷ []) old new (ap stands_in_line own.kind) same pushes

-- an entry that stands in no line has none, but for a comment
beside_none : (extent : Extent) (k : Kind) (t : List ℕ) → stands_in_line k ≡ false → (k ≡ kinds.Comment → ⊥) → fault_of extent k t ≡ None
unfolding single_fault
beside_none extent kinds.Comment t beside other = absurd (other refl)
beside_none extent kinds.Nl t beside other = of_single extent kinds.Nl t refl
beside_none extent kinds.Newline t beside other = of_single extent kinds.Newline t refl
beside_none extent kinds.Indent t beside other = of_single extent kinds.Indent t refl
beside_none extent kinds.Dedent t beside other = of_single extent kinds.Dedent t refl
beside_none extent kinds.EndMarker t beside other = of_single extent kinds.EndMarker t refl
beside_none extent kinds.Encoding t beside other = of_single extent kinds.Encoding t refl
beside_none extent kinds.Name t beside other = absurd cc
beside_none extent kinds.Number t beside other = absurd cc
beside_none extent kinds.String t beside other = absurd cc
beside_none extent kinds.Op t beside other = absurd cc

pub beside_faultless : (extent : Extent) (text : List ℕ) (e : Entry) → stands_in_line e.kind ≡ false → (e.kind ≡ kinds.Comment → ⊥)
    → entry_refusal extent text e ≡ None
beside_faultless extent text e beside other =
    no_refusal extent text e (beside_none extent e.kind (text_of text e) beside other)
