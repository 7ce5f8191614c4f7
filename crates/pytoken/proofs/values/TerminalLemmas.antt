-- Carries: terminal_of. On: the terminal of a token and its fault, by its type.
use Rattle.std.proofs.Common.{◌≡◌, ℕ, List, refl, Some, None}
use Rattle.std.specs.Str.{encode_utf8_all}
use Rattle.pylex_lexeme.specs.declared.kinds.Exact.{Exact}
use Rattle.pylex_lexeme.specs.Operators.{exact_of}
use Rattle.pylex_listing.specs.declared.kind.Kind.{Kind}
use Rattle.pylex_listing.specs.declared.kind.Kind.TheVariants as kinds
use Rattle.pytree_node.specs.declared.profiles.Extent.{Extent}
use Rattle.pytoken.specs.Terminals.{Op, Layout, terminal_of, single_fault}
use Rattle.pytoken.specs.TerminalOf.{named, numbered, quoted}

pub of_name : (k : Kind) (t : List ℕ) → k ≡ kinds.Name → named t ≡ terminal_of k t
unfolding terminal_of
of_name k t is = rw is refl

pub of_number : (k : Kind) (t : List ℕ) → k ≡ kinds.Number → numbered (encode_utf8_all t) ≡ terminal_of k t
unfolding terminal_of
of_number k t is = rw is refl

pub of_string : (k : Kind) (t : List ℕ) → k ≡ kinds.String → quoted t ≡ terminal_of k t
unfolding terminal_of
of_string k t is = rw is refl

pub of_op : (k : Kind) (t : List ℕ) → k ≡ kinds.Op → terminal_of kinds.Op t ≡ terminal_of k t
of_op k t is = rw is refl

pub of_comment : (k : Kind) (t : List ℕ) → k ≡ kinds.Comment → Layout ≡ terminal_of k t
unfolding terminal_of
of_comment k t is = rw is refl

pub of_some : (t : List ℕ) (x : Exact) → exact_of t ≡ Some x → Op x ≡ terminal_of kinds.Op t
unfolding terminal_of
of_some t x is = rw (is, terminal_of) refl

pub of_none : (t : List ℕ) → exact_of t ≡ None → Layout ≡ terminal_of kinds.Op t
unfolding terminal_of
of_none t is = rw (is, terminal_of) refl

pub faultless : (extent : Extent) (k : Kind) (t : List ℕ) → k ≡ kinds.Op → None ≡ single_fault extent k t
unfolding single_fault
faultless extent k t is = rw is refl

pub of_other : (k : Kind) (t : List ℕ) → (k ≡ kinds.Name → ⊥) → (k ≡ kinds.Number → ⊥) → (k ≡ kinds.String → ⊥) → (k ≡ kinds.Op → ⊥) →
    Layout ≡ terminal_of k t
unfolding terminal_of
of_other kinds.Name t name number string op = absurd (name refl)
of_other kinds.Number t name number string op = absurd (number refl)
of_other kinds.String t name number string op = absurd (string refl)
of_other kinds.Op t name number string op = absurd (op refl)
of_other kinds.Encoding t name number string op = refl
of_other kinds.Comment t name number string op = refl
of_other kinds.Nl t name number string op = refl
of_other kinds.Newline t name number string op = refl
of_other kinds.Indent t name number string op = refl
of_other kinds.Dedent t name number string op = refl
of_other kinds.EndMarker t name number string op = refl
