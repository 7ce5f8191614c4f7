-- Statements that begin with a keyword.
--
-- Carries: simple.rt, word_statement. On: Looks, Says; Simple of pyplaces.
use Rattle.std.proofs.Common.{◌≡◌, refl, sym, ap, subst, ◌∙◌, ℕ, ◌+◌, List, map, Some, None, Result, Ok, Err}
use Rattle.std.specs.Prelude.{IfOk}
use Rattle.pytree_node.specs.declared.profiles.Profile.{Profile}
use Rattle.pytree_node.specs.Trees.{Assert, Break, Continue, Delete, Global, Identifier, Nonlocal, Pass, Raise, Return, Stmt}
use Rattle.pytree_node.specs.TreeOf.{boxed_of, stmt_of, tree_of}
use Rattle.pytoken.specs.declared.keywords.Keyword.{Keyword}
use Rattle.pytoken.specs.declared.keywords.Keyword.TheVariants as Key
use Rattle.pytoken.specs.Terminals.{Op, Terminal, Word}
use Rattle.pytoken.specs.declared.values.terminals.Terminal as given
use Rattle.pylex_lexeme.specs.declared.kinds.Exact.TheVariants.{Comma}
use Rattle.pygrammar.specs.declared.levels.Level.TheVariants.{Expression, Stars}
use Rattle.pygrammar.specs.LineReader.{always, commas_of, read_name}
use Rattle.pygrammar.specs.Reader.{Answer, Found, NoForm, TooDeep, and_then}
use Rattle.pyparse_nodes.specs.Answers.{PartAnswered, PartAt}
use Rattle.pyparse_nodes.specs.declared.found.Items.{Items}
use Rattle.pyparse_nodes.specs.declared.found.Optional.{Optional}
use Rattle.pyparse_nodes.specs.declared.found.Read.{Read}
use Rattle.pyparse_nodes.specs.declared.stop.Stop.{Stop}
use Rattle.pyparse_nodes.specs.Views.{Stands, seen}
use Rattle.pyplaces.specs.Placed.{Placed}
use Rattle.pyplaces.specs.PlacedForms.{PlacedFields}
use Rattle.pyplaces.specs.Recording.{Records}
use Rattle.pyplaces.specs.Stretches.{Stretch}
use Rattle.pyplaces.proofs.Answers.{read_from, records_more, records_none}
use Rattle.pyplaces.proofs.Forms.Simple.{placed_assert, placed_break, placed_continue, placed_delete, placed_global, placed_nonlocal}
use Rattle.pyplaces.proofs.Forms.Simple.{placed_pass, placed_raise, placed_raise_alone, placed_return}
use Rattle.pyparse_statement.specs.declared.statements.found.ReadStatement.{ReadStatement}
use Rattle.pyparse_statement.specs.PlacedParts.{AllDeletedPlaced, AfterPlaced, OptionalPlaced}
use Rattle.pyparse_statement.specs.PlacedStatements.{FieldsPlaced, WordPlaced}
use Rattle.pyparse_statement.specs.Inner.Simple.{globals, nonlocals}
use Rattle.pyparse_statement.proofs.Callers.Looks.{moved}
use Rattle.pyparse_statement.proofs.Recorders.Says.{names_bare}

-- names are found where the statement is
named : (k : List Identifier → Stmt) (x : Answer (List Identifier)) (y : Stmt) (i : List Terminal)
    → and_then x (λ xs r. Found (k xs) r) ≡ Found y i → (xs : List Identifier) × (x ≡ Found xs i) × (y ≡ k xs)
named k (Found xs r) y i h = (xs, ap (λ z. Found xs z) (same_rest (k xs) y r i h), sym (same (k xs) y r i h))
  where
    same : (a b : Stmt) (r s : List Terminal) → Found a r ≡ Found b s → a ≡ b
    same a b r s h = cc

    same_rest : (a b : Stmt) (r s : List Terminal) → Found a r ≡ Found b s → r ≡ s
    same_rest a b r s h = cc
named k NoForm y i h = absurd (cc)
named k TooDeep y i h = absurd (cc)

module _ {S : Type 0} {after : S → Stretch → S} {ts : List given.Terminal} where
  -- the fields of a statement, which is this one
  pub fields_of : {prof : Profile} {from n : ℕ} {r : ReadStatement} {y : Stmt} {ps : List Stretch} {u v : S} → stmt_of r.statement ≡ y
      → r.next ≡ n → PlacedFields prof (seen ts from) from y (seen ts n) n ps → Records after u ps v
      → FieldsPlaced after prof ts from u v r
  fields_of {prof} {from} {ps = ps} h q p k =
      record { places = ps; fields = moved (seen ts) (λ y s n. PlacedFields prof (seen ts from) from y s n ps) h q p; records = k }

  pub raise_alone_placed : {at : ℕ} {u : S} {r : ReadStatement} → stmt_of r.statement ≡ Raise None None → r.next ≡ at
      → WordPlaced after Key.Raise ts at u u (Ok r)
  raise_alone_placed h n prof from q s = fields_of h (n ∙ q) (placed_raise_alone s.is) records_none

  module _ {at : ℕ} {u v : S} where
    pub return_placed : {o : Optional} {r : ReadStatement} → OptionalPlaced after Stars ts at u v o
        → stmt_of r.statement ≡ Return (boxed_of o.expr) → r.next ≡ o.next → WordPlaced after Key.Return ts at u v (Ok r)
    return_placed o h n prof from q s = fields_of h n (placed_return s.is (read_from (seen ts) (sym q) o.part)) o.records

    pub raise_placed : {w : S} {ps : List Stretch} {o : Optional} {r : ReadStatement} (e : Read)
        → Placed Expression (seen ts at) at (tree_of e.expr.value) (seen ts e.next) e.next ps → Records after u ps w
        → AfterPlaced after (Word Key.From) Expression ts e.next w v o
        → stmt_of r.statement ≡ Raise (Some (tree_of e.expr.value)) (boxed_of o.expr) → r.next ≡ o.next
        → WordPlaced after Key.Raise ts at u v (Ok r)
    raise_placed e p k o h n prof from q s =
        fields_of h n (placed_raise s.is (read_from (seen ts) (sym q) p) o.part) (records_more k o.records)

    pub assert_placed : {w : S} {ps : List Stretch} {o : Optional} {r : ReadStatement} (e : Read)
        → Placed Expression (seen ts at) at (tree_of e.expr.value) (seen ts e.next) e.next ps → Records after u ps w
        → AfterPlaced after (Op Comma) Expression ts e.next w v o
        → stmt_of r.statement ≡ Assert (tree_of e.expr.value) (boxed_of o.expr) → r.next ≡ o.next
        → WordPlaced after Key.Assert ts at u v (Ok r)
    assert_placed e p k o h n prof from q s =
        fields_of h n (placed_assert s.is (read_from (seen ts) (sym q) p) o.part) (records_more k o.records)

    pub delete_placed : {targets : Items} {r : ReadStatement} → AllDeletedPlaced after ts at u v targets
        → stmt_of r.statement ≡ Delete (map tree_of targets.exprs.items) → r.next ≡ targets.next
        → WordPlaced after Key.Del ts at u v (Ok r)
    delete_placed d h n prof from q s = fields_of h n (placed_delete s.is (read_from (seen ts) (sym q) d.part)) d.records

  -- ---- Statements with nothing to record.
  module _ {prof : Profile} {at : ℕ} {u : S} where
    pub pass_placed : {r : ReadStatement} → Stands (Word Key.Pass) ts at → stmt_of r.statement ≡ Pass → r.next ≡ at + 1
        → FieldsPlaced after prof ts at u u r
    pass_placed s h n = fields_of h n (placed_pass s.is) records_none

    pub break_placed : {r : ReadStatement} → Stands (Word Key.Break) ts at → stmt_of r.statement ≡ Break → r.next ≡ at + 1
        → FieldsPlaced after prof ts at u u r
    break_placed s h n = fields_of h n (placed_break s.is) records_none

    pub continue_placed : {r : ReadStatement} → Stands (Word Key.Continue) ts at → stmt_of r.statement ≡ Continue → r.next ≡ at + 1
        → FieldsPlaced after prof ts at u u r
    continue_placed s h n = fields_of h n (placed_continue s.is) records_none

module _ {S : Type 0} (after : S → Stretch → S) (prof : Profile) (u : S) {ts : List given.Terminal} {at : ℕ} where
  pub global_placed : (z : Result ReadStatement Stop) → Stands (Word Key.Global) ts at
      → PartAnswered ts (at + 1) (globals (seen ts (at + 1))) (λ r. stmt_of r.statement) (λ r. r.next) z
      → IfOk z (FieldsPlaced after prof ts at u u)
  global_placed (Ok r) s p =
      let w = named (λ xs. Global xs) (commas_of read_name always (seen ts (at + 1))) (stmt_of r.statement) (seen ts r.next) p.is in
      let b : PartAt ts (at + 1) (commas_of read_name always (seen ts (at + 1))) w.0 r.next =
      record { ahead = p.ahead; within = p.within; is = w.1 } in
      fields_of w.2 refl (placed_global s.is (names_bare b)) records_none
  global_placed (Err o) s p = tt

  pub nonlocal_placed : (z : Result ReadStatement Stop) → Stands (Word Key.Nonlocal) ts at
      → PartAnswered ts (at + 1) (nonlocals (seen ts (at + 1))) (λ r. stmt_of r.statement) (λ r. r.next) z
      → IfOk z (FieldsPlaced after prof ts at u u)
  nonlocal_placed (Ok r) s p =
      let w = named (λ xs. Nonlocal xs) (commas_of read_name always (seen ts (at + 1))) (stmt_of r.statement) (seen ts r.next) p.is in
      let b : PartAt ts (at + 1) (commas_of read_name always (seen ts (at + 1))) w.0 r.next =
      record { ahead = p.ahead; within = p.within; is = w.1 } in
      fields_of w.2 refl (placed_nonlocal s.is (names_bare b)) records_none
  nonlocal_placed (Err o) s p = tt

-- the keyword that stands there is this one
pub word_at : {v w : Keyword} {ts : List given.Terminal} {at : ℕ} → Stands (Word v) ts at → v ≡ w → Stands (Word w) ts at
word_at {ts = ts} {at = at} s q = subst (λ z. Stands (Word z) ts at) q s
