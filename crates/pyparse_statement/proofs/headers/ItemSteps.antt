-- The loop over the items of a `with`.
--
-- Carries: items_at. On: Commas.
use Rattle.std.proofs.Common.{◌≡◌, sym, ◌∙◌, subst, arith, ℕ, ◌+◌, ◌≤◌, List, [], ◌∷◌, ◌++◌, map, Bool, true, false, None}
use Rattle.pylex_lexeme.specs.declared.kinds.Exact.TheVariants.{Comma}
use Rattle.pytree_node.specs.Trees.{Item}
use Rattle.pytree_node.specs.TreeOf.{item_of}
use Rattle.pytoken.specs.Terminals.{Terminal, Op}
use Rattle.pytoken.specs.declared.values.terminals.Terminal as given
use Rattle.pygrammar.specs.Looks.{is_op}
use Rattle.pygrammar.specs.LineReader.{read_item}
use Rattle.pygrammar.specs.Reader.{Answer, Reads}
use Rattle.pyparse_nodes.specs.Answers.{PartAt}
use Rattle.pyparse_nodes.specs.Views.{Stands, first_is, seen}
use Rattle.pyparse_statement.proofs.Commas.{Listed, list_end, list_last, list_more}
use Rattle.pyparse_statement.specs.declared.headers.found.ReadItem.{ReadItem}
use Rattle.pyparse_statement.specs.declared.headers.found.ReadItems.{ReadItems}

-- one more item
module _ (ts : List given.Terminal) (self : Reads) (more : List Terminal → Bool) (x : Answer (List Item)) (old : ReadItems)
    (c : Listed ts (read_item self) more x (map item_of old.items.items) old.next)
    (i : ReadItem) (f : PartAt ts (old.next + 1) (read_item self (seen ts old.next)) (item_of i.item) i.next)
    (new : ReadItems) (p : map item_of new.items.items ≡ map item_of old.items.items ++ (item_of i.item ∷ [])) (k : new.next ≡ i.next) where
  found : PartAt ts (old.next + 1) (read_item self (seen ts old.next)) (item_of i.item) new.next
  found = subst (λ n. PartAt ts (old.next + 1) (read_item self (seen ts old.next)) (item_of i.item) n) (sym k) f

  pub items_last : (at : ℕ) → at ≤ old.next → None ≡ first_is (is_op Comma) (seen ts new.next)
      → PartAt ts (at + 1) x (map item_of new.items.items) new.next
  items_last at le n = list_last ts (read_item self) more x (map item_of old.items.items) old.next c (old.next + 1) (item_of i.item)
      new.next found (map item_of new.items.items) p (at + 1) new.next (omega arith) (omega (arith, le, f.ahead, k)) n

  module _ (s : Stands (Op Comma) ts new.next) (next : ReadItems) (same : map item_of next.items.items ≡ map item_of new.items.items)
      (e : next.next ≡ new.next + 1) where
    pub items_end : (at : ℕ) → at ≤ old.next → more (seen ts next.next) ≡ false
        → PartAt ts (at + 1) x (map item_of next.items.items) next.next
    items_end at le n = list_end ts (read_item self) more x (map item_of old.items.items) old.next c (old.next + 1) (item_of i.item)
        new.next found (map item_of next.items.items) (same ∙ p) s next.next e (at + 1) (omega (arith, le, f.ahead, k)) n

    pub items_more : more (seen ts next.next) ≡ true → Listed ts (read_item self) more x (map item_of next.items.items) next.next
    items_more n = list_more ts (read_item self) more x (map item_of old.items.items) old.next c (old.next + 1) (item_of i.item) new.next
        found (map item_of next.items.items) (same ∙ p) s next.next e (omega (arith, f.ahead, k)) n
