-- The value of a `try` that is made of parts.
--
-- Carries: try_statement. On: made_try, try_tree, try_star_tree.
use Rattle.std.proofs.Common.{◌≡◌, ap, sym, ◌∙◌, map, Bool, true, false, Global}
use Rattle.std.specs.declared.boxed.Box.{Box}
use Rattle.pytree_node.specs.declared.statements.Stmt.TheVariants as variant
use Rattle.pytree_node.specs.declared.statements.Try as given
use Rattle.pytree_node.specs.declared.statements.Try.{Try}
use Rattle.pytree_node.specs.Trees as plain
use Rattle.pytree_node.specs.TreeOf.{handler_of, stmt_of}
use Rattle.pytree_node.specs.TreeOf as tree
use Rattle.pytree_node.proofs.Callers.MadeShapes.{TryFields, made_try}
use Rattle.pytree_node.proofs.Callers.StmtShapes.{try_star_tree, try_tree}
use Rattle.pygrammar.specs.Lines.{try_of}

-- the statement of these fields, with or without a star
abbrev pub try_value_of : Bool → TryFields → plain.Stmt
try_value_of star a = try_of star (map stmt_of a.body.items) (map handler_of a.handlers.items)
    (map stmt_of a.orelse.items) (map stmt_of a.finalbody.items)

pub plain_try : (star : Bool) (b : Box Try Global) (a : TryFields) → b.value ≡ given.roll-Try a → star ≡ false →
    stmt_of (variant.Try b) ≡ try_value_of star a
plain_try star b a p q = try_tree b ∙ ap plain.try_block (ap tree.try_of p ∙ made_try a) ∙ ap (λ s. try_value_of s a) (sym q)

pub star_try : (star : Bool) (b : Box Try Global) (a : TryFields) → b.value ≡ given.roll-Try a → star ≡ true →
    stmt_of (variant.TryStar b) ≡ try_value_of star a
star_try star b a p q = try_star_tree b ∙ ap plain.try_star_block (ap tree.try_of p ∙ made_try a) ∙ ap (λ s. try_value_of s a) (sym q)
