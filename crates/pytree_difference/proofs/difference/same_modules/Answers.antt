use Rattle.std.proofs.Common.{◌≡◌, ◌↔◌, ℕ, Bool, true, false, IsTrue, List, Option, None, Some, ap, refl}
use Rattle.pytree_node.specs.declared.profiles.Version.TheVariants.{Py312}
use Rattle.pytree_node.specs.Trees
use Rattle.pytree_node.specs.TreeOf.{module_of}
use Rattle.pytree_fields.specs.Things.{module_thing}
use Rattle.pytree_difference.specs.Trails.{Walked}
use Rattle.pytree_difference.proofs.OneToOne.{module_is}
use Rattle.pytree_difference.proofs.WalkLemmas.{differs}
use Rattle.pytree_difference.proofs.difference.same_modules.Goals as goal

decided : (a b : Trees.Module) (r : Bool) (old new : Option (List ℕ)) →
    Walked (Some (module_thing Py312 a)) (Some (module_thing Py312 b)) old new r → IsTrue r ↔ (a ≡ b)
decided a b true old new (same, kept) = (
  (λ t. module_is a b (let e : module_thing Py312 a ≡ module_thing Py312 b = cc in e)),
  (λ e. refl),
)
decided a b false old new (path, found, l) = (
  (λ t. (cc)),
  (λ e. absurd (differs path (Some (module_thing Py312 a)) (Some (module_thing Py312 b)) found
      (ap (λ m. Some (module_thing Py312 m)) e))),
)

pub returns : goal.returns
returns c = decided (module_of c.args.a.now) (module_of c.args.b.now) c.walk_modules.result None None c.walk_modules.ensures
