-- What a limit of the height leaves of an answer.
--
-- Carries: read_number, read_key, and what Points, KeySteps and StringSteps cite. On: PatternReader.
use Rattle.std.proofs.Common.{◌≡◌, refl, ap, ◌∙◌, arith, ℕ, ◌≤◌, ◌<◌, List, Bool, true, false, cond, leb, Result, Ok, Err}
use Rattle.std.proofs.lemmas.Bool.{le-leb, lt-leb, leb-false}
use Rattle.pytree_node.specs.Trees.{Expr}
use Rattle.pytree_node.specs.TreeOf.{tree_of}
use Rattle.pytree_height.specs.Heights.{height}
use Rattle.pytoken.specs.Terminals.{Terminal}
use Rattle.pytoken.specs.declared.values.terminals.Terminal as given
use Rattle.pygrammar.specs.PatternReader.{cap_value}
use Rattle.pygrammar.specs.Reader.{Answer, Found, NoForm, TooDeep}
use Rattle.pyparse_nodes.specs.declared.found.Read.{Read}
use Rattle.pyparse_nodes.specs.declared.stop.Stop.{Stop}
use Rattle.pyparse_nodes.specs.declared.stop.Stop.TheVariants as stop
use Rattle.pyparse_nodes.specs.Answers.{Answered, Failed, FoundAt}
use Rattle.pyparse_nodes.specs.Views.{seen}

pub capped_low : (room : ℕ) (e : Expr) (r : List Terminal) → height e ≤ room → cap_value room (Found e r) ≡ Found e r
capped_low room e r h = ap (λ b. cond b (Found e r) TooDeep) (le-leb (height e) room h)

pub capped_high : (room : ℕ) (e : Expr) (r : List Terminal) → room < height e → cap_value room (Found e r) ≡ TooDeep
capped_high room e r h = ap (λ b. cond b (Found e r) TooDeep) (lt-leb (height e) room h)

-- what was found within it was found
pub uncapped : (room : ℕ) (x : Answer Expr) (e : Expr) (r : List Terminal) → cap_value room x ≡ Found e r → x ≡ Found e r
uncapped room (Found f s) e r h = by_height (leb (height f) room) h
  where
    by_height : (b : Bool) → cond b (Found f s) TooDeep ≡ Found e r → Found f s ≡ Found e r
    by_height true q = q
    by_height false q = absurd (cc)
uncapped room NoForm e r h = h
uncapped room TooDeep e r h = h

-- within it none is found where none is
pub low_failed : (room : ℕ) (s : Stop) (x : Answer Expr) → Failed s x → Failed s (cap_value room x)
low_failed room stop.NoForm x h = ap (λ y. cap_value room y) h
low_failed room stop.TooDeep x h = ap (λ y. cap_value room y) h
low_failed room stop.Memory x h = tt

-- nor is it within a lower one
pub lower_failed : (room less : ℕ) (s : Stop) (x : Answer Expr) → less ≤ room → Failed s (cap_value room x) → Failed s (cap_value less x)
lower_failed room less stop.NoForm (Found e r) l h = by_height (leb (height e) room) h
  where
    by_height : (b : Bool) → cond b (Found e r) TooDeep ≡ NoForm → cap_value less (Found e r) ≡ NoForm
    by_height true q = absurd (cc)
    by_height false q = absurd (cc)
lower_failed room less stop.NoForm NoForm l h = h
lower_failed room less stop.NoForm TooDeep l h = h
lower_failed room less stop.TooDeep (Found e r) l h = capped_high less e r (higher (leb (height e) room) refl h)
  where
    higher : (b : Bool) → leb (height e) room ≡ b → cond b (Found e r) TooDeep ≡ TooDeep → less < height e
    higher true p q = absurd (cc)
    higher false p q = omega (arith, l, leb-false (height e) room p)
lower_failed room less stop.TooDeep NoForm l h = h
lower_failed room less stop.TooDeep TooDeep l h = h
lower_failed room less stop.Memory x l h = tt

-- what was found, where there is room for it, and where there isn't
module _ (ts : List given.Terminal) (more room least : ℕ) (x : Answer Expr) (r : Read) where
  pub low_high : FoundAt ts more least x r → room < r.height → cap_value room x ≡ TooDeep
  low_high f h = ap (λ y. cap_value room y) f.is ∙ capped_high room (tree_of r.expr.value) (seen ts r.next) (omega (arith, h, r.is_height))

  pub low_found : FoundAt ts more least x r → r.height ≤ room → FoundAt ts room least (cap_value room x) r
  low_found f h = record {
    ahead = f.ahead;
    within = f.within;
    low = h;
    is = ap (λ y. cap_value room y) f.is ∙ capped_low room (tree_of r.expr.value) (seen ts r.next) (omega (arith, h, r.is_height));
  }

  -- the same after a limit
  found : FoundAt ts more least (cap_value more x) r → FoundAt ts more least x r
  found f = record { ahead = f.ahead; within = f.within; low = f.low; is = uncapped more x (tree_of r.expr.value) (seen ts r.next) f.is }

  pub lower_high : FoundAt ts more least (cap_value more x) r → room < r.height → cap_value room x ≡ TooDeep
  lower_high f h = low_high (found f) h

  pub lower_found : FoundAt ts more least (cap_value more x) r → r.height ≤ room → FoundAt ts room least (cap_value room x) r
  lower_found f h = low_found (found f) h

-- an answer that has room
pub low_answered : (ts : List given.Terminal) (room least : ℕ) (x : Answer Expr) (z : Result Read Stop) → Answered ts room least x z
    → Answered ts room least (cap_value room x) z
low_answered ts room least x (Ok r) h = low_found ts room room least x r h h.low
low_answered ts room least x (Err s) h = low_failed room s x h
