use Rattle.std.proofs.Common.{◌∙◌, ap, map, sym}
use Rattle.pytree_node.specs.Trees.{patterns}
use Rattle.pytree_node.specs.TreeOf.{pattern_of}
use Rattle.pyunparse.specs.Inner.PatternParts.{is_bare}
use Rattle.pyunparse.proofs.PatternLemmas.{some_bare}
use Rattle.pyunparse.proofs.patterns.is_bare.Goals as goal

pub returns-in-Patterns : goal.returns-in-Patterns
returns-in-Patterns c = some_bare c.args.inner.now _ c.is_empty.ensures
    ∙ ap (λ l. is_bare l (patterns (map pattern_of c.args.inner.now))) (sym c.in-Patterns.is)
