use Rattle.std.proofs.Common.{◌≡◌, ◌++◌, map, drop}
use Rattle.pytree_node.specs.TreeOf.{tree_of}
use Rattle.pyunparse_text.specs.Modules.{decorators}
use Rattle.pyunparse_text.specs.Pieces.{piece}
use Rattle.pyunparse.specs.Inner.Lines.{in_utf8}
use Rattle.pyunparse.proofs.lines.write_decorators.Given as goal

abbrev pub invariant-loop-e : goal.invariant-loop-e
invariant-loop-e l = record {
  text : l.out.text ++ in_utf8 (decorators piece l.initial.out.level (map tree_of (drop l.e-index l.decorators))) ≡ l.initial.out.text ++
      in_utf8 (decorators piece l.initial.out.level (map tree_of l.decorators));
  level : l.out.level ≡ l.initial.out.level;
}
