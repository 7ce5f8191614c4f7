use Rattle.std.proofs.Common.{◌≡◌, map, drop}
use Rattle.std.specs.List.{flat_map}
use Rattle.pytoken.specs.Escapes.{escape_fault}
use Rattle.pytoken.specs.FormattedStrings.{element_meanings}
use Rattle.pytoken.specs.Inner.Pushing.{element_of, first_escape_fault}
use Rattle.pytoken.proofs.values.formatted.texts_fault.Given as goal

abbrev pub invariant-elements : goal.invariant-elements
invariant-elements l =
    first_escape_fault l.fault (escape_fault (flat_map element_meanings (map element_of (drop l.element-index l.elements))))
    ≡ escape_fault (flat_map element_meanings (map element_of l.elements))
