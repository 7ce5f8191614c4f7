-- What is counted of a listing.
use Rattle.std.specs.Prelude.{Bool, true, false}
use Rattle.pylex_listing.specs.declared.entries.Entry.{Entry}
use Rattle.pylex_listing.specs.declared.kind.Kind.TheVariants as kinds

-- the type of an entry is NAME
abbrev pub is_name : Entry → Bool
is_name e = elim e.kind [ kinds.Name ↦ true | _ ↦ false ]
