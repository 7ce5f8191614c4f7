-- The brackets that are open at a place of a listing (reference 2.1.6 and 2.6).
use Rattle.std.specs.Prelude.{ℕ, ◌-◌, Bool, false, List, count_by, Some, None}
use Rattle.pylex_lexeme.specs.Operators.{is_opener, is_closer}
use Rattle.pylex_listing.specs.declared.entries.Entry.{Entry}

abbrev pub opens : Entry → Bool
opens e = elim e.exact [ Some x ↦ is_opener x | None ↦ false ]

abbrev pub closes : Entry → Bool
closes e = elim e.exact [ Some x ↦ is_closer x | None ↦ false ]

-- opening ones less closing ones, whatever their kind, among the entries before a place
abbrev pub open_brackets : List Entry → ℕ
open_brackets before = count_by opens before - count_by closes before
