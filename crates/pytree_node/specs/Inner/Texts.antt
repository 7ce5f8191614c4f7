-- What lies under an identifier.
use Rattle.std.specs.Prelude.{ℕ, ◌≤◌, List, take, string_bytes}
use Rattle.std.specs.Str.{IsUtf8}
use Rattle.pytree_node.specs.declared.identifiers.Text.{Text}
use Rattle.pytree_node.specs.declared.identifiers.Text.TheVariants.{Inline, Allocated}

-- the bytes of a text
abbrev pub bytes_of : Text → List ℕ
bytes_of (Inline len bytes) = take len bytes
bytes_of (Allocated text) = string_bytes text.value

-- the text is whole and is UTF-8
abbrev pub IsKept : Text → Type 0
IsKept (Inline len bytes) = (len ≤ 14) × IsUtf8 (take len bytes)
IsKept (Allocated text) = IsUtf8 (string_bytes text.value)
