-- Carries: put_integer, put_float, put_imaginary. The text of a number is ASCII.
use Rattle.std.proofs.Common.{◌≡◌, ◌∙◌, ℕ, List, sym}
use Rattle.std.specs.Str.{encode_utf8_all, IsAscii}
use Rattle.std.proofs.lemmas.Str.{encodes-IsAscii}

-- bytes that are an ASCII text are its UTF-8
pub ascii_bytes : (t bytes : List ℕ) → IsAscii t → bytes ≡ t → bytes ≡ encode_utf8_all t
ascii_bytes t bytes a e = e ∙ sym (encodes-IsAscii t a)
