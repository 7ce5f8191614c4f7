-- Escapes are ASCII.
--
-- Carries: push_escape, push_repr_bytes.
use Rattle.std.proofs.Common.{◌≡◌, ℕ, zero, suc, ◌/◌, ◌%◌, ◌<◌, Bool, true, false, List, [], ◌∷◌, ◌++◌, sym, ap, ◌∙◌, arith}
use Rattle.std.specs.Prelude.{codes, if◌then◌else◌, nat_lt}
use Rattle.std.specs.Char.{digit_char}
use Rattle.std.specs.Str.{IsAscii, encode_utf8_all}
use Rattle.std.proofs.lemmas.Bool.Decides.{nat_tests}
use Rattle.std.proofs.lemmas.Str.{IsAscii-append, encodes-IsAscii, encodes-append}
use Rattle.std.specs.List.{flat_map}
use Rattle.std.specs.Io.{StartsWith}
use Rattle.std.proofs.Transfers.{starts_with_of_append, starts_with_trans}
use Rattle.std.proofs.lemmas.List.{append_assoc}
use Rattle.std.proofs.lemmas.Str.Ascii.{IsAscii-nil, IsAscii-cons}
use Rattle.pysource.specs.Reprs.{hex, hex_escape}

-- a digit of base 16 is ASCII
digit_char_ascii : (d : ℕ) → d < 16 → digit_char d < 128
digit_char_ascii d h = grind (arith, nat_tests)

-- so is a number in base 16
hex_ascii : (width n : ℕ) → IsAscii (hex width n)
hex_ascii zero n = IsAscii-nil
hex_ascii (suc width) n =
    IsAscii-append (hex width (n / 16)) (digit_char (n % 16) ∷ []) (hex_ascii width (n / 16))
    (IsAscii-cons (digit_char (n % 16)) [] (digit_char_ascii (n % 16) (omega arith)) IsAscii-nil)

-- so is a choice of two texts that are
either_ascii : (b : Bool) (xs ys : List ℕ) → IsAscii xs → IsAscii ys → IsAscii (if b then xs else ys)
either_ascii true xs ys h k = h
either_ascii false xs ys h k = k

-- so is a backslash, a letter and a text that is
letter_ascii : (letter : ℕ) (xs : List ℕ) → letter < 128 → IsAscii xs → IsAscii (92 ∷ letter ∷ xs)
letter_ascii letter xs h k = IsAscii-cons 92 (letter ∷ xs) (omega arith) (IsAscii-cons letter xs h k)

-- so is an escape by a number
pub hex_escape_ascii : (c : ℕ) → IsAscii (hex_escape c)
hex_escape_ascii c =
    either_ascii (nat_lt c 0x100) (codes "\\x" ++ hex 2 c) (if nat_lt c 0x1_0000 then codes "\\u" ++ hex 4 c else codes "\\U" ++ hex 8 c)
    (letter_ascii 120 (hex 2 c) (omega arith) (hex_ascii 2 c))
    (either_ascii (nat_lt c 0x1_0000) (codes "\\u" ++ hex 4 c) (codes "\\U" ++ hex 8 c)
    (letter_ascii 117 (hex 4 c) (omega arith) (hex_ascii 4 c)) (letter_ascii 85 (hex 8 c) (omega arith) (hex_ascii 8 c)))

-- its bytes are its characters
pub encodes_hex_escape : (c : ℕ) → encode_utf8_all (hex_escape c) ≡ hex_escape c
encodes_hex_escape c = encodes-IsAscii (hex_escape c) (hex_escape_ascii c)

-- the end of an output
pub end_encoded : (f : ℕ → List ℕ) (q : ℕ) (xs base old new : List ℕ) → old ≡ base ++ encode_utf8_all (q ∷ flat_map f xs)
    → new ≡ old ++ encode_utf8_all (q ∷ []) → new ≡ base ++ encode_utf8_all (q ∷ flat_map f xs ++ q ∷ [])
end_encoded f q xs base old new e g =
    g ∙ ap (λ bs. bs ++ encode_utf8_all (q ∷ [])) e ∙ append_assoc base _ _
    ∙ ap (λ bs. base ++ bs) (sym (encodes-append (q ∷ flat_map f xs) (q ∷ [])))

-- what kept an output that had grown, kept the output
pub kept_front : (base mid new more : List ℕ) → mid ≡ base ++ more → StartsWith new mid → StartsWith new base
kept_front base mid new more e kept = starts_with_trans new mid base kept (starts_with_of_append mid base more e)
