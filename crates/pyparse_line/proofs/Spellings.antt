-- The words that begin a line but are no keywords, by their bytes and by their characters.
--
-- Carries: spells_match, spells_case. On: Spellings of pyparse_statement.
use Rattle.std.proofs.Common.{◌≡◌, refl, ℕ, List}
use Rattle.std.specs.Str.{bytes_eq, chars, encode_utf8_all, IsUtf8}
use Rattle.pygrammar.specs.Forms.{case_name, match_name}
use Rattle.pyparse_statement.proofs.Callers.Spellings.{spelt}

match_encoded : encode_utf8_all match_name ≡ match_name
unfolding lib.Utf8.encode
match_encoded = refl

case_encoded : encode_utf8_all case_name ≡ case_name
unfolding lib.Utf8.encode
case_encoded = refl

pub spelt_match : (bs : List ℕ) → IsUtf8 bs → bytes_eq bs match_name ≡ bytes_eq (chars bs) match_name
spelt_match = spelt match_name match_encoded

pub spelt_case : (bs : List ℕ) → IsUtf8 bs → bytes_eq bs case_name ≡ bytes_eq (chars bs) case_name
spelt_case = spelt case_name case_encoded
