-- Worked examples of the definitions, by computation.
--
-- Carries: no contract; its rows are computed as it is checked.
use Rattle.std.proofs.Common.{◌≡◌, [], ◌∷◌, ◌++◌, refl, Some, Ok, Err}
use Rattle.std.specs.Prelude.{codes}
use Rattle.std.specs.Str.{chars, is_utf8}
use Rattle.std.specs.Char.{encode_utf8}
use Rattle.std.specs.Str.Lossy.{utf8_valid_len}
use Rattle.ucd_category.proofs.Computing.{ucd_category}
use Rattle.pysource.specs.declared.encodings.Charset.TheVariants.{Ascii}
use Rattle.pysource.specs.declared.encodings.SourceFault.TheVariants.{UnsupportedEncoding, BomConflict}
use Rattle.pysource.specs.declared.faults.LineError.TheVariants.{NotUtf8, NotAscii, LoneReturn}
use Rattle.pysource.specs.Places.{place_at, place_after}
use Rattle.pysource.specs.Reprs.{repr_text, repr_bytes}
use Rattle.pysource.specs.Cookies.{encoding_of, declared_first, plain}
use Rattle.pysource.specs.Lines.{lines_of, good_text, line_fault}
use Rattle.pysource.specs.Sources.{source_of}

-- `place_of("é\nx", 3)` is row 2, column 0
place : place_at (0xC3 ∷ 0xA9 ∷ 10 ∷ 120 ∷ []) 3 ≡ record { row = 2; column = 0 }
unfolding chars place_after
place = refl

bytes : repr_bytes (0 ∷ 39 ∷ []) ≡ codes "b\"\\x00'\""
bytes = refl

points : repr_text (0xD800 ∷ 39 ∷ []) ≡ codes "\"\\ud800'\""
unfolding ucd_category encode_utf8
points = refl

points_accent : repr_text (0xE9 ∷ []) ≡ 39 ∷ 0xC3 ∷ 0xA9 ∷ 39 ∷ []
unfolding ucd_category encode_utf8
points_accent = refl

-- `# x\n# coding: latin-1\n`
latin : encoding_of (codes "# x\n") (codes "# coding: latin-1\n") ≡ Err (UnsupportedEncoding (record { row = 2; column = 0 }))
unfolding declared_first
latin = refl

no_cookie : encoding_of (codes "x = 1\n") (codes "# coding: latin-1\n") ≡ Ok plain
unfolding declared_first
no_cookie = refl

us_ascii : encoding_of (codes "# coding: US_ASCII\n") [] ≡ Ok (record { charset = Ascii; name = codes "US_ASCII" })
unfolding declared_first
us_ascii = refl

sig : encoding_of (codes "# coding: UTF-8-SIG\n") [] ≡ Ok plain
unfolding declared_first
sig = refl

conflict : encoding_of (0xEF ∷ 0xBB ∷ 0xBF ∷ codes "# coding: ascii\n") [] ≡ Err (BomConflict (record { row = 1; column = 0 }))
unfolding declared_first
conflict = refl

-- `x\ry\n` has a carriage return alone at 1:1
lone : source_of (codes "x\ry\n") ≡ Ok
    (record { encoding = plain; text = []; fault = Some (record { code = LoneReturn; place = record { row = 1; column = 1 } }) })
unfolding declared_first lines_of good_text line_fault utf8_valid_len is_utf8 chars encode_utf8
lone = refl

-- `a\n`, then `b`, byte FF, LF
bad : source_of (codes "a\nb" ++ 0xFF ∷ 10 ∷ []) ≡ Ok (record {
  encoding = plain;
  text = codes "a\n";
  fault =
      Some (record { code = NotUtf8; place = record { row = 2; column = 1 } });
})
unfolding declared_first lines_of good_text line_fault utf8_valid_len is_utf8 chars encode_utf8
bad = refl

-- `# coding: ascii\n# é\n`
ascii : source_of (codes "# coding: ascii\n# " ++ 0xC3 ∷ 0xA9 ∷ 10 ∷ []) ≡ Ok
    (record {
      encoding = record { charset = Ascii; name = codes "ascii" };
      text = codes "# coding: ascii\n";
      fault =
          Some (record { code = NotAscii; place = record { row = 2; column = 2 } });
    })
unfolding declared_first lines_of good_text line_fault utf8_valid_len is_utf8 chars encode_utf8
ascii = refl
