-- The numbers that stand for conversions (library reference, `ast.FormattedValue`).
use Rattle.std.specs.Prelude.{ℤ, pos, negsuc}
use Rattle.pyfstring.specs.Characters.{small_a, small_r, small_s}
use Rattle.pyfstring.specs.declared.parts.Conversion.{Conversion}
use Rattle.pyfstring.specs.declared.parts.Conversion.TheVariants.{None as Unconverted, Str, Repr, Ascii}

-- the letter after the `!`, or -1
abbrev pub conversion_value : Conversion → ℤ
conversion_value Unconverted = negsuc 0
conversion_value Str = pos small_s
conversion_value Repr = pos small_r
conversion_value Ascii = pos small_a
