-- The texts that Python writes for floats and for imaginary numbers (library reference, `repr`, and `ast.unparse`).
use Rattle.std.specs.Prelude.{ℕ, zero, suc, List, [], ◌++◌, codes}
use Rattle.std.specs.Float.Ieee.{Float, nan, inf, fin}
use Rattle.pynumber.specs.Search.{exact_down, shortest_digits, shortest_up}
use Rattle.pynumber.specs.Layouts.{number_text}

-- the text of a double that is not below 0: its shortest decimal, laid out; a whole number ends in `end`. A NaN has none.
unfoldable pub float_text : Float → List ℕ → List ℕ → List ℕ
float_text nan end infinity = []
float_text (inf s) end infinity = infinity
float_text (fin s zero e) end infinity = codes "0" ++ end
float_text (fin s (suc m) e) end infinity =
    let x = fin s (suc m) e in number_text (shortest_digits x) (shortest_up x) (exact_down x) end

-- `repr` of a float: 1.5, 1.0, 1e+16, inf
abbrev pub float_repr : Float → List ℕ
float_repr x = float_text x (codes ".0") (codes "inf")

-- what `ast.unparse` writes of it: no literal reads `inf`, so infinity is written as one that is too large
abbrev pub float_source : Float → List ℕ
float_source x = float_text x (codes ".0") (codes "1e309")

-- the same of the imaginary number with that float: 1.5j, 1j, 1e+16j, infj
abbrev pub imaginary_repr : Float → List ℕ
imaginary_repr x = float_text x [] (codes "inf") ++ codes "j"

abbrev pub imaginary_source : Float → List ℕ
imaginary_source x = float_text x [] (codes "1e309") ++ codes "j"
