-- Carries: write_pieces. On: what of an output that is made in pieces is written, is
-- held and is still to come.
use Rattle.std.proofs.Common.{◌≡◌, ℕ, List, [], ◌++◌, Option, refl, ap, sym, ◌∙◌, append_assoc, append-nil}
use Rattle.std.specs.List.{concat}
use Rattle.pysource.specs.Bytes.{TakesFront}
use Rattle.pysource.proofs.Callers.Taken.{Appends-refl}
use Rattle.pyast_command.specs.Runs.{TakesAllBut}

-- before the first piece
pub none_came : (x : Option (List ℕ)) (output held : List ℕ) → held ≡ [] → TakesAllBut x x output held output
none_came x output held none = ([], rw none refl, Appends-refl x)

-- a further piece is held
pub piece_came : (x y : Option (List ℕ)) (output end held held1 left left1 : List ℕ) → held1 ++ left1 ≡ held ++ left
    → TakesAllBut x y output held (left ++ end)
    → TakesAllBut x y output held1 (left1 ++ end)
piece_came x y output end held held1 left left1 same (written, is, p) =
    let old : (written ++ held) ++ (left ++ end) ≡ written ++ ((held ++ left) ++ end) = simp append_assoc refl in
    let new : written ++ ((held1 ++ left1) ++ end) ≡ (written ++ held1) ++ (left1 ++ end) = simp append_assoc refl in
    (written, is ∙ old ∙ ap (λ z. written ++ (z ++ end)) (sym same) ∙ new, p)

-- what is held and still to come is lost
pub front_came : (x y : Option (List ℕ)) (output held left : List ℕ) → TakesAllBut x y output held left → TakesFront x y output
front_came x y output held left (written, is, p) = (written, held ++ left, is ∙ append_assoc written held left, p)

-- no piece is still to come, and what ends the output is held
pub all_came : (x y : Option (List ℕ)) (output end held held1 : List ℕ) (left : List (List ℕ)) → left ≡ [] → held1 ≡ held ++ end
    → TakesAllBut x y output held (concat left ++ end)
    → TakesAllBut x y output held1 []
all_came x y output end held held1 left none ended (written, is, p) =
    let at_end : output ≡ (written ++ held) ++ end = rw none at is in
    (written, rw ended (at_end ∙ append_assoc written held end ∙ sym (append-nil (written ++ (held ++ end)))), p)

-- nothing was written
pub nothing_came : (x : Option (List ℕ)) (output : List ℕ) → TakesFront x x output
nothing_came x output = ([], output, refl, Appends-refl x)
