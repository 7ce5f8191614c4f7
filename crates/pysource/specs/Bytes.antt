-- What a reader gives and a writer takes, where it is known, and how often either fails.
use Rattle.std.specs.Prelude.{◌≡◌, ℕ, zero, suc, ◌<◌, Bool, false, List, [], ◌∷◌, ◌++◌, length, Option, Result, Ok, Err}
use Rattle.std.specs.Io.KnownBytes.{Appends, Consumes}

-- a failed read counts one
abbrev pub read_failures : {E : Type 0} → Result ℕ E → ℕ
read_failures (Ok n) = 0
read_failures (Err e) = 1

-- What a contract sees of a reader: the bytes that reads will give from here on, where they are known, how many reads failed, and whether
-- one may fail, now or later.
pub record Seen : Type 0 where
  pub to_come : Option (List ℕ)
  pub failures : ℕ
  pub may_fail : Bool

-- What a contract sees of a writer: the bytes that it took so far, where they are known, and how many writes failed, or took none of some
-- bytes.
pub record Sent : Type 0 where
  pub taken : Option (List ℕ)
  pub failures : ℕ

-- Whether reads may fail stays as it was. Where they can't, none failed.
abbrev pub IsSteady : Seen → Seen → Type 0
IsSteady old new = (new.may_fail ≡ old.may_fail) × (old.may_fail ≡ false → new.failures ≡ old.failures)

-- a failed write counts one, and so does a write that takes none of some bytes
abbrev pub write_failures : {E : Type 0} → Result ℕ E → List ℕ → ℕ
write_failures (Ok n) [] = 0
write_failures (Ok zero) (b ∷ bytes) = 1
write_failures (Ok (suc n)) (b ∷ bytes) = 0
write_failures (Err e) bytes = 1

-- the writer took the front of the whole, and no other bytes
abbrev pub TakesFront : Option (List ℕ) → Option (List ℕ) → List ℕ → Type 0
TakesFront old new whole = (front back : List ℕ) × (whole ≡ front ++ back) × Appends old new front

-- the reader gave more bytes than a source may have
abbrev pub GivesTooMany : Option (List ℕ) → Option (List ℕ) → ℕ → Type 0
GivesTooMany old new limit = (given : List ℕ) × (limit < length given) × Consumes old new given
