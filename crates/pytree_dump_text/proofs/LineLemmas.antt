-- One blank more.
--
-- Carries: push_blanks, leave.
use Rattle.std.proofs.Common.{◌≡◌, ℕ, ◌+◌, replicate, ◌++◌, codes}
use Rattle.std.proofs.lemmas.List.{replicate-append-replicate}

pub one_blank : (i : ℕ) → replicate {A = ℕ} i 32 ++ codes " " ≡ replicate {A = ℕ} (i + 1) 32
one_blank i = replicate-append-replicate i 1 32
