-- Text that grows by a piece, and lines by lines.
--
-- Carries: what pyunparse_text cites.
use Rattle.std.proofs.Common.{◌≡◌, ℕ, ◌+◌, ◌≤◌, Bool, true, ◌==◌, List, [], ◌∷◌, ◌++◌, refl, arith}
use Rattle.std.specs.Prelude.{nat_le}
use Rattle.std.specs.List.{list_all}
use Rattle.std.proofs.lemmas.Bool.{leb-true, le-leb, eqb-true, and_parts}
use Rattle.pyunparse_text.specs.Spacing.{Line}
use Rattle.pyunparse_text.specs.Tokens.{rise_by_one}

-- Lines that begin at a level follow lines none of which is of a lower one.
abbrev pub begin_at : ℕ → List Line → Bool
begin_at n [] = true
begin_at n (l ∷ ls) = l.level == n

pub rise_both : (m n : ℕ) (ls ms : List Line) → rise_by_one m ls ≡ true → list_all (λ l. nat_le n l.level) ls ≡ true → n ≤ m + 1
    → begin_at n ms ≡ true → rise_by_one n ms ≡ true → rise_by_one m (ls ++ ms) ≡ true
rise_both m n [] [] r a h b s = refl
rise_both m n [] (l ∷ ms) r a h b s =
    let e : l.level ≡ n = eqb-true l.level n b in
    let t = and_parts (nat_le l.level (n + 1)) (rise_by_one l.level ms) s in
    let f : nat_le l.level (m + 1) ≡ true = le-leb l.level (m + 1) (omega arith) in
    rw (f, t.1) refl
rise_both m n (l ∷ ls) ms r a h b s =
    let t = and_parts (nat_le l.level (m + 1)) (rise_by_one l.level ls) r in
    let u = and_parts (nat_le n l.level) (list_all (λ l. nat_le n l.level) ls) a in
    let i = leb-true n l.level u.0 in
    let c = rise_both l.level n ls ms t.1 u.1 (omega arith) b s in
    rw (t.0, c) refl
