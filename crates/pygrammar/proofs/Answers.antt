-- Answers of readers: which differ, and what equal ones have in common.
--
-- Carries: found_one, found_rest, deep_found, none_found, deep_none, rest_found, for Limits, Whole, Line/Limit and 10 more.
use Rattle.std.proofs.Common.{◌≡◌, List, [], ◌∷◌}
use Rattle.pytoken.specs.Terminals.{Terminal}
use Rattle.pygrammar.specs.Reader.{Answer, Found, NoForm, TooDeep}

pub found_one : {A : Type 0} (a b : A) (r s : List Terminal) → ◌≡◌ {A = Answer A} (Found a r) (Found b s) → a ≡ b
found_one a b r s h = cc

pub found_rest : {A : Type 0} (a b : A) (r s : List Terminal) → ◌≡◌ {A = Answer A} (Found a r) (Found b s) → r ≡ s
found_rest a b r s h = cc

pub rest_found : {A : Type 0} (a b : A) (t : Terminal) (r : List Terminal) → ◌≡◌ {A = Answer A} (Found a (t ∷ r)) (Found b []) → ⊥
rest_found a b t r h = absurd (cc)

pub none_found : {A : Type 0} (a : A) (r : List Terminal) → ◌≡◌ {A = Answer A} NoForm (Found a r) → ⊥
none_found a r h = absurd (cc)

pub deep_found : {A : Type 0} (a : A) (r : List Terminal) → ◌≡◌ {A = Answer A} TooDeep (Found a r) → ⊥
deep_found a r h = absurd (cc)

pub deep_none : {A : Type 0} → ◌≡◌ {A = Answer A} TooDeep NoForm → ⊥
deep_none h = absurd (cc)
