-- What stands before a rest, and what begins a list.
use Rattle.std.proofs.Common.{◌≡◌, ℕ, ◌-◌, ◌≤◌, true, List, [], ◌∷◌, ◌++◌, length, take, drop, refl, sym, ap, ◌∙◌, arith, length-append}
use Rattle.std.proofs.lemmas.List.{take_at, take-append-drop, append_assoc}
use Rattle.std.proofs.lemmas.Bool.{eqb-true}
use Rattle.pyfstring.specs.Texts.{begins_with}
use Rattle.pyfstring.specs.Cutting.{EndsWith, before}

before_front : (t r : List ℕ) → before (t ++ r) r ≡ t
unfolding before
before_front t r = let n : length (t ++ r) - length r ≡ length t = omega (arith, length-append t r) in rw n (take_at t r (length t) refl)

pub before_is : (cs t r : List ℕ) → cs ≡ t ++ r → before cs r ≡ t
before_is cs t r e = ap (λ x. before x r) e ∙ before_front t r

pub before_whole : (cs r : List ℕ) → EndsWith cs r → cs ≡ before cs r ++ r
before_whole cs r (t, e) = e ∙ ap (λ x. x ++ r) (sym (before_is cs t r e))

pub ends_all : (cs : List ℕ) → EndsWith cs cs
ends_all cs = ([], refl)

pub ends_one : (c : ℕ) (cs r : List ℕ) → EndsWith cs r → EndsWith (c ∷ cs) r
ends_one c cs r (t, e) = (c ∷ t, ap (λ x. c ∷ x) e)

pub ends_drop : (n : ℕ) (cs : List ℕ) → EndsWith cs (drop n cs)
ends_drop n cs = (take n cs, sym (take-append-drop n cs))

pub ends_through : (cs r s : List ℕ) → EndsWith cs r → EndsWith r s → EndsWith cs s
ends_through cs r s (t, e) (u, f) = (t ++ u, e ∙ ap (λ x. t ++ x) f ∙ sym (append_assoc t u s))

pub ends_length : (cs r : List ℕ) → EndsWith cs r → length r ≤ length cs
ends_length cs r (t, e) = omega (arith, length-append t r, ap length e)

pub begins_is : (c : ℕ) (cs : List ℕ) → begins_with c cs ≡ true → cs ≡ c ∷ drop 1 cs
begins_is c [] e = cc
begins_is c (d ∷ cs) e = ap (λ x. x ∷ cs) (eqb-true d c e)
