-- Carries: the laws of the slots. On: where terminals stand: the f-strings that are open before them.
use Rattle.std.proofs.Common.{◌≡◌, refl, sym, subst, ℕ, List, [], ◌∷◌, ◌++◌, Bool, true}
use Rattle.std.proofs.lemmas.Bool.{and_from, and_parts}
use Rattle.pytoken.specs.Terminals.{Terminal}
use Rattle.pygrammar.specs.OpenStrings.{Open, open_following, open_after_all}
use Rattle.pytree_fits.specs.Tests.{Tests, within}
use Rattle.pytree_fits.specs.Given.{passes, all_pass}

-- tests, and the f-strings that are open
pub record Standing : Type 0 where
  pub tests : Tests
  pub opened : Open

-- where none is open
abbrev pub outside : Tests → Standing
outside n = record { tests = n; opened = [] }

-- the tests of the tree that the terminals there give
abbrev pub here : Standing → Tests
here n = within n.opened n.tests

-- in an f-string there, with so many fields open
abbrev pub in_string : Standing → ℕ → Standing
in_string n d = record { tests = n.tests; opened = d ∷ n.opened }

abbrev pub pass_at : Standing → List Terminal → Bool
pass_at n ts = all_pass n.tests n.opened ts

left_from : (n : Tests) (o : Open) (ts us : List Terminal) → all_pass n o (ts ++ us) ≡ true → all_pass n o ts ≡ true
left_from n o [] us s = refl
left_from n o (t ∷ ts) us s =
    let w = and_parts (passes n o t) (all_pass n (open_following o t) (ts ++ us)) s in
    and_from (passes n o t) (all_pass n (open_following o t) ts) w.0 (left_from n (open_following o t) ts us w.1)

right_from : (n : Tests) (o : Open) (ts us : List Terminal) → all_pass n o (ts ++ us) ≡ true → all_pass n (open_after_all o ts) us ≡ true
right_from n o [] us s = s
right_from n o (t ∷ ts) us s = right_from n (open_following o t) ts us (and_parts (passes n o t) (all_pass n (open_following o t) (ts ++ us)) s).1

pub both_from : (n : Tests) (o : Open) (ts us : List Terminal) → all_pass n o ts ≡ true → all_pass n (open_after_all o ts) us ≡ true
    → all_pass n o (ts ++ us) ≡ true
both_from n o [] us p q = q
both_from n o (t ∷ ts) us p q =
    let w = and_parts (passes n o t) (all_pass n (open_following o t) ts) p in
    and_from (passes n o t) (all_pass n (open_following o t) (ts ++ us)) w.0 (both_from n (open_following o t) ts us w.1 q)

module _ (n : Standing) where
  pub left : (ts us : List Terminal) → pass_at n (ts ++ us) ≡ true → pass_at n ts ≡ true
  left ts us s = left_from n.tests n.opened ts us s

  -- after a list that closes the f-strings that it opens
  pub right : (ts : List Terminal) → ((o : Open) → open_after_all o ts ≡ o) → (us : List Terminal)
      → pass_at n (ts ++ us) ≡ true → pass_at n us ≡ true
  right ts c us s = subst (λ o. all_pass n.tests o us ≡ true) (c n.opened) (right_from n.tests n.opened ts us s)

  -- after one that neither opens nor closes one
  pub following : (t : Terminal) → open_following n.opened t ≡ n.opened → (ts : List Terminal) → pass_at n (t ∷ ts) ≡ true → pass_at n ts ≡ true
  following t q ts s = subst (λ o. all_pass n.tests o ts ≡ true) q
      (and_parts (passes n.tests n.opened t) (all_pass n.tests (open_following n.opened t) ts) s).1

  pub both_pass : (ts : List Terminal) → ((o : Open) → open_after_all o ts ≡ o) → (us : List Terminal) → pass_at n ts ≡ true
      → pass_at n us ≡ true → pass_at n (ts ++ us) ≡ true
  both_pass ts c us p q = both_from n.tests n.opened ts us p (subst (λ o. all_pass n.tests o us ≡ true) (sym (c n.opened)) q)
