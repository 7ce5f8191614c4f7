-- Carries: Given of what fits. On: terminals that pass, whose names are spelled in their form:
-- those that tokens are made of.
use Rattle.std.proofs.Common.{◌≡◌, refl, ap, ◌∙◌, Bool, true, List, [], ◌∷◌, ◌++◌, ◌&&◌}
use Rattle.std.proofs.lemmas.Bool.{and_from, and_parts}
use Rattle.std.specs.Str.{bytes_eq}
use Rattle.pytree_node.specs.declared.profiles.Profile.{Profile}
use Rattle.pytoken.specs.Terminals.{Terminal, Ident}
use Rattle.pygrammar.specs.Lines.{Line}
use Rattle.pygrammar.specs.Forms.{FormAt}
use Rattle.pygrammar.specs.Blocks.{stands_in_match}
use Rattle.pygrammar.specs.OpenStrings.{Open, open_following, open_after_all}
use Rattle.pygrammar.proofs.Callers.OpenStrings.{after_append}
use Rattle.pytree_fits.specs.Tests.{Tests}
use Rattle.pytree_fits.specs.Given.{passes, all_pass, AreGiven, no_line, a_line}
use Rattle.pytree_fits.proofs.Fields.Standing.{Standing, outside}

abbrev pub passes_as_spelled : Tests → Open → Terminal → Bool
passes_as_spelled n o (Ident x) = n.name x.form && bytes_eq x.spelling x.form
passes_as_spelled n o t = passes n o t

abbrev pub all_as_spelled : Tests → Open → List Terminal → Bool
all_as_spelled n o [] = true
all_as_spelled n o (t ∷ ts) = passes_as_spelled n o t && all_as_spelled n (open_following o t) ts

-- such terminals, after which these f-strings are open
abbrev pub Ends : Standing → Open → List Terminal → Type 0
Ends n o ts = ◌≡◌ {A = Bool × Open} (all_as_spelled n.tests n.opened ts, open_after_all n.opened ts) (true, o)

-- such terminals, after which is open what is open before them
abbrev pub Passed : Standing → List Terminal → Type 0
Passed n ts = Ends n n.opened ts

abbrev pub GivenAsSpelled : {A : Type 0} → Standing → (List Terminal → A → Type 0) → A → Type 0
GivenAsSpelled n r a = (ts : List Terminal) × Passed n ts × r ts a

pub data AreGivenAsSpelled (profile : Profile) (n : Tests) : List Line → List Line → Type 0 where
  none_spelled : {earlier : List Line} → AreGivenAsSpelled profile n earlier []
  one_spelled : {earlier : List Line} {x : Line} {xs : List Line} →
      GivenAsSpelled (outside n) (FormAt profile (stands_in_match x.level earlier)) x.form → AreGivenAsSpelled profile n (x ∷ earlier) xs
      → AreGivenAsSpelled profile n earlier (x ∷ xs)

-- a list by its parts
spelled_append : (n : Tests) (o : Open) (ts us : List Terminal) → all_as_spelled n o ts ≡ true
    → all_as_spelled n (open_after_all o ts) us ≡ true → all_as_spelled n o (ts ++ us) ≡ true
spelled_append n o [] us p q = q
spelled_append n o (t ∷ ts) us p q =
    let w = and_parts (passes_as_spelled n o t) (all_as_spelled n (open_following o t) ts) p in
    and_from (passes_as_spelled n o t) (all_as_spelled n (open_following o t) (ts ++ us)) w.0 (spelled_append n (open_following o t) ts us w.1 q)

one_passes : (n : Tests) (o : Open) (t : Terminal) → passes_as_spelled n o t ≡ true → passes n o t ≡ true
one_passes n o (Ident x) h = (and_parts (n.name x.form) (bytes_eq x.spelling x.form) h).0
one_passes n o _ h = h

all_passing_from : (n : Tests) (o : Open) (ts : List Terminal) → all_as_spelled n o ts ≡ true → all_pass n o ts ≡ true
all_passing_from n o [] h = refl
all_passing_from n o (t ∷ ts) h =
    let w = and_parts (passes_as_spelled n o t) (all_as_spelled n (open_following o t) ts) h in
    and_from (passes n o t) (all_pass n (open_following o t) ts) (one_passes n o t w.0) (all_passing_from n (open_following o t) ts w.1)

module _ (n : Standing) where
  pub spelled : {o : Open} (ts : List Terminal) → Ends n o ts → all_as_spelled n.tests n.opened ts ≡ true
  spelled ts p = ap (λ x. x.0) p

  closed : {o : Open} (ts : List Terminal) → Ends n o ts → open_after_all n.opened ts ≡ o
  closed ts p = ap (λ x. x.1) p

  ends : (o : Open) (ts : List Terminal) → all_as_spelled n.tests n.opened ts ≡ true → open_after_all n.opened ts ≡ o → Ends n o ts
  ends o ts p q = λ i. (p i, q i)

  -- after a list that closes what it opens
  pub pass_past : (o : Open) (ts us : List Terminal) → Passed n ts → Ends n o us → Ends n o (ts ++ us)
  pass_past o ts us p q =
      ends o (ts ++ us) (spelled_append n.tests n.opened ts us (spelled ts p)
      (ap (λ o. all_as_spelled n.tests o us) (closed ts p) ∙ spelled us q))
      (after_append n.opened ts us ∙ ap (λ o. open_after_all o us) (closed ts p) ∙ closed us q)

  pub pass_on : (ts us : List Terminal) → Passed n ts → Passed n us → Passed n (ts ++ us)
  pass_on ts us p q = pass_past n.opened ts us p q

  -- after a terminal
  pub pass_after : (t : Terminal) (m o : Open) (ts : List Terminal) → passes_as_spelled n.tests n.opened t ≡ true
      → open_following n.opened t ≡ m →
      Ends (record { tests = n.tests; opened = m }) o ts → Ends n o (t ∷ ts)
  pass_after t m o ts h q p =
      ends o (t ∷ ts)
      (and_from (passes_as_spelled n.tests n.opened t) (all_as_spelled n.tests (open_following n.opened t) ts) h
      (ap (λ x. all_as_spelled n.tests x ts) q ∙ ap (λ x. x.0) p))
      (ap (λ x. open_after_all x ts) q ∙ ap (λ x. x.1) p)

  -- after one that neither opens nor closes an f-string
  pub pass_in_front : (t : Terminal) (ts : List Terminal) → passes_as_spelled n.tests n.opened t ≡ true → open_following n.opened t ≡ n.opened
      → Passed n ts → Passed n (t ∷ ts)
  pass_in_front t ts h q p = pass_after t n.opened n.opened ts h q p

module _ (n : Tests) where
  pub all_passing : (ts : List Terminal) → Passed (outside n) ts → all_pass n [] ts ≡ true
  all_passing ts p = all_passing_from n [] ts (spelled (outside n) ts p)

  pub lines_given : {profile : Profile} {earlier xs : List Line} → AreGivenAsSpelled profile n earlier xs → AreGiven profile n earlier xs
  lines_given none_spelled = no_line
  lines_given (one_spelled w r) = a_line (w.0, all_passing w.0 w.1, w.2) (lines_given r)
