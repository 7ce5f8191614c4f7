-- A row of literals and f-strings is as long as the walk to its end is: each f-string of a derivation closes those that it opens.
--
-- Carries: row_end, read_joined. On: RowEnds.
use Rattle.std.proofs.Common.{◌≡◌, ◌⊎◌, inl, inr, refl, sym, ap, ◌∙◌, ℕ, suc, ◌+◌, ◌-◌, arith, List, [], ◌∷◌, ◌++◌, length}
use Rattle.std.proofs.Common.{append_assoc}
use Rattle.std.proofs.Common.{length-append, Bool}
use Rattle.pytoken.specs.Terminals.{Terminal, FormattedBegin, FormattedEnd, FieldBegin, FieldEnd}
use Rattle.pygrammar.specs.FormattedStrings.{StringPart}
use Rattle.pygrammar.specs.Grammar as G
use Rattle.pygrammar.specs.OpenStrings.{Open, open_after_all}
use Rattle.pygrammar.proofs.Callers.OpenStrings.{formatted_closes}
use Rattle.pyplaces.specs.RowEnds.{row_length}
use Rattle.pyplaces.specs.Stretches.{Stretch}
use Rattle.pyplaces.specs.Placed.{PlacedLiterals, PlacedFormatted}

-- within these f-strings, and d more around an open one
abbrev depth : Open → ℕ → ℕ
depth [] d = suc d
depth (k ∷ q) d = suc (depth q d)

-- Terminals within an open f-string, and within those of q in it: those that are left open, and the walk over the terminals; n is the
-- number of the open one's fields.
record Stays (ts : List Terminal) (q : Open) (n d : ℕ) : Type 0 where
  left : Open
  fields : ℕ
  is : open_after_all (q ++ (n ∷ [])) ts ≡ left ++ (fields ∷ [])
  walk : (r : List Terminal) → row_length (depth q d) (ts ++ r) ≡ length ts + row_length (depth left d) r

-- they end the open one, so what is open after them is what would be without it
abbrev Leaves : List Terminal → Open → ℕ → Type 0
Leaves ts q n = open_after_all (q ++ (n ∷ [])) ts ≡ open_after_all q ts

-- one terminal in front, after which p are open
step : {ts : List Terminal} {p q : Open} {m n d : ℕ} (t : Terminal)
    → open_after_all (q ++ (n ∷ [])) (t ∷ ts) ≡ open_after_all (p ++ (m ∷ [])) ts → open_after_all q (t ∷ ts) ≡ open_after_all p ts
    → ((r : List Terminal) → row_length (depth q d) (t ∷ (ts ++ r)) ≡ suc (row_length (depth p d) (ts ++ r)))
    → (Stays ts p m d) ⊎ (Leaves ts p m) → (Stays (t ∷ ts) q n d) ⊎ (Leaves (t ∷ ts) q n)
step t a b w (inl s) = inl (record {
  left = s.left;
  fields = s.fields;
  is = a ∙ s.is;
  walk = λ r. omega (arith, w r, s.walk r);
})
step t a b w (inr l) = inr (a ∙ (l ∙ sym b))

stays_or_leaves : (ts : List Terminal) (q : Open) (n d : ℕ) → (Stays ts q n d) ⊎ (Leaves ts q n)
stays_or_leaves [] q n d = inl (record { left = q; fields = n; is = refl; walk = λ r. omega arith })
stays_or_leaves (FormattedBegin ∷ ts) [] n d =
    step {p = 0 ∷ []} {m = n} FormattedBegin refl refl (λ r. refl) (stays_or_leaves ts (0 ∷ []) n d)
stays_or_leaves (FormattedBegin ∷ ts) (k ∷ q) n d =
    step {p = 0 ∷ k ∷ q} {m = n} FormattedBegin refl refl (λ r. refl) (stays_or_leaves ts (0 ∷ k ∷ q) n d)
stays_or_leaves (FormattedEnd ∷ ts) [] n d = inr refl
stays_or_leaves (FormattedEnd ∷ ts) (k ∷ q) n d =
    step {p = q} {m = n} FormattedEnd refl refl (λ r. refl) (stays_or_leaves ts q n d)
stays_or_leaves (FieldBegin c ∷ ts) [] n d =
    step {p = []} {m = suc n} (FieldBegin c) refl refl (λ r. refl) (stays_or_leaves ts [] (suc n) d)
stays_or_leaves (FieldBegin c ∷ ts) (k ∷ q) n d =
    step {p = suc k ∷ q} {m = n} (FieldBegin c) refl refl (λ r. refl) (stays_or_leaves ts (suc k ∷ q) n d)
stays_or_leaves (FieldEnd ∷ ts) [] n d =
    step {p = []} {m = n - 1} FieldEnd refl refl (λ r. refl) (stays_or_leaves ts [] (n - 1) d)
stays_or_leaves (FieldEnd ∷ ts) (k ∷ q) n d =
    step {p = (k - 1) ∷ q} {m = n} FieldEnd refl refl (λ r. refl) (stays_or_leaves ts ((k - 1) ∷ q) n d)
stays_or_leaves (t ∷ ts) [] n d = step {p = []} {m = n} t refl refl (λ r. refl) (stays_or_leaves ts [] n d)
stays_or_leaves (t ∷ ts) (k ∷ q) n d = step {p = k ∷ q} {m = n} t refl refl (λ r. refl) (stays_or_leaves ts (k ∷ q) n d)

one_left : (q : Open) (m n : ℕ) → n ∷ [] ≡ q ++ (m ∷ []) → q ≡ []
one_left [] m n h = refl
one_left (k ∷ []) m n h = absurd (cc)
one_left (k ∷ (j ∷ q)) m n h = absurd (cc)

some_or_none : (n : ℕ) → ◌≡◌ {A = Open} (n ∷ []) [] → ⊥
some_or_none n h = absurd (cc)

-- the terminals within an f-string are walked over
within : (ts : List Terminal) → ((o : Open) → open_after_all o ts ≡ o) → (d : ℕ) (r : List Terminal)
    → row_length (suc d) (ts ++ r) ≡ length ts + row_length (suc d) r
within ts h d r = elim (stays_or_leaves ts [] 0 d) [
  | inl s ↦ s.walk r ∙ ap (λ z. length ts + row_length (depth z d) r) (one_left s.left s.fields 0 (sym (h (0 ∷ [])) ∙ s.is))
  | inr l ↦ absurd (some_or_none 0 (sym (h (0 ∷ [])) ∙ (l ∙ h [])))
]

-- an f-string from after its begin on, and what is after it
formatted_walk : {u : Bool} {ts : List Terminal} {ps : List StringPart} → G.Formatted u ts ps → (d : ℕ) (r : List Terminal)
    → row_length (suc d) (ts ++ (FormattedEnd ∷ r)) ≡ length ts + suc (row_length d r)
formatted_walk {ts = ts} p d r = within ts (formatted_closes p) d (FormattedEnd ∷ r)

-- literals and f-strings, up to where the row ends
literals_walk : {u : Bool} {ts : List Terminal} {ps : List StringPart} → G.Literals u ts ps → (r : List Terminal) → row_length 0 r ≡ 0
    → row_length 0 (ts ++ r) ≡ length ts
literals_walk G.no_literal r h = h
literals_walk (G.text_literal c) r h = ap suc (literals_walk c r h)
literals_walk (G.formatted_literal {ts = ts} {us = us} p c) r h =
    ap (λ z. suc (row_length 1 z)) (append_assoc ts (FormattedEnd ∷ us) r)
    ∙ omega (arith, formatted_walk p 0 (us ++ r), literals_walk c r h, length-append ts (FormattedEnd ∷ us))

-- the row's end, from after the begin of its first f-string
pub row_walk : {u : Bool} {row : Stretch} {i s j r : List Terminal} {at m following : ℕ} {ps qs : List StringPart}
    {fs gs : List (List Stretch)}
    → PlacedFormatted u row i at ps s m fs → s ≡ FormattedEnd ∷ j → PlacedLiterals u row j (m + 1) qs r following gs
    → row_length 0 r ≡ 0 → at + row_length 1 i ≡ following
row_walk {i = i} {s = s} {j = j} {r = r} p k q h =
    let e : i ≡ p.front ++ (FormattedEnd ∷ (q.front ++ r)) = p.is ∙ ap (λ z. p.front ++ z) (k ∙ ap (λ z. FormattedEnd ∷ z) q.is) in
    omega (arith, ap (λ z. row_length 1 z) e, formatted_walk p.derived 0 (q.front ++ r), literals_walk q.derived r h, p.ends, q.ends)
