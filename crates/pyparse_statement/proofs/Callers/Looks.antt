-- What was read, in other words; and the terminals that stand in front of it.
--
-- Carries: each reader of statements and headers. On: Views.
use Rattle.std.proofs.Common.{◌≡◌, refl, sym, ap, subst, ◌∙◌, arith, ℕ, ◌+◌, ◌≤◌, List, [], ◌∷◌, ◌++◌, length}
use Rattle.std.proofs.Common.{Some, None, length-append}
use Rattle.pylex_lexeme.specs.declared.kinds.Exact.{Exact}
use Rattle.pytoken.specs.Terminals.{Terminal, Spelled, Ident, Op}
use Rattle.pytoken.specs.declared.values.terminals.Terminal as given
use Rattle.pygrammar.specs.Looks.{name_in}
use Rattle.pygrammar.specs.Reader.{on_name_with, on_some}
use Rattle.pyparse_nodes.specs.Views.{IsNotNamed, Stands, seen, first_is}
use Rattle.pygrammar.proofs.Callers.Terminals.{op_is}
use Rattle.pyparse_reads.proofs.Callers.Looks.{seen_length, name_is, some_first}
use Rattle.pyplaces.specs.PlacedForms.{Bare}
use Rattle.pyplaces.specs.Recording.{Records}
use Rattle.pyplaces.specs.Stretches.{Stretch}
use Rattle.pyplaces.proofs.Answers.{records_more, records_node}

-- the same part, of equal values and up to an equal place
pub moved : {A : Type 0} {x y : A} {n k : ℕ} (rest : ℕ → List Terminal) (P : A → List Terminal → ℕ → Type 0) → y ≡ x → k ≡ n
    → P x (rest n) n → P y (rest k) k
moved {x = x} {y = y} {n = n} {k = k} rest P h q p = subst (λ z. P y (rest z) z) (sym q) (subst (λ z. P z (rest n) n) (sym h) p)

-- what was recorded of some, of one more, and its own place
pub recorded_more : {S : Type 0} {after : S → Stretch → S} {u v w x : S} {ps qs : List Stretch} {s : Stretch} → Records after u ps v
    → Records after v qs w → x ≡ after w s → Records after u (ps ++ (qs ++ (s ∷ []))) x
recorded_more g d k = records_more g (records_more d (records_node k))

-- a terminal in front of a place
pub begun : {t : Terminal} {ts : List given.Terminal} {at from : ℕ} → at ≡ from + 1 → Stands t ts from → seen ts from ≡ t ∷ seen ts at
begun {t} {ts} q s = s.is ∙ ap (λ n. t ∷ seen ts n) (sym q)

-- the NAME at a place
pub record NameAt (f : List ℕ) (ts : List given.Terminal) (n : ℕ) : Type 0 where
  pub name : Spelled
  pub is : seen ts n ≡ Ident name ∷ seen ts (n + 1)
  pub form : name.form ≡ f

pub name_stands : (f : List ℕ) (ts : List given.Terminal) (n : ℕ) → Some f ≡ first_is name_in (seen ts n) → NameAt f ts n
name_stands f ts n h =
    let w = some_first name_in f ts n h in
    let v = name_is w.0 f w.2 in
    record { name = v.0; is = w.1 ∙ ap (λ t. t ∷ seen ts (n + 1)) v.1; form = v.2 }

-- no NAME with this sign after it stands there
pub not_named : (s : Exact) (ts : List given.Terminal) (at : ℕ) (x : Spelled) (r : List Terminal) → IsNotNamed s ts at
    → seen ts at ≡ Ident x ∷ (Op s ∷ r) → ⊥
not_named s ts at x r h q = go (h.is ∙ ap (λ i. on_name_with s i (λ y z. Some y) None) q)
  where
    go : None ≡ on_name_with s (Ident x ∷ (Op s ∷ r)) (λ y z. Some y) None → ⊥
    go e = absurd (cc (e ∙ ap (λ o. on_some o (λ z. Some x.form) None) (op_is s)))

-- ---- What the reader's answer says, where the grammar is clear by itself.

-- a part at the front of a list
abbrev pub At : {A : Type 0} → (List Terminal → A → Type 0) → List Terminal → A → List Terminal → Type 0
At X i a r = (us : List Terminal) × (i ≡ us ++ r) × X us a

-- how many terminals a front has
pub front_ends : (ts : List given.Terminal) (at n : ℕ) (us : List Terminal) → at ≤ n → n ≤ length ts → seen ts at ≡ us ++ seen ts n
    → at + length us ≡ n
front_ends ts at n us le w h =
    omega (arith, le, w, ap length h, length-append us (seen ts n), seen_length ts at, seen_length ts n)

pub bare_at : {A : Type 0} (X : List Terminal → A → Type 0) (ts : List given.Terminal) {at n : ℕ} {a : A} → at ≤ n → n ≤ length ts
    → At X (seen ts at) a (seen ts n) → Bare (λ us. X us a) (seen ts at) at (seen ts n) n
bare_at X ts {at} {n} le w p =
    record { front = p.0; is = p.1; ends = front_ends ts at n p.0 le w p.1; derived = p.2; places_are = refl }
