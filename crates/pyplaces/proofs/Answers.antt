-- Steps of an answer: from what a function's calls ensure to what it ensures itself.
--
-- Carries: each function that records. On: Fronts.
use Rattle.std.proofs.Common.{◌≡◌, refl, sym, ap, subst, ◌∙◌, ℕ, List, [], ◌∷◌, ◌++◌, None, append_assoc}
use Rattle.std.proofs.lemmas.List.{append-nil}
use Rattle.pylex_lexeme.specs.declared.kinds.Exact.{Exact}
use Rattle.pylex_lexeme.specs.declared.kinds.Exact.TheVariants.{LPar}
use Rattle.pytoken.specs.declared.keywords.Keyword.{Keyword}
use Rattle.pytoken.specs.declared.keywords.Keyword.TheVariants as Key
use Rattle.pytree_node.specs.Trees.{Expr}
use Rattle.pytoken.specs.Terminals.{Terminal, Op, Word}
use Rattle.pygrammar.specs.declared.levels.Level.{Level}
use Rattle.pygrammar.specs.Looks.{is_op, is_word}
use Rattle.pyplaces.specs.Stretches.{Stretch, stretch}
use Rattle.pyplaces.specs.Recording.{afters, Records, Carried}
use Rattle.pyplaces.specs.Placed.{ReadAs, Placed}
use Rattle.pyplaces.specs.Rests.{Lacks}
use Rattle.pyplaces.specs.Standing.{Standing}

-- ---- What was made is a node of this tree, up to this place; `rest` is what is seen from a place on.

pub placed_as : {l : Level} {i : List Terminal} {at n k : ℕ} {e f : Expr} {ps : List Stretch} (rest : ℕ → List Terminal) → f ≡ e → k ≡ n
    → Placed l i at e (rest n) n ps → Placed l i at f (rest k) k ps
placed_as {l} {i} {at} {n} {e = e} {f = f} {ps = ps} rest h q p =
    subst (λ z. Placed l i at f (rest z) z ps) (sym q) (subst (λ z. Placed l i at z (rest n) n ps) (sym h) p)

pub standing_as : {c : ℕ} {i : List Terminal} {at n k : ℕ} {e f : Expr} {ps : List Stretch} (rest : ℕ → List Terminal) → f ≡ e → k ≡ n
    → Standing c i at e (rest n) n ps → Standing c i at f (rest k) k ps
standing_as {c} {i} {at} {n} {e = e} {f = f} {ps = ps} rest h q p =
    subst (λ z. Standing c i at f (rest z) z ps) (sym q) (subst (λ z. Standing c i at z (rest n) n ps) (sym h) p)

-- any other part, up to this place
pub read_as : {P : Type 0} {X : List Terminal → Type 0} {f : (ts : List Terminal) → ℕ → X ts → P} {i : List Terminal} {at n k : ℕ} {ps : P}
    (rest : ℕ → List Terminal) → k ≡ n → ReadAs X f i at (rest n) n ps → ReadAs X f i at (rest k) k ps
read_as {X = X} {f = f} {i = i} {at = at} {ps = ps} rest q p = subst (λ z. ReadAs X f i at (rest z) z ps) (sym q) p

-- any part, from this place on: `at + 1 + 1` is `at + 2`
pub read_from : {P : Type 0} {X : List Terminal → Type 0} {f : (ts : List Terminal) → ℕ → X ts → P} {r : List Terminal} {at k following : ℕ}
    {ps : P} (rest : ℕ → List Terminal) → k ≡ at → ReadAs X f (rest at) at r following ps → ReadAs X f (rest k) k r following ps
read_from {X = X} {f = f} {r = r} {following = following} {ps = ps} rest q p = subst (λ z. ReadAs X f (rest z) z r following ps) (sym q) p

-- ---- A sign or a word doesn't stand there.

none_op : (x : Exact) → is_op x (Op x) ≡ None → ⊥
none_op LPar h = absurd (cc)
none_op _ h = absurd (cc)

none_word : (x : Keyword) → is_word x (Word x) ≡ None → ⊥
none_word Key.If h = absurd (cc)
none_word _ h = absurd (cc)

pub lacks_op : {r : List Terminal} (x : Exact) → ((t : Terminal) (s : List Terminal) → r ≡ t ∷ s → is_op x t ≡ None) → Lacks (Op x) r
lacks_op x f s h = none_op x (f (Op x) s h)

pub lacks_word : {r : List Terminal} (x : Keyword) → ((t : Terminal) (s : List Terminal) → r ≡ t ∷ s → is_word x t ≡ None)
    → Lacks (Word x) r
lacks_word x f s h = none_word x (f (Word x) s h)

-- ---- Recorders, one after the other: what was recorded by parts, and by a node.

pub afters_append : {S : Type 0} (after : S → Stretch → S) (w : S) (ps qs : List Stretch)
    → afters after w (ps ++ qs) ≡ afters after (afters after w ps) qs
afters_append after w [] qs = refl
afters_append after w (s ∷ ps) qs = afters_append after (after w s) ps qs

module _ {S : Type 0} {after : S → Stretch → S} where
  pub records_none : {u : S} → Records after u [] u
  records_none = record { is = refl }

  pub records_node : {u v : S} {s : Stretch} → v ≡ after u s → Records after u (s ∷ []) v
  records_node h = record { is = h }

  -- a node that a maker made up to n
  pub records_made : {u v : S} {at n k : ℕ} → v ≡ after u (stretch at k) → k ≡ n → Records after u (stretch at n ∷ []) v
  records_made {u = u} {at = at} h q = record { is = h ∙ ap (λ z. after u (stretch at z)) q }

  pub records_more : {u v w : S} {ps qs : List Stretch} → Records after u ps v → Records after v qs w → Records after u (ps ++ qs) w
  records_more {u = u} {ps = ps} {qs = qs} h k =
      record { is = k.is ∙ (ap (λ z. afters after z qs) h.is ∙ sym (afters_append after u ps qs)) }

module _ {S A : Type 0} {after : S → Stretch → S} (P : A → List Stretch → Type 0) where
  pub carried_none : (x : A) (u : S) → Carried after P x x u u
  carried_none x u ps p = ([], subst (P x) (sym (append-nil ps)) p, records_none)

  pub carried_more : {u v w : S} (x y z : A) → Carried after P x y u v → Carried after P y z v w → Carried after P x z u w
  carried_more x y z h k ps p =
      let a = h ps p in let b = k (ps ++ a.0) a.1 in (a.0 ++ b.0, subst (P z) (append_assoc ps a.0 b.0) b.1, records_more a.2 b.2)
