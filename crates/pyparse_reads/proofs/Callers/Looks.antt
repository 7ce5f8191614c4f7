-- What stands at a place, or doesn't, and answers that are handed on.
--
-- Carries: the readers of expressions, and those over them.
use Rattle.std.proofs.Common.{◌≡◌, refl, sym, ap, subst, ◌∙◌, arith, ℕ, ◌+◌, ◌-◌, ◌≤◌, List, [], ◌∷◌, drop, drop-drop, map, length}
use Rattle.std.proofs.Common.{length-drop, Option, Some, None, Result, Ok, Err}
use Rattle.std.proofs.lemmas.List.{length-map}
use Rattle.pylex_lexeme.specs.declared.kinds.Exact.{Exact}
use Rattle.pytree_node.specs.Trees.{Expr}
use Rattle.pytree_node.specs.TreeOf.{tree_of}
use Rattle.pytoken.specs.declared.keywords.Keyword.{Keyword}
use Rattle.pytoken.specs.Terminals.{Terminal, Spelled, Op, Word, Ident}
use Rattle.pytoken.specs.declared.values.terminals.Terminal as given
use Rattle.pytoken.specs.TerminalOf.{terminal}
use Rattle.pytree_height.specs.Heights.{height}
use Rattle.pygrammar.specs.Looks.{is_op, is_word, name_in}
use Rattle.pygrammar.specs.Reader.{Answer, Found, and_then, on_first, on_name_with, on_some}
use Rattle.pyparse_nodes.specs.declared.stop.Stop.{Stop}
use Rattle.pyparse_nodes.specs.declared.stop.Stop.TheVariants as stop
use Rattle.pyparse_nodes.specs.Views.{seen, first_is, first_of, IsNotNamed}
use Rattle.pyparse_nodes.proofs.Callers.Places
use Rattle.pyparse_nodes.specs.declared.found.Read.{Read}
use Rattle.pyparse_nodes.specs.Answers.{Failed, Answered, Makes}
use Rattle.pyplaces.specs.Placed.{ReadAs}
use Rattle.pyplaces.specs.Recording.{afters, Records}
use Rattle.pyplaces.specs.Rests.{Lacks}
use Rattle.pyplaces.specs.Stretches.{Stretch}
use Rattle.pyplaces.proofs.Answers.{lacks_op, lacks_word}

-- places
pub seen_next : (ts : List given.Terminal) (n : ℕ) → drop 1 (seen ts n) ≡ seen ts (n + 1)
seen_next ts n = drop-drop 1 n (map _ ts)

pub seen_length : (ts : List given.Terminal) (n : ℕ) → length (seen ts n) ≡ length ts - n
seen_length ts n = length-drop n (map _ ts) ∙ ap (λ z. z - n) (length-map ts _)

-- the first terminal of a place, and those after it
pub front : (ts : List given.Terminal) (at : ℕ) (t : Terminal) → first_of (seen ts at) ≡ Some t → seen ts at ≡ t ∷ seen ts (at + 1)
front = Places.front

-- why there is no answer, handed on
pub failed_then : {A B : Type 0} (s : Stop) (x : Answer A) (k : A → List Terminal → Answer B) → Failed s x → Failed s (and_then x k)
failed_then stop.NoForm x k h = ap (λ z. and_then z k) h
failed_then stop.TooDeep x k h = ap (λ z. and_then z k) h
failed_then stop.Memory x k h = tt

-- a node that is no higher than the room
pub low_node : (ts : List given.Terminal) (room least : ℕ) (e : Expr) (n : ℕ) (z : Result Read Stop) → least ≤ n → n ≤ length ts
    → height e ≤ room → Makes room e n z → Answered ts room least (Found e (seen ts n)) z
low_node ts room least e n (Ok r) le w b h = record {
  ahead = omega (arith, le, h.next_is);
  within = omega (arith, w, h.next_is);
  low = h.low;
  is = ap (λ t. Found t (seen ts n)) (sym h.tree) ∙ ap (λ m. Found (tree_of r.expr.value) (seen ts m)) (sym h.next_is);
}
low_node ts room least e n (Err stop.NoForm) le w b h = absurd h
low_node ts room least e n (Err stop.TooDeep) le w b h = absurd (omega (arith, b, h))
low_node ts room least e n (Err stop.Memory) le w b h = tt

-- a choice by a test on the first terminal, where the test fails
pub first_miss : {A B : Type 0} (f : Terminal → Option A) (r : List Terminal) (hit : A → List Terminal → B) (miss : B) → None ≡ first_is f r
    → on_first f r hit miss ≡ miss
first_miss f [] hit miss h = refl
first_miss f (t ∷ r) hit miss h = ap (λ o. on_some o (λ b. hit b r) miss) (sym h)

pub first_hit : {A B : Type 0} (f : Terminal → Option A) (r : List Terminal) (a : A) (hit : A → List Terminal → B) (miss : B)
    → Some a ≡ first_is f r → on_first f r hit miss ≡ hit a (drop 1 r)
first_hit f [] a hit miss h = absurd (cc)
first_hit f (t ∷ r) a hit miss h = ap (λ o. on_some o (λ b. hit b r) miss) (sym h)

pub name_miss : {B : Type 0} (s : Exact) (ts : List given.Terminal) (at : ℕ) (hit : List ℕ → List Terminal → B) (miss : B)
    → IsNotNamed s ts at → on_name_with s (seen ts at) hit miss ≡ miss
name_miss {B} s ts at hit miss h = go (seen ts at) h.is
  where
    sign : (x : List ℕ) (r : List Terminal) → None ≡ on_first (is_op s) r (λ _ r2. Some x) None
        → on_first (is_op s) r (λ _ r2. hit x r2) miss ≡ miss
    sign x [] h = refl
    sign x (t ∷ r) h = by (is_op s t) h
      where
        by : (o : Option ℕ) → None ≡ on_some o (λ _. Some x) None → on_some o (λ _. hit x r) miss ≡ miss
        by None h = refl
        by (Some y) h = absurd (cc)

    go : (r : List Terminal) → None ≡ on_name_with s r (λ x r2. Some x) None → on_name_with s r hit miss ≡ miss
    go [] h = refl
    go (t ∷ r) h = by (name_in t) h
      where
        by : (o : Option (List ℕ)) → None ≡ on_some o (λ x. on_first (is_op s) r (λ _ r2. Some x) None) None
            → on_some o (λ x. on_first (is_op s) r (λ _ r2. hit x r2) miss) miss ≡ miss
        by None h = refl
        by (Some x) h = sign x r h

-- equal places
pub with_places : {P : Type 0} {X : List Terminal → Type 0} {f : (ts : List Terminal) → ℕ → X ts → P} {i r : List Terminal}
    {at following : ℕ} {ps qs : P} → ps ≡ qs → ReadAs X f i at r following ps → ReadAs X f i at r following qs
with_places h p = record { front = p.front; is = p.is; ends = p.ends; derived = p.derived; places_are = p.places_are ∙ h }

pub records_as : {S : Type 0} {after : S → Stretch → S} {u v : S} {ps qs : List Stretch} → ps ≡ qs → Records after u qs v
    → Records after u ps v
records_as {after = after} {u = u} h r = record { is = r.is ∙ ap (λ z. afters after u z) (sym h) }

-- the same number before it
pub placed_at : {P : Type 0} {X : List Terminal → Type 0} {f : (ts : List Terminal) → ℕ → X ts → P} {i r : List Terminal}
    {at n following : ℕ} {ps : P} → at ≡ n → ReadAs X f i at r following ps → ReadAs X f i n r following ps
placed_at {X = X} {f = f} {i = i} {r = r} {following = following} {ps = ps} h p = subst (λ z. ReadAs X f i z r following ps) h p

pub none_first : {A : Type 0} (f : Terminal → Option A) {r : List Terminal} → None ≡ first_is f r → (t : Terminal) (s : List Terminal)
    → r ≡ t ∷ s → f t ≡ None
none_first f h t s q = sym (h ∙ ap (first_is f) q)

pub no_op : (x : Exact) {r : List Terminal} → None ≡ first_is (is_op x) r → Lacks (Op x) r
no_op x h = lacks_op x (none_first (is_op x) h)

pub no_word : (x : Keyword) {r : List Terminal} → None ≡ first_is (is_word x) r → Lacks (Word x) r
no_word x h = lacks_word x (none_first (is_word x) h)

-- a terminal of which a test says something
pub some_first : {A : Type 0} (f : Terminal → Option A) (a : A) (ts : List given.Terminal) (n : ℕ) → Some a ≡ first_is f (seen ts n)
    → (t : Terminal) × (seen ts n ≡ t ∷ seen ts (n + 1)) × (f t ≡ Some a)
some_first f a ts n h = go (seen ts n) h (drop-drop 1 n (map terminal ts))
  where
    go : (r : List Terminal) {s : List Terminal} → Some a ≡ first_is f r → drop 1 r ≡ s → (t : Terminal) × (r ≡ t ∷ s) × (f t ≡ Some a)
    go [] h q = absurd (cc)
    go (t ∷ r) h q = (t, ap (λ z. t ∷ z) q, sym h)

pub name_is : (t : Terminal) (f : List ℕ) → name_in t ≡ Some f → (x : Spelled) × (t ≡ Ident x) × (x.form ≡ f)
name_is (Ident x) f h = (x, refl, cc)
name_is _ f h = absurd (cc)

-- the NAME at a place
pub name_first : (f : List ℕ) (ts : List given.Terminal) (n : ℕ) → Some f ≡ first_is name_in (seen ts n)
    → (x : Spelled) × (seen ts n ≡ Ident x ∷ seen ts (n + 1)) × (x.form ≡ f)
name_first f ts n h =
    let w = some_first name_in f ts n h in
    let v = name_is w.0 f w.2 in
    (v.0, w.1 ∙ ap (λ t. t ∷ seen ts (n + 1)) v.1, v.2)
