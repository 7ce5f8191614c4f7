-- What the reader of patterns answers is derived: literals, names with points, keys and classes.
--
-- Carries: says_cap, says_choice, literal_sound, dotted_sound, key_sound, for SoundLists, Sound.
-- On: Says, Sound of expressions, HeightLemmas.
use Rattle.std.proofs.Common.{◌≡◌, refl, sym, ap, ◌∙◌, ℕ, zero, suc, ◌≤◌, List, [], ◌∷◌, ◌++◌, length, Some, None, Bool, true, false, cond}
use Rattle.std.proofs.Common.{leb, append_assoc}
use Rattle.std.proofs.lemmas.Bool.{leb-true}
use Rattle.std.proofs.lemmas.Option.{same_Some}
use Rattle.pylex_lexeme.specs.declared.kinds.Exact.TheVariants.{Minus, Dot}
use Rattle.pytree_node.specs.declared.operators.Context.TheVariants.{Load}
use Rattle.pygrammar.specs.declared.levels.Level.TheVariants.{Sum}
use Rattle.pytree_node.specs.Trees
use Rattle.pytree_node.specs.Trees.{Expr, Identifier}
use Rattle.pytree_node.specs.Values
use Rattle.pytoken.specs.Terminals.{Spelled, Terminal, Op, Ident, Number, Literal, FormattedBegin}
use Rattle.pytree_height.specs.Heights.{height}
use Rattle.pygrammar.specs.Operators.{left_operator}
use Rattle.pygrammar.specs.Reader.{Answer, Found, NoForm, TooDeep, Reads}
use Rattle.pygrammar.specs.PatternOperators.{is_imaginary, singleton_word}
use Rattle.pygrammar.specs.PatternGrammar as P
use Rattle.pygrammar.specs.PatternReader.{cap_by, imaginary_in, number_in, number_rest, literal_or, dotted_loop, dotted_from, named_key}
use Rattle.pygrammar.specs.PatternReader.{read_key}
use Rattle.pygrammar.proofs.Soundness.Says.{Says, SoundAt, found, no_form, deep, says_then, says_first, says_op, says_name, says_is}
use Rattle.pygrammar.proofs.Soundness.SoundStrings.{joined_sound, literals_sound}

-- ---- Tests with what they tell.

pub says_cap : {A : Type 0} {Q : A → List Terminal → Type 0} (f : A → ℕ) (d : ℕ) (x : Answer A) → Says Q x
    → Says (λ a r. Q a r × (f a ≤ d)) (cap_by f d x)
says_cap {A} {Q} f d x (found {a = a} {r = r} p) = go (leb (f a) d) refl
  where
    go : (b : Bool) → leb (f a) d ≡ b → Says (λ a r. Q a r × (f a ≤ d)) (cond b (Found a r) TooDeep)
    go true h = found (p, leb-true (f a) d h)
    go false h = deep
says_cap f d x no_form = no_form
says_cap f d x deep = deep

pub says_choice : {B : Type 0} {Q : B → List Terminal → Type 0} (b : Bool) (x y : Answer B) → (b ≡ true → Says Q x)
    → (b ≡ false → Says Q y) → Says Q (cond b x y)
says_choice true x y h k = h refl
says_choice false x y h k = k refl

-- ---- Literals.

number_is : (t : Terminal) (v : Values.Value) → number_in t ≡ Some v → t ≡ Number v
number_is (Number w) v h = ap Number (same_Some w v h)
number_is _ v h = absurd (cc)

imaginary_is : (t : Terminal) (v : Values.Value) → imaginary_in t ≡ Some v → (t ≡ Number v) × (is_imaginary v ≡ true)
imaginary_is (Number w) v h = go (is_imaginary w) refl h
  where
    go : (b : Bool) → is_imaginary w ≡ b → cond b (Some w) None ≡ Some v → (Number w ≡ Number v) × (is_imaginary v ≡ true)
    go true e k = (ap Number (same_Some w v k), ap is_imaginary (sym (same_Some w v k)) ∙ e)
    go false e k = absurd (cc)
imaginary_is _ v h = absurd (cc)

abbrev LiteralAt : List Terminal → Expr → List Terminal → Type 0
LiteralAt i e r = (ts : List Terminal) × (i ≡ ts ++ r) × P.LiteralOf ts e

number_sound : {v : Values.Value} {ts : List Terminal} {e : Expr} (i r : List Terminal) → i ≡ ts ++ r → P.SignedNumber v ts e
    → Says (LiteralAt i) (number_rest v e r)
number_sound {v} {ts} {e} i r q p =
    says_choice (is_imaginary v) _ _ (λ _. found (ts, q, P.number p)) (λ real.
    says_first (left_operator Sum) r _ _
    (λ t o s h u. says_first imaginary_in s _ _
    (λ n w s1 k v1. let z = imaginary_is n w k in found (
      ts ++ (t ∷ (Number w ∷ [])),
      rw (q, u, v1, z.0) (simp append_assoc refl),
      P.complex t p real h z.1,
    ))
    (λ _. no_form))
    (λ _. found (ts, q, P.number p)))

minus_sound : (self : Reads) (s : List Terminal) → Says (LiteralAt (Op Minus ∷ s)) (literal_or self (Op Minus ∷ s) NoForm)
minus_sound self s =
    says_first number_in s _ _
    (λ t v s1 h q. number_sound (Op Minus ∷ s) s1 (ap (λ z. Op Minus ∷ z) (q ∙ ap (λ z. z ∷ s1) (number_is t v h)))
    P.negative) (λ _. no_form)

module _ (self : Reads) (fields : SoundAt self) where
  pub literal_sound : {Q : Expr → List Terminal → Type 0} (i : List Terminal) (other : Answer Expr)
      → ((e : Expr) (r ts : List Terminal) → i ≡ ts ++ r → P.LiteralOf ts e → Q e r) → Says Q other → Says Q (literal_or self i other)
  literal_sound [] other f g = g
  literal_sound (Number v ∷ r) other f g = says_is _ (number_sound (Number v ∷ r) r refl P.unsigned) (λ e s p. f e s p.0 p.1 p.2)
  literal_sound (Literal v ∷ r) other f g =
      says_is _ (literals_sound self fields P.LiteralOf (λ u ts ps l b h. P.joined_string l b h) (λ v w vs h. P.strings vs h) v r)
      (λ e s p. f e s p.0 p.1 p.2)
  literal_sound (FormattedBegin ∷ r) other f g = says_is _ (joined_sound self fields P.LiteralOf (λ u ts ps l b h. P.joined_string l b h) r)
      (λ e s p. f e s p.0 p.1 p.2)
  literal_sound (Op Minus ∷ r) other f g = says_is _ (minus_sound self r) (λ e s p. f e s p.0 p.1 p.2)
  literal_sound (Op _ ∷ r) other f g = g
  literal_sound (_ ∷ r) other f g = g

-- ---- Names with points.

abbrev pub DottedAt : Identifier → List Terminal → Expr → List Terminal → Type 0
DottedAt f i e r = (ts : List Terminal) × (i ≡ ts ++ r) × P.Dotted f ts e

dotted_loop_sound : (d m : ℕ) (f : Identifier) (i : List Terminal) (e : Expr) (r : List Terminal) → DottedAt f i e r
    → Says (DottedAt f i) (dotted_loop d m e r)
dotted_loop_sound d zero f i e r p = found p
dotted_loop_sound d (suc m) f i e r p =
    says_op Dot r _ _
    (λ a s q. says_name s _ _
    (λ x u v. says_then _ _ (says_cap height d (Found (Trees.Attribute e x.form Load) u)
    (found (p.0 ++ (Op Dot ∷ (Ident x ∷ [])), rw (p.1, q, v) (simp append_assoc refl), P.dot_name x p.2)))
    (λ g r1 y. dotted_loop_sound d m f i g r1 y.0))
    no_form)
    (λ _. found p)

pub dotted_sound : (d : ℕ) (x : Spelled) (r : List Terminal) → Says (DottedAt x.form (Ident x ∷ r)) (dotted_from d x.form r)
dotted_sound d x r = dotted_loop_sound d (length r) x.form (Ident x ∷ r) (Trees.Name x.form Load) r (Ident x ∷ [], refl, P.first_name)

-- ---- Keys.

abbrev pub KeyAt : List Terminal → Expr → List Terminal → Type 0
KeyAt i e r = (ts : List Terminal) × (i ≡ ts ++ r) × P.KeyOf ts e

named_key_sound : {f : Identifier} {ts : List Terminal} {e : Expr} (i r : List Terminal) → i ≡ ts ++ r → P.Dotted f ts e
    → Says (KeyAt i) (named_key e r)
named_key_sound i r q P.first_name = no_form
named_key_sound i r q (P.dot_name {ts = ts} x p) = found (ts ++ (Op Dot ∷ (Ident x ∷ [])), q, P.name_key x p)

pub key_sound : (d : ℕ) (self : Reads) → SoundAt self → (i : List Terminal) → Says (KeyAt i) (read_key d self i)
key_sound d self fields i = says_is _
    (says_cap {Q = KeyAt i} height d _
    (literal_sound self fields i _ (λ e r ts q p. (ts, q, P.literal_key p))
    (says_first singleton_word i _ _ (λ t v s h q. found (t ∷ [], q, P.singleton_key h)) (λ _.
    says_name i _ _ (λ x s q. says_then _ _ (dotted_sound d x s) (λ e r p. named_key_sound i r (q ∙ p.1) p.2)) no_form))))
    (λ e r p. p.0)
