-- What the reader answers is derived: the tools, and the levels Or .. Await.
--
-- Carries: Says, found, no_form, says_then and 15 more, for Sound, SoundClimb, SoundLists,
-- SoundParts and 7 more. On: LookLemmas.
use Rattle.std.proofs.Common.{◌≡◌, inl, inr, refl, sym, ap, subst, ◌∙◌, ℕ, ◌≤◌, ◌<◌, arith, List, [], ◌∷◌, ◌++◌, Option, Some, None, Bool}
use Rattle.std.proofs.Common.{true, false, cond}
use Rattle.pylex_lexeme.specs.declared.kinds.Exact.{Exact}
use Rattle.pylex_lexeme.specs.declared.kinds.Exact.TheVariants.{LPar}
use Rattle.pytoken.specs.declared.keywords.Keyword.{Keyword}
use Rattle.pytoken.specs.declared.keywords.Keyword.TheVariants as Key
use Rattle.pygrammar.specs.declared.levels.Level.{Level}
use Rattle.pygrammar.specs.declared.levels.Level.TheVariants.{Or, And, Not, Compare, BitOr, BitXor, BitAnd, Shift, Sum, Term, Factor, Power}
use Rattle.pygrammar.specs.declared.levels.Level.TheVariants.{Await, Primary, Atom}
use Rattle.pytree_node.specs.Trees.{Expr, Identifier}
use Rattle.pytoken.specs.Terminals.{Spelled, Terminal, Op, Word, Ident}
use Rattle.pygrammar.specs.Looks.{is_op, is_word, name_in}
use Rattle.pygrammar.specs.Reader.{Answer, Found, NoForm, TooDeep, and_then, on_some, on_first, made, Reads}
use Rattle.pygrammar.specs.Operators.{rank}
use Rattle.pygrammar.specs.Precedence.{infix_rank, following}
use Rattle.pygrammar.specs.Grammar as G
use Rattle.pygrammar.proofs.Completeness.LookLemmas.{op_or_not, word_or_not, heads, some_none}

pub data Says {A : Type 0} (P : A → List Terminal → Type 0) : Answer A → Type 0 where
  found : {a : A} {r : List Terminal} → P a r → Says P (Found a r)
  no_form : Says P NoForm
  deep : Says P TooDeep

pub says_then : {A B : Type 0} {P : A → List Terminal → Type 0} {Q : B → List Terminal → Type 0} (x : Answer A) (k : A → List Terminal
    → Answer B) → Says P x → ((a : A) (r : List Terminal) → P a r → Says Q (k a r)) → Says Q (and_then x k)
says_then x k (found {a = a} {r = r} p) h = h a r p
says_then x k no_form h = no_form
says_then x k deep h = deep

-- a test on the first terminal, with what both answers tell
pub says_first : {A B : Type 0} {Q : B → List Terminal → Type 0} (f : Terminal → Option A) (i : List Terminal) (k : A → List Terminal
    → Answer B) (x : Answer B) → ((t : Terminal) (a : A) (s : List Terminal) → f t ≡ Some a → i ≡ t ∷ s → Says Q (k a s))
    → (((t : Terminal) (s : List Terminal) → i ≡ t ∷ s → f t ≡ None) → Says Q x) → Says Q (on_first f i k x)
says_first f [] k x h g = g (λ t s q. absurd (cc))
says_first {A} {B} {Q} f (t ∷ s) k x h g = go (f t) refl
  where
    go : (o : Option A) → f t ≡ o → Says Q (on_some o (λ a. k a s) x)
    go (Some a) e = h t a s e refl
    go None e = g (λ u r q. ap f (sym (heads q)) ∙ e)

pub says_op : {B : Type 0} {Q : B → List Terminal → Type 0} (y : Exact) (i : List Terminal) (k : ℕ → List Terminal → Answer B)
    (x : Answer B) → ((a : ℕ) (s : List Terminal) → i ≡ Op y ∷ s → Says Q (k a s))
    → (((t : Terminal) (s : List Terminal) → i ≡ t ∷ s → is_op y t ≡ None) → Says Q x) → Says Q (on_first (is_op y) i k x)
says_op {B} {Q} y i k x h g =
    says_first (is_op y) i k x (λ t a s f q. elim (op_or_not y t) as (λ _. Says Q (k a s)) [
      | inl e ↦ h a s (q ∙ ap (λ z. z ∷ s) e)
      | inr n ↦ absurd (some_none a (sym f ∙ n))
    ]) g

pub says_word : {B : Type 0} {Q : B → List Terminal → Type 0} (y : Keyword) (i : List Terminal) (k : ℕ → List Terminal → Answer B)
    (x : Answer B) → ((a : ℕ) (s : List Terminal) → i ≡ Word y ∷ s → Says Q (k a s))
    → (((t : Terminal) (s : List Terminal) → i ≡ t ∷ s → is_word y t ≡ None) → Says Q x) → Says Q (on_first (is_word y) i k x)
says_word {B} {Q} y i k x h g =
    says_first (is_word y) i k x (λ t a s f q. elim (word_or_not y t) as (λ _. Says Q (k a s)) [
      | inl e ↦ h a s (q ∙ ap (λ z. z ∷ s) e)
      | inr n ↦ absurd (some_none a (sym f ∙ n))
    ]) g

pub name_is : (t : Terminal) (x : Identifier) → name_in t ≡ Some x → (y : Spelled) × (t ≡ Ident y) × (y.form ≡ x)
name_is (Ident y) x h = (y, refl, cc)
name_is _ x h = absurd (cc)

pub says_name : {B : Type 0} {Q : B → List Terminal → Type 0} (i : List Terminal) (k : List ℕ → List Terminal → Answer B) (x : Answer B)
    → ((a : Spelled) (s : List Terminal) → i ≡ Ident a ∷ s → Says Q (k a.form s)) → Says Q x → Says Q (on_first name_in i k x)
says_name {B} {Q} i k x h g = says_first name_in i k x (λ t a s f q. let w = name_is t a f in
    subst (λ z. Says Q (k z s)) w.2 (h w.0 s (q ∙ ap (λ z. z ∷ s) w.1))) (λ _. g)

pub says_cond : {B : Type 0} {Q : B → List Terminal → Type 0} (b : Bool) (x y : Answer B) → Says Q x → Says Q y → Says Q (cond b x y)
says_cond true x y h k = h
says_cond false x y h k = k

pub says_some : {A B : Type 0} {Q : B → List Terminal → Type 0} (o : Option A) (k : A → Answer B) (x : Answer B)
    → ((a : A) → o ≡ Some a → Says Q (k a)) → Says Q x → Says Q (on_some o k x)
says_some (Some a) k x h g = h a refl
says_some None k x h g = g

pub says_made : {B : Type 0} {Q : B → List Terminal → Type 0} (o : Option B) (r : List Terminal)
    → ((a : B) → o ≡ Some a → Q a r) → Says Q (made o r)
says_made (Some a) r h = found (h a refl)
says_made None r h = no_form

pub says_is : {A : Type 0} {P Q : A → List Terminal → Type 0} (x : Answer A) → Says P x
    → ((a : A) (r : List Terminal) → P a r → Q a r) → Says Q x
says_is x (found {a = a} {r = r} p) h = found (h a r p)
says_is x no_form h = no_form
says_is x deep h = deep

pub says_found : {A : Type 0} {P : A → List Terminal → Type 0} (a : A) (r : List Terminal) → Says P (Found a r) → P a r
says_found a r (found p) = p

-- the rank of an operator that stands first
abbrev pub turn : Terminal → ℕ
turn t = on_some (following t) infix_rank 0

abbrev pub turn_of : List Terminal → ℕ
turn_of [] = 0
turn_of (t ∷ r) = turn t

turn_max : (t : Terminal) → turn t ≤ 21
turn_max (Op LPar) = omega arith
turn_max (Op _) = omega arith
turn_max (Word Key.As) = omega arith
turn_max (Word _) = omega arith
turn_max _ = omega arith

pub turns : (r : List Terminal) → turn_of r < 22
turns [] = omega arith
turns (t ∷ r) = omega (arith, turn_max t)

-- an operator of a rank from here on would have been read
abbrev pub halt : Level → ℕ
halt Or = 10
halt And = 11
halt Not = 12
halt Compare = 13
halt BitOr = 14
halt BitXor = 15
halt BitAnd = 16
halt Shift = 17
halt Sum = 18
halt Term = 19
halt Factor = 20
halt Power = 21
halt l = 22

abbrev pub Reads_as : Level → List Terminal → Expr → List Terminal → Type 0
Reads_as l i e r = (ts : List Terminal) × (i ≡ ts ++ r) × G.Derives l ts e × (turn_of r < halt l)

abbrev pub SoundAt : Reads → Type 0
SoundAt self = (l : Level) (i : List Terminal) → Says (Reads_as l i) (self l i)

-- down to a lower level
to_Await : (c : Level) (ts : List Terminal) (e : Expr) → 22 ≤ rank c → G.Derives c ts e → G.Derives Await ts e
to_Await Await ts e h p = p
to_Await Primary ts e h p = G.next p
to_Await Atom ts e h p = G.next (G.next p)
to_Await _ ts e h p = absurd (omega (arith, h))

to_Power : (c : Level) (ts : List Terminal) (e : Expr) → 21 ≤ rank c → G.Derives c ts e → G.Derives Power ts e
to_Power Power ts e h p = p
to_Power c ts e h p = G.next (to_Await c ts e (omega (arith, h)) p)

to_Factor : (c : Level) (ts : List Terminal) (e : Expr) → 20 ≤ rank c → G.Derives c ts e → G.Derives Factor ts e
to_Factor Factor ts e h p = p
to_Factor c ts e h p = G.next (to_Power c ts e (omega (arith, h)) p)

to_Term : (c : Level) (ts : List Terminal) (e : Expr) → 19 ≤ rank c → G.Derives c ts e → G.Derives Term ts e
to_Term Term ts e h p = p
to_Term c ts e h p = G.next (to_Factor c ts e (omega (arith, h)) p)

to_Sum : (c : Level) (ts : List Terminal) (e : Expr) → 18 ≤ rank c → G.Derives c ts e → G.Derives Sum ts e
to_Sum Sum ts e h p = p
to_Sum c ts e h p = G.next (to_Term c ts e (omega (arith, h)) p)

to_Shift : (c : Level) (ts : List Terminal) (e : Expr) → 17 ≤ rank c → G.Derives c ts e → G.Derives Shift ts e
to_Shift Shift ts e h p = p
to_Shift c ts e h p = G.next (to_Sum c ts e (omega (arith, h)) p)

to_BitAnd : (c : Level) (ts : List Terminal) (e : Expr) → 16 ≤ rank c → G.Derives c ts e → G.Derives BitAnd ts e
to_BitAnd BitAnd ts e h p = p
to_BitAnd c ts e h p = G.next (to_Shift c ts e (omega (arith, h)) p)

to_BitXor : (c : Level) (ts : List Terminal) (e : Expr) → 15 ≤ rank c → G.Derives c ts e → G.Derives BitXor ts e
to_BitXor BitXor ts e h p = p
to_BitXor c ts e h p = G.next (to_BitAnd c ts e (omega (arith, h)) p)

to_BitOr : (c : Level) (ts : List Terminal) (e : Expr) → 14 ≤ rank c → G.Derives c ts e → G.Derives BitOr ts e
to_BitOr BitOr ts e h p = p
to_BitOr c ts e h p = G.next (to_BitXor c ts e (omega (arith, h)) p)

to_Compare : (c : Level) (ts : List Terminal) (e : Expr) → 13 ≤ rank c → G.Derives c ts e → G.Derives Compare ts e
to_Compare Compare ts e h p = p
to_Compare c ts e h p = G.next (to_BitOr c ts e (omega (arith, h)) p)

to_Not : (c : Level) (ts : List Terminal) (e : Expr) → 12 ≤ rank c → G.Derives c ts e → G.Derives Not ts e
to_Not Not ts e h p = p
to_Not c ts e h p = G.next (to_Compare c ts e (omega (arith, h)) p)

to_And : (c : Level) (ts : List Terminal) (e : Expr) → 11 ≤ rank c → G.Derives c ts e → G.Derives And ts e
to_And And ts e h p = p
to_And c ts e h p = G.next (to_Not c ts e (omega (arith, h)) p)

to_Or : (c : Level) (ts : List Terminal) (e : Expr) → 10 ≤ rank c → G.Derives c ts e → G.Derives Or ts e
to_Or Or ts e h p = p
to_Or c ts e h p = G.next (to_And c ts e (omega (arith, h)) p)

pub lower : (l c : Level) (ts : List Terminal) (e : Expr) → 10 ≤ rank l → rank l ≤ 22 → rank l ≤ rank c
    → G.Derives c ts e → G.Derives l ts e
lower Or c ts e a b h p = to_Or c ts e h p
lower And c ts e a b h p = to_And c ts e h p
lower Not c ts e a b h p = to_Not c ts e h p
lower Compare c ts e a b h p = to_Compare c ts e h p
lower BitOr c ts e a b h p = to_BitOr c ts e h p
lower BitXor c ts e a b h p = to_BitXor c ts e h p
lower BitAnd c ts e a b h p = to_BitAnd c ts e h p
lower Shift c ts e a b h p = to_Shift c ts e h p
lower Sum c ts e a b h p = to_Sum c ts e h p
lower Term c ts e a b h p = to_Term c ts e h p
lower Factor c ts e a b h p = to_Factor c ts e h p
lower Power c ts e a b h p = to_Power c ts e h p
lower Await c ts e a b h p = to_Await c ts e h p
lower _ c ts e a b h p = absurd (omega (arith, a, b))
