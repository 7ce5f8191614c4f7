-- The readers of literals, names and keys find those that the table gives.
--
-- Carries: fits, literal_reads, class_reads, key_reads and 2 more, for ReadLevels, ReadEntries,
-- ReadBrackets. On: LookLemmas, Atoms, Ends.
use Rattle.std.proofs.Common.{◌≡◌, refl, sym, ap, ◌∙◌, ℕ, suc, zero, ◌+◌, ◌≤◌, ◌<◌, arith, List, [], ◌∷◌, ◌++◌, length, Some, Bool, true}
use Rattle.std.proofs.Common.{false, cond, leb, append_assoc, length-append}
use Rattle.std.proofs.lemmas.Bool.{le-leb}
use Rattle.pylex_lexeme.specs.declared.kinds.Exact.TheVariants.{LPar, Dot}
use Rattle.pytoken.specs.declared.keywords.Keyword.TheVariants as Key
use Rattle.pytree_node.specs.declared.operators.Operator.{Operator}
use Rattle.pytree_node.specs.declared.operators.UnaryOperator.TheVariants as Un
use Rattle.pytree_node.specs.declared.operators.Context.TheVariants.{Load}
use Rattle.pygrammar.specs.declared.levels.Level.TheVariants.{Sum, Atom}
use Rattle.pytree_node.specs.Trees
use Rattle.pytree_node.specs.Trees.{Expr, Identifier}
use Rattle.pytree_node.specs.Values
use Rattle.pytoken.specs.Terminals.{Spelled, Terminal, Op, Word, Ident, Number, Literal, FormattedBegin}
use Rattle.pytree_height.specs.Heights.{height}
use Rattle.pygrammar.specs.Operators.{left_operator}
use Rattle.pygrammar.specs.Reader.{Answer, Found, NoForm, TooDeep, and_then, Reads}
use Rattle.pygrammar.specs.Capped.{cap, capped, capped_atom}
use Rattle.pygrammar.specs.FormattedStrings.{StringPart, has_formatted}
use Rattle.pygrammar.specs.Grammar as G
use Rattle.pygrammar.specs.PatternOperators.{is_imaginary, is_wildcard, singleton_word}
use Rattle.pygrammar.specs.PatternGrammar as P
use Rattle.pygrammar.specs.PatternReader.{cap_by, cap_value, number_rest, literal_or, dotted_loop, dotted_from, named_key, read_key}
use Rattle.pygrammar.proofs.Completeness.LookLemmas.{grip, grip_of}
use Rattle.pygrammar.proofs.Completeness.Strings.{strings_step}
use Rattle.pygrammar.proofs.Heights.Limits.{capped_front}
use Rattle.pygrammar.proofs.Heights.Contract.{unroll_capped}
use Rattle.pygrammar.proofs.Pattern.Ends.{pattern_grip, pattern_grip_of, miss_sign, miss_sum}

-- a check that passes
pub fits : {A : Type 0} (f : A → ℕ) (d : ℕ) (a : A) (r : List Terminal) → f a ≤ d → cap_by f d (Found a r) ≡ Found a r
fits f d a r h = ap (λ b. cond b (Found a r) TooDeep) (le-leb (f a) d h)

-- ---- Literals.

number_end : (v : Values.Value) (e : Expr) (r : List Terminal) → pattern_grip_of r < 5 → number_rest v e r ≡ Found e r
number_end v e r h = either (is_imaginary v) (Found e r) _ (miss_sum r _ _ h)
  where
    either : (b : Bool) (x y : Answer Expr) → y ≡ x → cond b x y ≡ x
    either true x y h = refl
    either false x y h = h

number_sum : (v w : Values.Value) (e : Expr) (o : Operator) (t : Terminal) (r : List Terminal) → is_imaginary v ≡ false
    → left_operator Sum t ≡ Some o → is_imaginary w ≡ true
    → number_rest v e (t ∷ (Number w ∷ r)) ≡ Found (Trees.BinOp e o (Trees.Constant w)) r
number_sum v w e o t r h q k = rw h (rw q (rw k refl))

low_grip : (t : Terminal) → pattern_grip t < 5 → grip t ≤ 24
low_grip (Literal v) h = absurd (omega (arith, h))
low_grip FormattedBegin h = absurd (omega (arith, h))
low_grip (Op LPar) h = omega arith
low_grip (Op _) h = omega arith
low_grip (Word Key.As) h = omega arith
low_grip (Word _) h = omega arith
low_grip _ h = omega arith

low_grip_of : (r : List Terminal) → pattern_grip_of r < 5 → grip_of r ≤ 24
low_grip_of [] h = omega arith
low_grip_of (t ∷ r) h = low_grip t h

-- a run with an f-string is read as in an expression
uncapped : (d : ℕ) (x : Answer Expr) (e : Expr) (r : List Terminal) → cap d x ≡ Found e r → x ≡ Found e r
uncapped d NoForm e r h = absurd (cc)
uncapped d TooDeep e r h = absurd (cc)
uncapped d (Found a s) e r h = go (leb (height a) d) h
  where
    go : (b : Bool) → cond b (Found a s) TooDeep ≡ Found e r → ◌≡◌ {A = Answer Expr} (Found a s) (Found e r)
    go true q = q
    go false q = absurd (cc)

atom_reads : {ts : List Terminal} {e : Expr} → G.Derives Atom ts e → (g d : ℕ) (r : List Terminal) → length ts + length r ≤ g → height e ≤ d
    → pattern_grip_of r < 5 → capped_atom (capped g (suc d)) (capped g d) (ts ++ r) ≡ Found e r
atom_reads {ts} {e} p g d r w h k = uncapped (suc d) _ e r (sym (unroll_capped g d Atom (ts ++ r))
    ∙ capped_front (suc g) (suc d) r p (omega (arith, h)) (low_grip_of r k) (omega (arith, w, length-append ts r)))

joined_reads : {u : Bool} {ts : List Terminal} {ps : List StringPart} → G.Literals u ts ps → has_formatted ts ≡ true
    → (g d : ℕ) (other : Answer Expr) (r : List Terminal) → literal_or (capped g d) (ts ++ r) other ≡ capped_atom
    (capped g (suc d)) (capped g d) (ts ++ r)
joined_reads G.no_literal h g d other r = absurd (cc)
joined_reads (G.text_literal l) h g d other r = refl
joined_reads (G.formatted_literal p l) h g d other r = refl

pub literal_reads : {ts : List Terminal} {e : Expr} → P.LiteralOf ts e → (g d : ℕ) (other : Answer Expr) (r : List Terminal)
    → length ts + length r ≤ g → height e ≤ d → pattern_grip_of r < 5 → literal_or (capped g d) (ts ++ r) other ≡ Found e r
literal_reads (P.number (P.unsigned {v = v})) g d other r w l h = number_end v (Trees.Constant v) r h
literal_reads (P.number (P.negative {v = v})) g d other r w l h = number_end v (Trees.UnaryOp Un.USub (Trees.Constant v)) r h
literal_reads (P.complex {w = w} {o = o} t (P.unsigned {v = v}) q s k) g d other r _ l h = number_sum v w (Trees.Constant v) o t r q s k
literal_reads (P.complex {w = w} {o = o} t (P.negative {v = v}) q s k) g d other r _ l h =
    number_sum v w (Trees.UnaryOp Un.USub (Trees.Constant v)) o t r q s k
literal_reads (P.strings {v = v} {w = w} vs k) g d other r _ l h = strings_step (capped g d) v w vs r (low_grip_of r h) k
literal_reads (P.joined_string p b q) g d other r w l h = joined_reads p q g d other r ∙ atom_reads (G.joined_string p b q) g d r w l h

-- ---- Names and points.

dotted_more : (d m : ℕ) (e : Expr) (x : Spelled) (r : List Terminal) → height (Trees.Attribute e x.form Load) ≤ d
    → dotted_loop d (suc m) e (Op Dot ∷ (Ident x ∷ r)) ≡ dotted_loop d m (Trees.Attribute e x.form Load) r
dotted_more d m e x r h = rw (fits height d (Trees.Attribute e x.form Load) r h) refl

pub dotted_end : (d m : ℕ) (e : Expr) (r : List Terminal) → pattern_grip_of r < 6 → dotted_loop d m e r ≡ Found e r
dotted_end d zero e r h = refl
dotted_end d (suc m) e r h = miss_sign Dot r _ _ (λ q. omega (arith, h, q))

-- a first NAME, and that the loop after it comes to the expression
abbrev LoopReads : Identifier → List Terminal → Expr → Type 0
LoopReads f us e = (d m : ℕ) (r : List Terminal) → height e ≤ d → length (us ++ r) ≤ m
    → (n : ℕ) × (length r ≤ n) × (dotted_loop d m (Trees.Name f Load) (us ++ r) ≡ dotted_loop d n e r)

record BeginsDotted (f : Identifier) (ts : List Terminal) (e : Expr) : Type 0 where
  name : Spelled
  following : List Terminal
  shape : ts ≡ Ident name ∷ following
  form : name.form ≡ f
  reads : LoopReads f following e

loop_first : (f : Identifier) → LoopReads f [] (Trees.Name f Load)
loop_first f d m r h w = (m, w, refl)

loop_dot : (f : Identifier) (us : List Terminal) (e : Expr) (x : Spelled) → LoopReads f us e
    → LoopReads f (us ++ (Op Dot ∷ (Ident x ∷ []))) (Trees.Attribute e x.form Load)
loop_dot f us e x k d m r h w =
    let c = k d m (Op Dot ∷ (Ident x ∷ r)) (omega (arith, h)) (omega (arith, w, ap length (append_assoc us (Op Dot ∷ (Ident x ∷ [])) r))) in
    let s = step c.0 c.1 in
    (s.0, s.1, ap (dotted_loop d m (Trees.Name f Load)) (append_assoc us (Op Dot ∷ (Ident x ∷ [])) r) ∙ (c.2 ∙ s.2))
  where
    step : (n : ℕ) → suc (suc (length r)) ≤ n
        → (n' : ℕ) × (length r ≤ n') × (dotted_loop d n e (Op Dot ∷ (Ident x ∷ r)) ≡ dotted_loop d n' (Trees.Attribute e x.form Load) r)
    step zero w = absurd (omega (arith, w))
    step (suc n) w = (n, omega (arith, w), dotted_more d n e x r h)

dotted_begins : {f : Identifier} {ts : List Terminal} {e : Expr} → P.Dotted f ts e → BeginsDotted f ts e
dotted_begins (P.first_name {x = x}) = record { name = x; following = []; shape = refl; form = refl; reads = loop_first x.form }
dotted_begins (P.dot_name {f = f} {ts = ts} {e = e} x p) =
    let b = dotted_begins p in
    record {
      name = b.name;
      following = b.following ++ (Op Dot ∷ (Ident x ∷ []));
      shape = ap (λ z. z ++ (Op Dot ∷ (Ident x ∷ []))) b.shape;
      form = b.form;
      reads = loop_dot f b.following e x b.reads;
    }

-- what a NAME and those after its points give
abbrev pub NameReads : ℕ → List Terminal → Expr → List Terminal → Spelled → List Terminal → Type 0
NameReads d i e r x us = (i ≡ Ident x ∷ us) × (dotted_from d x.form us ≡ Found e r)

dotted_reads : {f : Identifier} {ts : List Terminal} {e : Expr} → P.Dotted f ts e → (d : ℕ) (r : List Terminal) → height e ≤ d
    → pattern_grip_of r < 6 → (x : Spelled) × (us : List Terminal) × NameReads d (ts ++ r) e r x us × (x.form ≡ f)
dotted_reads {f} {ts} {e} p d r h g =
    let b = dotted_begins p in
    let us = b.following ++ r in
    let c = b.reads d (length us) r h (omega arith) in
    (b.name, us, (ap (λ z. z ++ r) b.shape, ap (λ z. dotted_from d z us) b.form ∙ (c.2 ∙ dotted_end d c.0 e r g)), b.form)

pub class_reads : {ts : List Terminal} {e : Expr} → P.ClassOf ts e → (d : ℕ) (r : List Terminal) → height e ≤ d → pattern_grip_of r < 6
    → (x : Spelled) × (us : List Terminal) × NameReads d (ts ++ r) e r x us × (is_wildcard x.form ≡ false)
class_reads (P.class_name p w) d r h g = let c = dotted_reads p d r h g in (c.0, c.1, c.2, ap is_wildcard c.3 ∙ w)

-- ---- Keys.

singleton_key_step : (d : ℕ) (self : Reads) (t : Terminal) (v : Values.Value) (r : List Terminal) → singleton_word t ≡ Some v → 1 ≤ d
    → read_key d self (t ∷ r) ≡ Found (Trees.Constant v) r
singleton_key_step d self (Word x) v r h w = rw h (fits height d (Trees.Constant v) r w)
singleton_key_step d self _ v r h w = absurd (cc)

name_key_step : (d : ℕ) (self : Reads) (x y : Spelled) (e : Expr) (us r : List Terminal)
    → dotted_from d x.form us ≡ Found (Trees.Attribute e y.form Load) r → height (Trees.Attribute e y.form Load) ≤ d
    → read_key d self (Ident x ∷ us) ≡ Found (Trees.Attribute e y.form Load) r
name_key_step d self x y e us r h w = ap (λ z. cap_value d (and_then z named_key)) h ∙ fits height d (Trees.Attribute e y.form Load) r w

pub key_reads : {ts : List Terminal} {k : Expr} → P.KeyOf ts k → (g d : ℕ) (r : List Terminal) → length ts + length r ≤ g → height k ≤ d
    → pattern_grip_of r < 5 → read_key d (capped g d) (ts ++ r) ≡ Found k r
key_reads (P.literal_key {e = e} p) g d r w h k = ap (cap_value d) (literal_reads p g d _ r w h k) ∙ fits height d e r h
key_reads (P.singleton_key {t = t} {v = v} q) g d r w h k = singleton_key_step d (capped g d) t v r q h
key_reads (P.name_key {e = e} x p) g d r w h k =
    let c = dotted_reads (P.dot_name x p) d r h (omega (arith, k)) in
    ap (read_key d (capped g d)) c.2.0 ∙ name_key_step d (capped g d) c.0 x e c.1 r c.2.1 h
