-- The levels without operators: the next level, and forms that begin with a word or sign.
--
-- Carries: led, free, next_goes, not_star and 3 more, for Forms, Atoms, Complete, Lists and 6
-- more. On: LookLemmas, Climb.
use Rattle.std.proofs.Common.{◌≡◌, refl, sym, ap, ◌∙◌, ℕ, suc, ◌≤◌, ◌<◌, arith, List, ◌∷◌, ◌++◌, length, Some, Bool, true}
use Rattle.pylex_lexeme.specs.declared.kinds.Exact.{Exact}
use Rattle.pylex_lexeme.specs.declared.kinds.Exact.TheVariants.{Colon, Comma, Plus, Minus, Star, Tilde, Ellipsis, ColonEqual}
use Rattle.pytoken.specs.declared.keywords.Keyword.TheVariants as Key
use Rattle.pytree_node.specs.declared.operators.Operator.{Operator}
use Rattle.pytree_node.specs.declared.operators.UnaryOperator.{UnaryOperator}
use Rattle.pytree_node.specs.declared.operators.BoolOperator.{BoolOperator}
use Rattle.pytree_node.specs.declared.operators.BoolOperator.TheVariants as Join
use Rattle.pytree_node.specs.declared.operators.Context.TheVariants.{Load}
use Rattle.pygrammar.specs.declared.levels.Level.{Level}
use Rattle.pygrammar.specs.declared.levels.Level.TheVariants.{Value, Stars, StarItem, Named, Expression, Or, And, Not, Compare, BitOr}
use Rattle.pygrammar.specs.declared.levels.Level.TheVariants.{BitXor, BitAnd, Shift, Sum, Term, Factor, Power, Await, Primary, Atom, Elem}
use Rattle.pygrammar.specs.declared.levels.Level.TheVariants.{Slices, Part, Slice, Subject}
use Rattle.pytree_node.specs.Trees
use Rattle.pytree_node.specs.Trees.{Expr, OptionalExpr, present}
use Rattle.pytree_node.specs.Values
use Rattle.pytoken.specs.Terminals.{Spelled, Terminal, Op, Word, Ident}
use Rattle.pygrammar.specs.Looks.{is_op}
use Rattle.pygrammar.specs.Operators.{below, left_operator, prefix_operator, chain_level}
use Rattle.pygrammar.specs.Constants.{constant_word}
use Rattle.pygrammar.specs.FormattedStrings.{StringPart, has_formatted}
use Rattle.pygrammar.specs.Grammar as G
use Rattle.pygrammar.specs.Reader.{Found, and_then, on_first, Reads, primary_loop, level_step, read, target_item, read_target}
use Rattle.pygrammar.specs.Reader.{slice_rest, if_else_step, unnamed}
use Rattle.pygrammar.specs.Precedence.{lead, first}
use Rattle.pygrammar.proofs.Answers.{found_rest}
use Rattle.pygrammar.proofs.Completeness.LookLemmas.{grip, grip_of, lead_of, lead_front, miss_op, miss_word, pass_op, pass_op_not}
use Rattle.pygrammar.proofs.Completeness.LookLemmas.{pass_word, miss_name_with}
use Rattle.pygrammar.proofs.Completeness.Climb.{Stops, ReadsAt, TargetAt, ReadsAs, unroll, answers, weaken, primary_climbs}

-- the first terminals
pub first_below : (l : Level) → first l ≤ first (below l)
first_below Value = omega arith
first_below _ = omega arith

pub first_pos : (l : Level) → 0 < first l
first_pos Value = omega arith
first_pos _ = omega arith

pub prefix_led : (l : Level) (t : Terminal) (o : UnaryOperator) → prefix_operator l t ≡ Some o → first l ≤ lead t
prefix_led Not (Word Key.Not) o h = omega arith
prefix_led Not (Word _) o h = absurd (cc)
prefix_led Factor (Op Plus) o h = omega arith
prefix_led Factor (Op Minus) o h = omega arith
prefix_led Factor (Op Tilde) o h = omega arith
prefix_led Factor (Op _) o h = absurd (cc)
prefix_led _ t o h = absurd (cc)

pub constant_led : (t : Terminal) (v : Values.Value) → constant_word t ≡ Some v → 24 ≤ lead t
constant_led (Word Key.None) v h = omega arith
constant_led (Word Key.True) v h = omega arith
constant_led (Word Key.False) v h = omega arith
constant_led (Op Ellipsis) v h = omega arith
constant_led (Word _) v h = absurd (cc)
constant_led (Op _) v h = absurd (cc)
constant_led _ v h = absurd (cc)

literals_led : {u : Bool} {ts : List Terminal} {ps : List StringPart} → G.Literals u ts ps → has_formatted ts ≡ true → 24 ≤ lead_of ts
literals_led G.no_literal h = absurd (cc)
literals_led (G.text_literal l) h = omega arith
literals_led (G.formatted_literal p l) h = omega arith

mutual
  pub led : {l : Level} {ts : List Terminal} {e : Expr} → G.Derives l ts e → first l ≤ lead_of ts
  led (G.next {l = l} p) = omega (arith, led p, first_below l)
  led (G.star_tuple {ts = ts} p c) = lead_front ts _ 7 (omega arith) (led p)
  led (G.if_else {ts = ts} p q r) = lead_front ts _ 9 (omega arith) (omega (arith, led p))
  led (G.chain {o = o} {ts = ts} p c) = lead_front ts _ (first (chain_level o)) (first_pos (chain_level o))
      (omega (arith, led p, first_below (chain_level o)))
  led (G.unary {l = l} {t = t} {o = o} h p) = prefix_led l t o h
  led (G.compare {ts = ts} p c) = lead_front ts _ 13 (omega arith) (omega (arith, led p))
  led (G.binary {l = l} {ts = ts} t h p q) = lead_front ts _ (first l) (first_pos l) (led p)
  led (G.power {ts = ts} p q) = lead_front ts _ 21 (omega arith) (omega (arith, led p))
  led (G.attribute {ts = ts} x p) = lead_front ts _ 23 (omega arith) (led p)
  led (G.call {ts = ts} p c h) = lead_front ts _ 23 (omega arith) (led p)
  led (G.call_generator {ts = ts} p q c) = lead_front ts _ 23 (omega arith) (led p)
  led (G.subscript {ts = ts} p q) = lead_front ts _ 23 (omega arith) (led p)
  led (G.constant {t = t} {v = v} h) = constant_led t v h
  led (G.joined_string l b h) = literals_led l h
  led (G.parts {ts = ts} p c) = lead_front ts _ 5 (omega arith) (led p)
  led (G.subject_tuple {ts = ts} p c) = lead_front ts _ 7 (omega arith) (led p)
  led (G.slice a b) = perhaps_led a _
  led (G.slice_step a b c) = perhaps_led a _
  led _ = omega arith

  -- an Expression, or none and then `:`
  perhaps_led : {ts : List Terminal} {e : OptionalExpr} → G.Perhaps Expression ts e → (us : List Terminal)
      → 5 ≤ lead_of (ts ++ (Op Colon ∷ us))
  perhaps_led G.nothing us = omega arith
  perhaps_led (G.something {ts = ts} p) us = lead_front ts _ 5 (omega arith) (omega (arith, led p))

-- no Slice begins with a star
abbrev pub NotStar : Level → List Terminal → Type 0
NotStar Slice ts = lead_of ts ≡ 7 → ⊥
NotStar l ts = Unit {0}

next_not_star : (l : Level) (ts : List Terminal) → first (below l) ≤ lead_of ts → NotStar l ts
next_not_star Slice ts h = λ q. omega (arith, h, q)
next_not_star _ ts h = tt

unary_not_star : (l : Level) (t : Terminal) (o : UnaryOperator) (ts : List Terminal) → prefix_operator l t ≡ Some o → NotStar l (t ∷ ts)
unary_not_star Slice t o ts h = absurd (cc)
unary_not_star _ t o ts h = tt

binary_not_star : (l : Level) (t : Terminal) (o : Operator) (ts : List Terminal) → left_operator l t ≡ Some o → NotStar l ts
binary_not_star Slice t o ts h = absurd (cc)
binary_not_star _ t o ts h = tt

chain_not_star : (o : BoolOperator) (ts : List Terminal) → NotStar (chain_level o) ts
chain_not_star Join.And ts = tt
chain_not_star Join.Or ts = tt

colon_not_star : {ts : List Terminal} {e : OptionalExpr} → G.Perhaps Expression ts e → (us : List Terminal)
    → lead_of (ts ++ (Op Colon ∷ us)) ≡ 7 → ⊥
colon_not_star G.nothing us q = omega (arith, q)
colon_not_star (G.something {ts = ts} p) us q = omega (arith, q, lead_front ts (Op Colon ∷ us) 9 (omega arith) (led p))

pub not_star : {l : Level} {ts : List Terminal} {e : Expr} → G.Derives l ts e → NotStar l ts
not_star (G.next {l = l} p) = next_not_star l _ (led p)
not_star (G.unary {l = l} {t = t} {o = o} h p) = unary_not_star l t o _ h
not_star (G.binary {l = l} {o = o} t h p q) = binary_not_star l t o _ h
not_star (G.chain {o = o} p c) = chain_not_star o _
not_star (G.slice a b) = colon_not_star a _
not_star (G.slice_step a b c) = colon_not_star a _
not_star _ = tt

-- a NAME that is all of an expression, though a sign follows
pub free : (d : ℕ) (l : Level) (s : Exact) (i rest : List Terminal) (e : Expr)
    → ((x : Spelled) (us : List Terminal) → read (suc d) l (Ident x ∷ (Op s ∷ us)) ≡ Found (Trees.Name x.form Load) (Op s ∷ us))
    → read (suc d) l i ≡ Found e rest → (grip_of rest ≡ grip (Op s) → ⊥) → (x : Spelled) (us : List Terminal)
    → i ≡ Ident x ∷ (Op s ∷ us) → ⊥
free d l s i rest e f h g x us q =
    g (ap grip_of (found_rest e (Trees.Name x.form Load) rest (Op s ∷ us) (sym h ∙ (ap (read (suc d) l) q ∙ f x us))))

-- one level over any readers
module _ (next inner : Reads) (i rest : List Terminal) (e : Expr) where
  pub stars_step : next StarItem i ≡ Found e rest → (grip_of rest ≡ 3 → ⊥) → level_step next inner Stars i ≡ Found e rest
  stars_step h g = rw h (miss_op Comma rest _ _ g)

  target_step : target_item inner i ≡ Found e rest → (grip_of rest ≡ 3 → ⊥) → read_target inner i ≡ Found e rest
  target_step h g = rw h (miss_op Comma rest _ _ g)

  or_step : next Or i ≡ Found e rest → grip_of rest ≤ 8 → and_then (next Or i) (λ b r. if_else_step inner b r) ≡ Found e rest
  or_step h g = rw h (miss_word Key.If rest _ _ (λ q. omega (arith, g, q)))

  atom_step : next Atom i ≡ Found e rest → level_step next inner Primary i ≡ primary_loop inner (length rest) e rest
  atom_step h = rw h refl

  named_step : next Named i ≡ Found e rest → (grip_of rest ≡ 5 → ⊥)
      → and_then (next Named i) (λ e r. on_first (is_op Colon) r (λ _ r1. unnamed i (slice_rest inner (present e) r1)) (Found e r)) ≡ Found
      e rest
  named_step h g = rw h (miss_op Colon rest _ _ g)

slices_step : (next inner : Reads) (ts rest : List Terminal) (e : Expr) → next Part (ts ++ rest) ≡ Found e rest → (grip_of rest ≡ 3 → ⊥)
    → 0 < lead_of ts → (lead_of ts ≡ 7 → ⊥) → level_step next inner Slices (ts ++ rest) ≡ Found e rest
slices_step next inner ts rest e h g p n = rw h (miss_op Comma rest _ _ g ∙ pass_op_not Star ts rest _ _ p n)

part_answer : (ts rest : List Terminal) (e : Expr) (d : ℕ) → 5 ≤ lead_of ts → (lead_of ts ≡ 7 → ⊥) → ReadsAt Slice ts e d → Stops Part rest
    → read (suc d) Part (ts ++ rest) ≡ Found e rest
part_answer ts rest e d l n p s = unroll d Part (ts ++ rest) ∙ (pass_op_not Star ts rest _ _ (omega (arith, l)) n ∙ p rest s)

subject_step : (next inner : Reads) (ts rest : List Terminal) (e : Expr) → next Elem (ts ++ rest) ≡ Found e rest → (grip_of rest ≡ 3 → ⊥)
    → 9 ≤ lead_of ts → level_step next inner Subject (ts ++ rest) ≡ Found e rest
subject_step next inner ts rest e h g l = rw h (miss_op Comma rest _ _ g ∙ pass_op Star ts rest _ _ (omega (arith, l)))

elem_answer : (ts rest : List Terminal) (e : Expr) (d : ℕ) → 9 ≤ lead_of ts → ReadsAt Named ts e d → Stops Elem rest
    → read (suc d) Elem (ts ++ rest) ≡ Found e rest
elem_answer ts rest e d l p s = unroll d Elem (ts ++ rest) ∙ (pass_op Star ts rest _ _ (omega (arith, l)) ∙ p rest s)

pub primary_target : (ts : List Terminal) (e : Expr) (d : ℕ) → ReadsAt Primary ts e d → TargetAt Primary ts e d
primary_target ts e d p s q rest g = answers Primary ts e d rest p g

pub next_goes : (l : Level) (ts : List Terminal) (e : Expr) → first (below l) ≤ lead_of ts → NotStar (below l) ts
    → ReadsAs (below l) ts e → ReadsAs l ts e
next_goes Value ts e l n p = (
  p.0,
  λ d h rest s. unroll d Value (ts ++ rest) ∙ (pass_word Key.Yield ts rest _ _ (omega (arith, l))
      ∙ p.1 d h rest s),
  λ d h. tt,
)
next_goes Stars ts e l n p = (
  p.0,
  λ d h rest s. unroll d Stars (ts ++ rest) ∙ stars_step (read (suc d)) (read d) (ts ++ rest) rest e
      (p.1 d h rest (omega (arith, s.0))) (λ q. omega (arith, s.0, q)),
  λ d h s q rest g c w. target_step (read (suc d)) (read (suc d))
      (ts ++ rest) rest e (p.2 d h s q rest g) c,
)
next_goes StarItem ts e l n p = (
  p.0,
  λ d h rest s. unroll d StarItem (ts ++ rest)
      ∙ (pass_op Star ts rest _ _ (omega (arith, l)) ∙ p.1 d h rest s),
  λ d h s q rest g. pass_op Star ts rest _ _ (omega (arith, l)) ∙ p.2 d h s q rest g,
)
next_goes Elem ts e l n p = (p.0, λ d h rest s. elem_answer ts rest e d l (p.1 d h) s, λ d h. tt)
next_goes Subject ts e l n p = (
  p.0,
  λ d h rest s. unroll d Subject (ts ++ rest)
      ∙ subject_step (read (suc d)) (read d) ts rest e (elem_answer ts rest e d l (p.1 d h) s.0) s.1 l,
  λ d h. tt,
)
next_goes Named ts e l n p = (
  p.0,
  λ d h rest s. let a = p.1 d h rest (omega (arith, s)) in unroll d Named (ts ++ rest)
      ∙ (miss_name_with ColonEqual (ts ++ rest) _ _ (free d Expression ColonEqual (ts ++ rest) rest e (λ x us. refl) a
      (λ q. omega (arith, s, q))) ∙ a),
  λ d h. tt,
)
next_goes Expression ts e l n p = (
  p.0,
  λ d h rest s. unroll d Expression (ts ++ rest)
      ∙ (pass_word Key.Lambda ts rest _ _ (omega (arith, l)) ∙ or_step (read (suc d)) (read d) (ts ++ rest) rest e
      (answers Or ts e d rest (p.1 d h) (omega (arith, s))) s),
  p.2,
)
next_goes Primary ts e l n p = (
  p.0,
  λ d h rest g. (
    length rest,
    omega arith,
    unroll d Primary (ts ++ rest) ∙ atom_step (read (suc d)) (read d) (ts ++ rest) rest e
        (p.1 d h rest (omega (arith, g))),
  ),
  λ d h. primary_target ts e d (λ rest g. (
    length rest,
    omega arith,
    unroll d Primary (ts ++ rest)
        ∙ atom_step (read (suc d)) (read d) (ts ++ rest) rest e (p.1 d h rest (omega (arith, g))),
  )),
)
next_goes Atom ts e l n p = p
next_goes Slices ts e l n p = (
  p.0,
  λ d h rest s. unroll d Slices (ts ++ rest)
      ∙ slices_step (read (suc d)) (read d) ts rest e (part_answer ts rest e d l n (p.1 d h) (omega (arith, s.0), omega (arith, s.1)))
      (λ q. omega (arith, s.0, q)) (omega (arith, l)) n,
  λ d h. tt,
)
next_goes Part ts e l n p = (p.0, λ d h rest s. part_answer ts rest e d l n (p.1 d h) s, λ d h. tt)
next_goes Slice ts e l n p = (
  p.0,
  λ d h rest s. unroll d Slice (ts ++ rest)
      ∙ (pass_op Colon ts rest _ _ (omega (arith, l)) ∙ named_step (read (suc d)) (read d) (ts ++ rest) rest e
      (p.1 d h rest (omega (arith, s.0))) (λ q. omega (arith, s.0, q))),
  λ d h. tt,
)
next_goes Await ts e l n p = (p.0, λ d h. primary_climbs ts e d l (p.1 d h), λ d h. primary_target ts e d (p.1 d h))
next_goes Or ts e l n p = (p.0, λ d h. weaken Or And ts e d (omega arith) (omega arith) (p.1 d h), p.2)
next_goes And ts e l n p = (p.0, λ d h. weaken And Not ts e d (omega arith) (omega arith) (p.1 d h), p.2)
next_goes Not ts e l n p = (p.0, λ d h. weaken Not Compare ts e d (omega arith) (omega arith) (p.1 d h), p.2)
next_goes Compare ts e l n p = (p.0, λ d h. weaken Compare BitOr ts e d (omega arith) (omega arith) (p.1 d h), p.2)
next_goes BitOr ts e l n p = (p.0, λ d h. weaken BitOr BitXor ts e d (omega arith) (omega arith) (p.1 d h), p.2)
next_goes BitXor ts e l n p = (p.0, λ d h. weaken BitXor BitAnd ts e d (omega arith) (omega arith) (p.1 d h), p.2)
next_goes BitAnd ts e l n p = (p.0, λ d h. weaken BitAnd Shift ts e d (omega arith) (omega arith) (p.1 d h), p.2)
next_goes Shift ts e l n p = (p.0, λ d h. weaken Shift Sum ts e d (omega arith) (omega arith) (p.1 d h), p.2)
next_goes Sum ts e l n p = (p.0, λ d h. weaken Sum Term ts e d (omega arith) (omega arith) (p.1 d h), p.2)
next_goes Term ts e l n p = (p.0, λ d h. weaken Term Factor ts e d (omega arith) (omega arith) (p.1 d h), p.2)
next_goes Factor ts e l n p = (p.0, λ d h. weaken Factor Power ts e d (omega arith) (omega arith) (p.1 d h), p.2)
next_goes Power ts e l n p = (p.0, λ d h. weaken Power Await ts e d (omega arith) (omega arith) (p.1 d h), p.2)
