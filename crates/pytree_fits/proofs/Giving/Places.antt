-- Carries: the laws of the slots. On: what is given at one level is given at others, in
-- brackets where it needs them.
use Rattle.std.proofs.Common.{◌≡◌, refl, List, [], ◌∷◌, ◌++◌, true}
use Rattle.std.specs.Str.{bytes_eq}
use Rattle.std.proofs.lemmas.Bool.{and_from}
use Rattle.std.proofs.lemmas.Slice.Eq.{bytes_eq-Decides}
use Rattle.pylex_lexeme.specs.declared.kinds.Exact.TheVariants.{LPar, RPar, Star}
use Rattle.pytree_node.specs.declared.operators.Context.TheVariants.{Load}
use Rattle.pytree_node.specs.Trees
use Rattle.pytree_node.specs.Trees.{Identifier, Expr}
use Rattle.pytoken.specs.Terminals.{Terminal, Op, in_form}
use Rattle.pygrammar.specs.declared.levels.Level.{Level}
use Rattle.pygrammar.specs.declared.levels.Level.TheVariants.{Value, Stars, StarItem, Named, Expression, Or, And, Not, Compare, BitOr}
use Rattle.pygrammar.specs.declared.levels.Level.TheVariants.{BitXor, BitAnd, Shift, Sum, Term, Factor, Power, Await, Primary, Atom, Elem}
use Rattle.pygrammar.specs.declared.levels.Level.TheVariants.{Slices, Part, Slice, Subject}
use Rattle.pygrammar.specs.Grammar as G
use Rattle.pytree_fits.specs.Slots.{takes_star}
use Rattle.pytree_fits.proofs.Fields.Standing.{Standing}
use Rattle.pytree_fits.proofs.Fields.AsSpelled.{Passed, GivenAsSpelled, pass_on, pass_in_front}
use Rattle.pytree_fits.proofs.Fields.Levels.{inner}

-- ---- Chains of levels.

module _ {ts : List Terminal} {e : Expr} where
  -- from the lowest level up
  primary : G.Derives Atom ts e → G.Derives Primary ts e
  primary p = G.next {l = Primary} p

  await : G.Derives Atom ts e → G.Derives Await ts e
  await p = G.next {l = Await} (primary p)

  power : G.Derives Atom ts e → G.Derives Power ts e
  power p = G.next {l = Power} (await p)

  factor : G.Derives Atom ts e → G.Derives Factor ts e
  factor p = G.next {l = Factor} (power p)

  term : G.Derives Atom ts e → G.Derives Term ts e
  term p = G.next {l = Term} (factor p)

  sum : G.Derives Atom ts e → G.Derives Sum ts e
  sum p = G.next {l = Sum} (term p)

  shift : G.Derives Atom ts e → G.Derives Shift ts e
  shift p = G.next {l = Shift} (sum p)

  bit_and : G.Derives Atom ts e → G.Derives BitAnd ts e
  bit_and p = G.next {l = BitAnd} (shift p)

  bit_xor : G.Derives Atom ts e → G.Derives BitXor ts e
  bit_xor p = G.next {l = BitXor} (bit_and p)

  bit_or : G.Derives Atom ts e → G.Derives BitOr ts e
  bit_or p = G.next {l = BitOr} (bit_xor p)

  compare : G.Derives Atom ts e → G.Derives Compare ts e
  compare p = G.next {l = Compare} (bit_or p)

  not_level : G.Derives Atom ts e → G.Derives Not ts e
  not_level p = G.next {l = Not} (compare p)

  and_level : G.Derives Atom ts e → G.Derives And ts e
  and_level p = G.next {l = And} (not_level p)

  or_level : G.Derives Atom ts e → G.Derives Or ts e
  or_level p = G.next {l = Or} (and_level p)

  expression : G.Derives Atom ts e → G.Derives Expression ts e
  expression p = G.next {l = Expression} (or_level p)

  -- an atom stands at every level
  pub climb : (l : Level) → G.Derives Atom ts e → G.Derives l ts e
  climb Value p = G.next {l = Value} (G.next {l = Stars} (G.next {l = StarItem} (expression p)))
  climb Stars p = G.next {l = Stars} (G.next {l = StarItem} (expression p))
  climb StarItem p = G.next {l = StarItem} (expression p)
  climb Named p = G.next {l = Named} (expression p)
  climb Expression p = expression p
  climb Or p = or_level p
  climb And p = and_level p
  climb Not p = not_level p
  climb Compare p = compare p
  climb BitOr p = bit_or p
  climb BitXor p = bit_xor p
  climb BitAnd p = bit_and p
  climb Shift p = shift p
  climb Sum p = sum p
  climb Term p = term p
  climb Factor p = factor p
  climb Power p = power p
  climb Await p = await p
  climb Primary p = primary p
  climb Atom p = p
  climb Elem p = G.next {l = Elem} (G.next {l = Named} (expression p))
  climb Slices p = G.next {l = Slices} (G.next {l = Slice} (G.next {l = Named} (expression p)))
  climb Part p = G.next {l = Part} (G.next {l = Slice} (G.next {l = Named} (expression p)))
  climb Slice p = G.next {l = Slice} (G.next {l = Named} (expression p))
  climb Subject p = G.next {l = Subject} (G.next {l = Named} (expression p))

  -- from an inner level up to Named
  from_or : G.Derives Or ts e → G.Derives Named ts e
  from_or p = G.next {l = Named} (G.next {l = Expression} p)

  from_not : G.Derives Not ts e → G.Derives Named ts e
  from_not p = from_or (G.next {l = Or} (G.next {l = And} p))

  from_bit_or : G.Derives BitOr ts e → G.Derives Named ts e
  from_bit_or p = from_not (G.next {l = Not} (G.next {l = Compare} p))

  from_shift : G.Derives Shift ts e → G.Derives Named ts e
  from_shift p = from_bit_or (G.next {l = BitOr} (G.next {l = BitXor} (G.next {l = BitAnd} p)))

  from_factor : G.Derives Factor ts e → G.Derives Named ts e
  from_factor p = from_shift (G.next {l = Shift} (G.next {l = Sum} (G.next {l = Term} p)))

  from_primary : G.Derives Primary ts e → G.Derives Named ts e
  from_primary p = from_factor (G.next {l = Factor} (G.next {l = Power} (G.next {l = Await} p)))

  pub to_named : (l : Level) → inner l ≡ true → G.Derives l ts e → G.Derives Named ts e
  to_named Named h p = p
  to_named Expression h p = G.next {l = Named} p
  to_named Or h p = from_or p
  to_named And h p = from_or (G.next {l = Or} p)
  to_named Not h p = from_not p
  to_named Compare h p = from_not (G.next {l = Not} p)
  to_named BitOr h p = from_bit_or p
  to_named BitXor h p = from_bit_or (G.next {l = BitOr} p)
  to_named BitAnd h p = from_bit_or (G.next {l = BitOr} (G.next {l = BitXor} p))
  to_named Shift h p = from_shift p
  to_named Sum h p = from_shift (G.next {l = Shift} p)
  to_named Term h p = from_shift (G.next {l = Shift} (G.next {l = Sum} p))
  to_named Factor h p = from_factor p
  to_named Power h p = from_factor (G.next {l = Factor} p)
  to_named Await h p = from_factor (G.next {l = Factor} (G.next {l = Power} p))
  to_named Primary h p = from_primary p
  to_named Atom h p = from_primary (G.next {l = Primary} p)
  to_named Value h p = absurd (cc)
  to_named Stars h p = absurd (cc)
  to_named StarItem h p = absurd (cc)
  to_named Elem h p = absurd (cc)
  to_named Slices h p = absurd (cc)
  to_named Part h p = absurd (cc)
  to_named Slice h p = absurd (cc)
  to_named Subject h p = absurd (cc)

-- ---- Places.

-- given at a level
abbrev pub At : Standing → Level → Expr → Type 0
At n l e = GivenAsSpelled n (G.Derives l) e

module _ (n : Standing) where
  pub lifted : {e : Expr} (l : Level) → At n Atom e → At n l e
  lifted l w = (w.0, w.1, climb l w.2)

  pub grouped : {e : Expr} → At n Named e → At n Atom e
  grouped w = (Op LPar ∷ (w.0 ++ (Op RPar ∷ [])), pass_on n w.0 (Op RPar ∷ []) w.1 refl, G.group w.2)

  -- what is given at an inner level is given at every level, in brackets
  pub anywhere_at : {e : Expr} (m : Level) → inner m ≡ true → At n m e → (l : Level) → At n l e
  anywhere_at m h w l = lifted l (grouped (w.0, w.1, to_named m h w.2))

  pub at : {e : Expr} (l : Level) → At n Expression e → At n l e
  at l w = anywhere_at Expression refl w l

  -- a Starred
  pub starred_at : {e : Expr} (l : Level) → takes_star l ≡ true → At n Expression e → At n l (Trees.Starred e Load)
  starred_at Value h w = let u = at BitOr w in (Op Star ∷ u.0, u.1, G.next {l = Value} (G.next {l = Stars} (G.star_item u.2)))
  starred_at Stars h w = let u = at BitOr w in (Op Star ∷ u.0, u.1, G.next {l = Stars} (G.star_item u.2))
  starred_at StarItem h w = let u = at BitOr w in (Op Star ∷ u.0, u.1, G.star_item u.2)
  starred_at Elem h w = let u = at BitOr w in (Op Star ∷ u.0, u.1, G.star_elem u.2)
  starred_at Part h w = (Op Star ∷ w.0, w.1, G.star_part w.2)
  starred_at _ h w = absurd (cc)

  -- a name in front
  pub named_pass : (x : Identifier) (ts : List Terminal) → n.tests.name x ≡ true → Passed n ts → Passed n (in_form x ∷ ts)
  named_pass x ts p q = pass_in_front n (in_form x) ts (and_from (n.tests.name x) (bytes_eq x x) p ((bytes_eq-Decides x x).1 refl)) refl q

-- given, perhaps
pub data MayBe (n : Standing) (l : Level) : Trees.OptionalExpr → Type 0 where
  left_out : MayBe n l Trees.absent
  there : {e : Expr} → At n l e → MayBe n l (Trees.present e)

-- each of some
pub data Each (n : Standing) (l : Level) : Trees.Exprs → Type 0 where
  no_more : Each n l Trees.no_exprs
  one_more : {e : Expr} {es : Trees.Exprs} → At n l e → Each n l es → Each n l (Trees.an_expr e es)
