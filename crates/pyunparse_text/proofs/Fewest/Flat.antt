-- At every level but Atom no more brackets are open at once than the expression is high.
--
-- Carries: brackets_height, for Shortest. On: Reach.
use Rattle.std.proofs.Common.{◌≡◌, refl, sym, ap, subst, ℕ, zero, suc, ◌+◌, ◌≤◌, arith, List, [], ◌∷◌, ◌++◌, Option, Some, None, Bool, true}
use Rattle.std.proofs.Common.{false}
use Rattle.std.proofs.Common.{cond, append_assoc, append-nil}
use Rattle.std.specs.Prelude.{max, replicate, map}
use Rattle.std.proofs.lemmas.Grind.{flat_map-append}
use Rattle.pyfstring.specs.declared.parts.Conversion.{Conversion}
use Rattle.pylex_lexeme.specs.declared.kinds.Exact.{Exact}
use Rattle.pylex_lexeme.specs.declared.kinds.Exact.TheVariants.{LPar, RPar, LSqb, RSqb, LBrace, RBrace, Colon, Comma, Star, Equal}
use Rattle.pylex_lexeme.specs.declared.kinds.Exact.TheVariants.{DoubleStar}
use Rattle.pytree_node.specs.declared.operators.Operator.{Operator}
use Rattle.pytree_node.specs.declared.operators.Operator.TheVariants as Bin
use Rattle.pytree_node.specs.declared.operators.UnaryOperator.{UnaryOperator}
use Rattle.pytree_node.specs.declared.operators.UnaryOperator.TheVariants as Un
use Rattle.pytree_node.specs.declared.operators.BoolOperator.{BoolOperator}
use Rattle.pytree_node.specs.declared.operators.BoolOperator.TheVariants as Join
use Rattle.pytree_node.specs.declared.operators.Comparison.{Comparison}
use Rattle.pytree_node.specs.declared.operators.Comparison.TheVariants as Is
use Rattle.pygrammar.specs.declared.levels.Level.{Level}
use Rattle.pygrammar.specs.declared.levels.Level.TheVariants.{Value, Stars, Named, Expression, Or, Compare, BitOr, Await, Primary, Elem}
use Rattle.pygrammar.specs.declared.levels.Level.TheVariants.{Slices, Part}
use Rattle.pygrammar.specs.declared.levels.Level.TheVariants.{Slice}
use Rattle.pytree_node.specs.Values
use Rattle.pytree_node.specs.Trees
use Rattle.pytree_node.specs.Trees.{Expr, Exprs, no_exprs, an_expr, OptionalExpr, absent, present, OptionalExprs, no_optional, an_optional}
use Rattle.pytree_node.specs.Trees.{Comprehensions, no_comprehension, a_comprehension, Keywords, no_keyword, a_keyword, arg, Args, no_arg}
use Rattle.pytree_node.specs.Trees.{an_arg}
use Rattle.pytree_node.specs.Trees.{OptionalArg, absent_arg, present_arg, Arguments, arguments}
use Rattle.pytoken.specs.Terminals.{Terminal, Op, Word}
use Rattle.pygrammar.specs.Operators.{below, chain_level, chain_word}
use Rattle.pytree_height.specs.Heights.{height, heights, optional_height, optional_heights, comprehension_heights, keyword_heights}
use Rattle.pytree_height.specs.Heights.{arg_heights}
use Rattle.pytree_height.specs.Heights.{optional_arg_height, arguments_height}
use Rattle.pyunparse_text.specs.Levels.{leads, reaches, operator_level, left_level, right_level, operator_sign, unary_level, unary_sign}
use Rattle.pyunparse_text.specs.Levels.{comparison_signs}
use Rattle.pyunparse_text.specs.Written.{separated, beside, star_level, some_named, lone_star, element_level, tuple_level, lone_generator}
use Rattle.pyunparse_text.specs.Written.{constant_terminal, free, bracketed, fit, with_comma, tuple_of, compared, for_in, after_equal}
use Rattle.pyunparse_text.specs.Written.{with_slash}
use Rattle.pyunparse_text.specs.Written.{with_star, Element, is_unicode, first_text, joined, field, written, elements_after, spec_elements}
use Rattle.pyunparse_text.specs.Written.{each}
use Rattle.pyunparse_text.specs.Written.{perhaps, suffixed, alone, by_name, written_keys, pairs, clauses, conditions, parameters, names}
use Rattle.pyunparse_text.specs.Written.{gathered}
use Rattle.pyunparse_text.specs.Written.{defaults}
use Rattle.pyunparse_text.specs.Terminals.{terminal, element_terminals}
use Rattle.pyunparse_text.specs.Brackets.{open_after, most_open, brackets}
use Rattle.pyunparse_text.specs.Laws.{not_atom}
use Rattle.pyunparse_text.proofs.Fewest.Sizes.{inner}
use Rattle.pyunparse_text.proofs.Fewest.Reach.{every, implied, fit_within}
use Rattle.pyunparse_text.proofs.PieceLaws.Shallow.{first_open}

-- balanced, with no more than n open at once
pub record Flat (n : ℕ) (ts : List Terminal) : Type 0 where
  pub at : (d : ℕ) (us : List Terminal) → most_open d (ts ++ us) ≤ max (d + n) (most_open d us)

pub flat_none : (n : ℕ) → Flat n []
flat_none n = record { at = λ d us. omega arith }

flat_more : (m n : ℕ) {ts : List Terminal} → m ≤ n → Flat m ts → Flat n ts
flat_more m n h f = record { at = λ d us. omega (arith, h, f.at d us) }

pub both : {n : ℕ} {ts us : List Terminal} → Flat n ts → Flat n us → Flat n (ts ++ us)
both {n} {ts} {us} f g = record { at = λ d vs. rw (append_assoc ts us vs) (omega (arith, f.at d (us ++ vs), g.at d vs)) }

abbrev pub Neutral : Terminal → Type 0
Neutral t = (d : ℕ) → open_after d t ≡ d

pub plain : {n : ℕ} {t : Terminal} {ts : List Terminal} → Neutral t → Flat n ts → Flat n (t ∷ ts)
plain {n} {t} {ts} k f = record { at = λ d us. rw (k d) (omega (arith, f.at d us, first_open d us)) }

-- a pair of brackets
pub record Opens (t : Terminal) : Type 0 where
  pub is : (d : ℕ) → open_after d t ≡ suc d

pub record Closes (t : Terminal) : Type 0 where
  pub is : (d : ℕ) → open_after (suc d) t ≡ d

pub open_round : Opens (Op LPar)
open_round = record { is = λ d. refl }

pub open_square : Opens (Op LSqb)
open_square = record { is = λ d. refl }

pub open_curly : Opens (Op LBrace)
open_curly = record { is = λ d. refl }

pub close_round : Closes (Op RPar)
close_round = record { is = λ d. omega arith }

pub close_square : Closes (Op RSqb)
close_square = record { is = λ d. omega arith }

pub close_curly : Closes (Op RBrace)
close_curly = record { is = λ d. omega arith }

pub pair : {n : ℕ} {o c : Terminal} {ts : List Terminal} → Opens o → Closes c → Flat n ts → Flat (n + 1) (o ∷ (ts ++ (c ∷ [])))
pair {n} {o} {c} {ts} p q f = record { at = λ d us. rw (p.is d, append_assoc ts (c ∷ []) us) (step d us) }
  where
    step : (d : ℕ) (us : List Terminal) → max d (most_open (suc d) (ts ++ (c ∷ us))) ≤ max (d + (n + 1)) (most_open d us)
    step d us = let h : most_open (suc d) (ts ++ (c ∷ us)) ≤ max (suc d + n) (max (suc d) (most_open d us)) =
        subst (λ k. most_open (suc d) (ts ++ (c ∷ us)) ≤ max (suc d + n) (max (suc d) (most_open k us))) (q.is d) (f.at (suc d) (c ∷ us)) in
        omega (arith, h, first_open d us)

pub up : {m n : ℕ} {ts : List Terminal} → Flat m ts → m ≤ n → Flat n ts
up {m} {n} f h = flat_more m n h f

pub neutral : Neutral (Op Comma)
neutral d = refl

fit_flat : {n : ℕ} {ts : List Terminal} (l k : Level) → Flat n ts → Flat (n + 1) (fit terminal l k ts)
unfolding fit
fit_flat {n} {ts} l k f = by (reaches l k)
  where
    by : (b : Bool) → Flat (n + 1) (cond b ts (bracketed terminal ts))
    by true = up f (omega arith)
    by false = pair open_round close_round f

-- lists of lists
pub data AllFlat (n : ℕ) : List (List Terminal) → Type 0 where
  none : AllFlat n []
  one : {ts : List Terminal} {tss : List (List Terminal)} → Flat n ts → AllFlat n tss → AllFlat n (ts ∷ tss)

pub all_up : {m n : ℕ} {tss : List (List Terminal)} → AllFlat m tss → m ≤ n → AllFlat n tss
all_up none h = none
all_up (one f r) h = one (up f h) (all_up r h)

pub separated_flat : {n : ℕ} {tss : List (List Terminal)} (t : Terminal) → Neutral t → AllFlat n tss → Flat n (separated t tss)
separated_flat {n} t k none = flat_none n
separated_flat t k (one f none) = f
separated_flat t k (one f (one g r)) = both f (plain k (separated_flat t k (one g r)))

pub with_comma_flat : {n : ℕ} {tss : List (List Terminal)} → AllFlat n tss → Flat n (with_comma terminal tss)
with_comma_flat {n} none = flat_none n
with_comma_flat (one f r) = both f (plain neutral (separated_flat (Op Comma) neutral r))

tuple_flat : {n : ℕ} {tss : List (List Terminal)} (l : Level) (s : Bool) → AllFlat n tss → Flat (n + 1) (tuple_of terminal l s tss)
tuple_flat {n} l s none = pair open_round close_round (flat_none n)
tuple_flat Elem s (one f r) = pair open_round close_round (with_comma_flat (one f r))
tuple_flat Part true (one f r) = up (separated_flat (Op Comma) neutral (one f r)) (omega arith)
tuple_flat _ _ (one f r) = up (with_comma_flat (one f r)) (omega arith)

pub all_append : {n : ℕ} {xs ys : List (List Terminal)} → AllFlat n xs → AllFlat n ys → AllFlat n (xs ++ ys)
all_append none r = r
all_append (one f q) r = one f (all_append q r)

beside_flat : {n : ℕ} {xs ys : List (List Terminal)} → AllFlat n xs → AllFlat n ys → AllFlat n (beside xs ys)
beside_flat none r = none
beside_flat (one f q) none = none
beside_flat (one f q) (one g r) = one (both f g) (beside_flat q r)

replicate_flat : {n : ℕ} (k : ℕ) → AllFlat n (replicate k [])
replicate_flat zero = none
replicate_flat {n} (suc k) = one (flat_none n) (replicate_flat k)

slash_flat : {n : ℕ} {tss : List (List Terminal)} (xs : List (List Terminal)) → AllFlat n tss → AllFlat n (with_slash terminal xs tss)
slash_flat [] r = r
slash_flat (x ∷ []) none = none
slash_flat {n} (x ∷ []) (one f r) = one f (one (plain (λ d. refl) (flat_none n)) r)
slash_flat (x ∷ (y ∷ xs)) none = none
slash_flat (x ∷ (y ∷ xs)) (one f r) = one f (slash_flat (y ∷ xs) r)

star_flat : {n : ℕ} {xs : List (List Terminal)} (ys : List (List Terminal)) → AllFlat n xs → AllFlat n (with_star terminal xs ys)
star_flat [] none = none
star_flat {n} (y ∷ ys) none = one (plain (λ d. refl) (flat_none n)) none
star_flat ys (one f r) = one f r

equal_flat : {n : ℕ} {tss : List (List Terminal)} → AllFlat n tss → AllFlat n (map (after_equal terminal) tss)
equal_flat none = none
equal_flat (one f r) = one (plain (λ d. refl) f) (equal_flat r)

signs_flat : (n : ℕ) (o : Comparison) → Flat n (map (free terminal) (comparison_signs o))
signs_flat n Is.IsNot = plain (λ d. refl) (plain (λ d. refl) (flat_none n))
signs_flat n Is.NotIn = plain (λ d. refl) (plain (λ d. refl) (flat_none n))
signs_flat n _ = plain (λ d. refl) (flat_none n)

compared_flat : {n : ℕ} {tss : List (List Terminal)} (os : List Comparison) → AllFlat n tss → Flat n (compared terminal os tss)
compared_flat {n} [] r = flat_none n
compared_flat {n} (o ∷ os) none = flat_none n
compared_flat {n} (o ∷ os) (one f r) = both (signs_flat n o) (both f (compared_flat os r))

for_flat : {n : ℕ} {ts : List Terminal} (b : Bool) → Flat n ts → Flat n (for_in terminal b ts)
for_flat true f = plain (λ d. refl) (plain (λ d. refl) f)
for_flat false f = plain (λ d. refl) f

data KeysFlat (n : ℕ) : List (Option (List Terminal)) → Type 0 where
  no_keys : KeysFlat n []
  no_key : {ks : List (Option (List Terminal))} → KeysFlat n ks → KeysFlat n (None ∷ ks)
  key : {ts : List Terminal} {ks : List (Option (List Terminal))} → Flat n ts → KeysFlat n ks → KeysFlat n (Some ts ∷ ks)

keys_up : {m n : ℕ} {ks : List (Option (List Terminal))} → KeysFlat m ks → m ≤ n → KeysFlat n ks
keys_up no_keys h = no_keys
keys_up (no_key r) h = no_key (keys_up r h)
keys_up (key f r) h = key (up f h) (keys_up r h)

if_flat : {n : ℕ} {ts us : List Terminal} (b : Bool) → Flat n ts → Flat n us → Flat n (cond b ts us)
if_flat true f g = f
if_flat false f g = g

-- levels that are not Atom

to_primary : (l : Level) → not_atom l ≡ true → reaches l Primary ≡ true
unfolding reaches leads
to_primary l h = by (not_atom l) (every (λ l. implied (not_atom l) (reaches l Primary)) refl l) h
  where
    by : (b : Bool) → implied b (reaches l Primary) ≡ true → b ≡ true → reaches l Primary ≡ true
    by true q h = q
    by false q h = absurd (cc)

primary : {n : ℕ} {ts : List Terminal} (l : Level) → not_atom l ≡ true → Flat n ts → Flat n (fit terminal l Primary ts)
primary {n} {ts} l a f = subst (Flat n) (sym (fit_within l Primary ts (to_primary l a))) f

left_not_atom : (o : Operator) → not_atom (left_level o) ≡ true
left_not_atom Bin.Add = refl
left_not_atom Bin.Sub = refl
left_not_atom Bin.Mult = refl
left_not_atom Bin.MatMult = refl
left_not_atom Bin.Div = refl
left_not_atom Bin.Mod = refl
left_not_atom Bin.Pow = refl
left_not_atom Bin.LShift = refl
left_not_atom Bin.RShift = refl
left_not_atom Bin.BitOr = refl
left_not_atom Bin.BitXor = refl
left_not_atom Bin.BitAnd = refl
left_not_atom Bin.FloorDiv = refl

right_not_atom : (o : Operator) → not_atom (right_level o) ≡ true
right_not_atom Bin.Add = refl
right_not_atom Bin.Sub = refl
right_not_atom Bin.Mult = refl
right_not_atom Bin.MatMult = refl
right_not_atom Bin.Div = refl
right_not_atom Bin.Mod = refl
right_not_atom Bin.Pow = refl
right_not_atom Bin.LShift = refl
right_not_atom Bin.RShift = refl
right_not_atom Bin.BitOr = refl
right_not_atom Bin.BitXor = refl
right_not_atom Bin.BitAnd = refl
right_not_atom Bin.FloorDiv = refl

chain_not_atom : (o : BoolOperator) → not_atom (below (chain_level o)) ≡ true
chain_not_atom Join.And = refl
chain_not_atom Join.Or = refl

unary_not_atom : (o : UnaryOperator) → not_atom (unary_level o) ≡ true
unary_not_atom Un.Not = refl
unary_not_atom _ = refl

star_not_atom : (l : Level) → not_atom (star_level l) ≡ true
star_not_atom Part = refl
star_not_atom Named = refl
star_not_atom _ = refl

element_not_atom : (l : Level) (b : Bool) → not_atom (element_level l b) ≡ true
element_not_atom Slices b = refl
element_not_atom Value false = refl
element_not_atom Stars false = refl
element_not_atom _ _ = refl

operator_neutral : (o : Operator) → Neutral (operator_sign o)
operator_neutral Bin.Add d = refl
operator_neutral Bin.Sub d = refl
operator_neutral Bin.Mult d = refl
operator_neutral Bin.MatMult d = refl
operator_neutral Bin.Div d = refl
operator_neutral Bin.Mod d = refl
operator_neutral Bin.Pow d = refl
operator_neutral Bin.LShift d = refl
operator_neutral Bin.RShift d = refl
operator_neutral Bin.BitOr d = refl
operator_neutral Bin.BitXor d = refl
operator_neutral Bin.BitAnd d = refl
operator_neutral Bin.FloorDiv d = refl

unary_neutral : (o : UnaryOperator) → Neutral (unary_sign o)
unary_neutral Un.Not d = refl
unary_neutral Un.UAdd d = refl
unary_neutral Un.USub d = refl
unary_neutral Un.Invert d = refl

pub constant_neutral : (v : Values.Value) → Neutral (constant_terminal v)
constant_neutral (Values.Bool true) d = refl
constant_neutral (Values.Bool false) d = refl
constant_neutral _ d = refl

-- an f-string: the expressions of its fields are in brackets
string_flat : {n : ℕ} (es : List (Element Terminal)) → Flat n (inner es) → Flat n (terminal.formatted es)
string_flat {n} es f = plain (λ d. refl) (both f (plain (λ d. refl) (flat_none n)))

joined_flat : {n : ℕ} (b : Bool) (t : List ℕ) (es : List (Element Terminal)) → Flat n (inner es) → Flat n (joined terminal b t es)
joined_flat false t es f = string_flat (Element.Text false t ∷ es) (plain (λ d. refl) f)
joined_flat true t es f = plain (λ d. refl) (string_flat (Element.Text false [] ∷ es) (plain (λ d. refl) f))

field_flat : {n : ℕ} (c : Conversion) (ts : List Terminal) (es : List (Element Terminal)) → Flat n ts → Flat (n + 1) (inner es)
    → Flat (n + 1) (inner (field terminal c ts es))
field_flat {n} c ts es f g =
    rw (flat_map-append element_terminals es (Element.End ∷ []))
    (plain (λ d. refl) (both (pair open_round close_round f) (both g (plain (λ d. refl) (flat_none (n + 1))))))

value_flat : (n : ℕ) (e : Expr) (c : Conversion) (s : OptionalExpr) (es : List (Element Terminal)) → Flat (height e) (written terminal Or e)
    → Flat (optional_height s) (inner (spec_elements terminal s)) → Flat n (inner es)
    → max (height e) (optional_height s) + 1 ≤ n
    → Flat n (inner (field terminal c (written terminal Or e) (spec_elements terminal s) ++ es))
value_flat n e c s es f g r h =
    rw (flat_map-append element_terminals (field terminal c (written terminal Or e) (spec_elements terminal s)) es)
    (both (up (field_flat {n = max (height e) (optional_height s)} c (written terminal Or e) (spec_elements terminal s) (up f (omega arith))
    (up g (omega arith))) h) r)

mutual
  unfolding written elements_after spec_elements each perhaps suffixed alone by_name written_keys pairs clauses conditions
      parameters names gathered defaults

  pub flat : (l : Level) → not_atom l ≡ true → (e : Expr) → Flat (height e) (written terminal l e)
  flat l a (Trees.Yield e) = fit_flat l Value (plain (λ d. refl) (flat_perhaps Stars refl e))
  flat l a (Trees.YieldFrom e) = fit_flat l Value (plain (λ d. refl) (plain (λ d. refl) (flat Expression refl e)))
  flat l a (Trees.Starred e c) = plain (λ d. refl) (up (flat (star_level l) (star_not_atom l) e) (omega arith))
  flat l a (Trees.NamedExpr t e) =
      fit_flat l Named (both (up (flat Primary refl t) (omega arith)) (plain (λ d. refl) (up (flat Expression refl e) (omega arith))))
  flat l a (Trees.Lambda p e) =
      fit_flat l Expression
      (plain (λ d. refl) (both (separated_flat (Op Comma) neutral (all_up (flat_parameters p) (omega arith)))
      (plain (λ d. refl) (up (flat Expression refl e) (omega arith)))))
  flat l a (Trees.IfExp x y z) =
      fit_flat l Expression
      (both (up (flat Or refl y) (omega arith))
      (plain (λ d. refl) (both (up (flat Or refl x) (omega arith)) (plain (λ d. refl) (up (flat Expression refl z) (omega arith))))))
  flat l a (Trees.BoolOp o es) =
      fit_flat l (chain_level o)
      (separated_flat (Word (chain_word o)) (λ d. refl) (flat_each (below (chain_level o)) (chain_not_atom o) es))
  flat l a (Trees.UnaryOp o e) = fit_flat l (unary_level o) (plain (unary_neutral o) (flat (unary_level o) (unary_not_atom o) e))
  flat l a (Trees.Compare e os es) =
      fit_flat l Compare (both (up (flat BitOr refl e) (omega arith)) (compared_flat os (all_up (flat_each BitOr refl es) (omega arith))))
  flat l a (Trees.BinOp x o y) =
      fit_flat l (operator_level o)
      (both (up (flat (left_level o) (left_not_atom o) x) (omega arith))
      (plain (operator_neutral o) (up (flat (right_level o) (right_not_atom o) y) (omega arith))))
  flat l a (Trees.Await e) = fit_flat l Await (plain (λ d. refl) (flat Primary refl e))
  flat l a (Trees.Attribute e x c) =
      fit_flat l Primary (both (flat Primary refl e) (plain (λ d. refl) (plain (λ d. refl) (flat_none (height e)))))
  flat l a (Trees.Call f es ks) =
      primary l a
      (both (up (flat Primary refl f) (omega arith)) (pair {n = max (height f) (max (heights es) (keyword_heights ks))} open_round
      close_round (if_flat (lone_generator es ks) (up (flat_alone es) (omega arith))
      (separated_flat (Op Comma) neutral (all_append (all_up (flat_each Named refl es) (omega arith))
      (all_up (flat_by_name ks) (omega arith)))))))
  flat l a (Trees.Subscript e s c) =
      primary l a
      (both (up (flat Primary refl e) (omega arith)) (pair {n = max (height e) (height s)} open_square close_square
      (up (flat Slices refl s) (omega arith))))
  flat l a (Trees.Name x c) = plain (λ d. refl) (flat_none 1)
  flat l a (Trees.Constant v) = plain (constant_neutral v) (flat_none 1)
  flat l a (Trees.FormattedValue e c s) =
      string_flat (field terminal c (written terminal Or e) (spec_elements terminal s))
      (field_flat c (written terminal Or e) (spec_elements terminal s) (up (flat Or refl e) (omega arith)) (up (flat_spec s) (omega arith)))
  flat l a (Trees.JoinedStr es) =
      joined_flat (is_unicode es) (first_text es) (elements_after terminal false es) (up (flat_after false es) (omega arith))
  flat l a (Trees.Tuple es c) =
      tuple_flat (tuple_level l (some_named es)) (lone_star es)
      (flat_each (element_level l (some_named es)) (element_not_atom l (some_named es)) es)
  flat l a (Trees.GeneratorExp e gs) =
      pair open_round close_round (both (up (flat Named refl e) (omega arith)) (up (flat_clauses gs) (omega arith)))
  flat l a (Trees.ListOf es c) = pair open_square close_square (separated_flat (Op Comma) neutral (flat_each Elem refl es))
  flat l a (Trees.ListComp e gs) =
      pair open_square close_square (both (up (flat Named refl e) (omega arith)) (up (flat_clauses gs) (omega arith)))
  flat l a (Trees.Dict ks es) =
      pair open_curly close_curly
      (separated_flat (Op Comma) neutral (flat_pairs (max (optional_heights ks) (heights es))
      (keys_up (flat_keys ks) (omega arith)) es (omega arith)))
  flat l a (Trees.DictComp k e gs) =
      pair open_curly close_curly
      (both (up (flat Expression refl k) (omega arith))
      (plain (λ d. refl) (both (up (flat Expression refl e) (omega arith)) (up (flat_clauses gs) (omega arith)))))
  flat l a (Trees.Set es) = pair open_curly close_curly (separated_flat (Op Comma) neutral (flat_each Elem refl es))
  flat l a (Trees.SetComp e gs) =
      pair open_curly close_curly (both (up (flat Named refl e) (omega arith)) (up (flat_clauses gs) (omega arith)))
  flat l a (Trees.Slice x y z) =
      fit_flat l Slice
      (both (up (flat_perhaps Expression refl x) (omega arith))
      (plain (λ d. refl) (both (up (flat_perhaps Expression refl y) (omega arith)) (up (flat_suffixed Colon (λ d. refl) z) (omega arith)))))

  flat_after : (b : Bool) (es : Exprs) → Flat (heights es) (inner (elements_after terminal b es))
  flat_after b no_exprs = flat_none 0
  flat_after b (an_expr (Trees.FormattedValue e c s) es) =
      value_flat (heights (an_expr (Trees.FormattedValue e c s) es)) e c s (Element.Text b (first_text es) ∷ elements_after terminal b es)
      (flat Or refl e) (flat_spec s)
      (plain (λ d. refl) (up (flat_after b es) (omega arith))) (omega arith)
  flat_after b (an_expr e es) = up (flat_after b es) (omega arith)

  flat_spec : (s : OptionalExpr) → Flat (optional_height s) (inner (spec_elements terminal s))
  flat_spec absent = flat_none 0
  flat_spec (present (Trees.JoinedStr es)) = plain (λ d. refl) (plain (λ d. refl) (up (flat_after true es) (omega arith)))
  flat_spec (present e) = flat_none (height e)

  pub flat_each : (l : Level) → not_atom l ≡ true → (es : Exprs) → AllFlat (heights es) (each terminal l es)
  flat_each l a no_exprs = none
  flat_each l a (an_expr e es) = one (up (flat l a e) (omega arith)) (all_up (flat_each l a es) (omega arith))

  flat_perhaps : (l : Level) → not_atom l ≡ true → (e : OptionalExpr) → Flat (optional_height e) (perhaps terminal l e)
  flat_perhaps l a absent = flat_none 0
  flat_perhaps l a (present e) = flat l a e

  flat_suffixed : (s : Exact) → Neutral (Op s) → (e : OptionalExpr) → Flat (optional_height e) (suffixed terminal (Op s) e)
  flat_suffixed s k absent = flat_none 0
  flat_suffixed s k (present e) = plain k (flat Expression refl e)

  flat_alone : (es : Exprs) → Flat (heights es) (alone terminal es)
  flat_alone (an_expr (Trees.GeneratorExp e gs) es) = both (up (flat Named refl e) (omega arith)) (up (flat_clauses gs) (omega arith))
  flat_alone es = flat_none (heights es)

  pub flat_by_name : (ks : Keywords) → AllFlat (keyword_heights ks) (by_name terminal ks)
  flat_by_name no_keyword = none
  flat_by_name (a_keyword None e ks) = one (plain (λ d. refl) (up (flat Expression refl e) (omega arith)))
      (all_up (flat_by_name ks) (omega arith))
  flat_by_name (a_keyword (Some x) e ks) =
      one (plain (λ d. refl) (plain (λ d. refl) (up (flat Expression refl e) (omega arith)))) (all_up (flat_by_name ks) (omega arith))

  flat_keys : (ks : OptionalExprs) → KeysFlat (optional_heights ks) (written_keys terminal ks)
  flat_keys no_optional = no_keys
  flat_keys (an_optional absent ks) = no_key (keys_up (flat_keys ks) (omega arith))
  flat_keys (an_optional (present k) ks) = key (up (flat Expression refl k) (omega arith)) (keys_up (flat_keys ks) (omega arith))

  flat_pairs : (n : ℕ) {ks : List (Option (List Terminal))} → KeysFlat n ks → (es : Exprs) → heights es ≤ n
      → AllFlat n (pairs terminal ks es)
  flat_pairs n no_keys es h = none
  flat_pairs n (no_key r) no_exprs h = none
  flat_pairs n (key f r) no_exprs h = none
  flat_pairs n (no_key r) (an_expr e es) h =
      one (plain (λ d. refl) (up (flat BitOr refl e) (omega (arith, h)))) (flat_pairs n r es (omega (arith, h)))
  flat_pairs n (key f r) (an_expr e es) h =
      one (both f (plain (λ d. refl) (up (flat Expression refl e) (omega (arith, h))))) (flat_pairs n r es (omega (arith, h)))

  flat_clauses : (gs : Comprehensions) → Flat (comprehension_heights gs) (clauses terminal gs)
  flat_clauses no_comprehension = flat_none 0
  flat_clauses (a_comprehension t e cs b gs) =
      both
      (for_flat b (both (up (flat Stars refl t) (omega arith))
      (plain (λ d. refl) (both (up (flat Or refl e) (omega arith)) (up (flat_conditions cs) (omega arith))))))
      (up (flat_clauses gs) (omega arith))

  flat_conditions : (es : Exprs) → Flat (heights es) (conditions terminal es)
  flat_conditions no_exprs = flat_none 0
  flat_conditions (an_expr e es) = plain (λ d. refl) (both (up (flat Or refl e) (omega arith)) (up (flat_conditions es) (omega arith)))

  pub flat_parameters : (a : Arguments) → AllFlat (arguments_height a) (parameters terminal a)
  flat_parameters (arguments ps qs v ks kds k ds) =
      all_append
      (slash_flat (names terminal ps)
      (beside_flat (all_append (all_up (flat_names ps) (omega arith)) (all_up (flat_names qs) (omega arith)))
      (all_append (replicate_flat _) (equal_flat (all_up (flat_each Expression refl ds) (omega arith))))))
      (all_append (star_flat (names terminal ks) (all_up (flat_gathered Star (λ d. refl) v) (omega arith)))
      (all_append (beside_flat (all_up (flat_names ks) (omega arith)) (all_up (flat_defaults kds) (omega arith)))
      (all_up (flat_gathered DoubleStar (λ d. refl) k) (omega arith))))

  flat_names : (ps : Args) → AllFlat (arg_heights ps) (names terminal ps)
  flat_names no_arg = none
  flat_names (an_arg (arg x t) ps) =
      one (plain (λ d. refl) (up (flat_suffixed Colon (λ d. refl) t) (omega arith))) (all_up (flat_names ps) (omega arith))

  flat_gathered : (s : Exact) → Neutral (Op s) → (k : OptionalArg) → AllFlat (optional_arg_height k) (gathered terminal s k)
  flat_gathered s n absent_arg = none
  flat_gathered s n (present_arg (arg x t)) = one (plain n (plain (λ d. refl) (flat_suffixed Colon (λ d. refl) t))) none

  flat_defaults : (ds : OptionalExprs) → AllFlat (optional_heights ds) (defaults terminal ds)
  flat_defaults no_optional = none
  flat_defaults (an_optional d ds) = one (up (flat_suffixed Equal (λ d. refl) d) (omega arith)) (all_up (flat_defaults ds) (omega arith))

-- at every level but Atom
pub brackets_height : (l : Level) (e : Expr) → not_atom l ≡ true → brackets (written terminal l e) ≤ height e
brackets_height l e a = omega (arith, (flat l a e).at 0 [], ap brackets (append-nil (written terminal l e)))
