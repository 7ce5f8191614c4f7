-- How many tokens an expression is written in.
--
-- Carries: same, for Shortest, Patterns. On: Counted.
use Rattle.std.proofs.Common.{◌≡◌, refl, sym, ap, subst, ℕ, zero, suc, ◌≤◌, arith, List, [], ◌∷◌, ◌++◌, length, Option, Some, None, Bool}
use Rattle.std.proofs.Common.{true, false}
use Rattle.std.proofs.Common.{cond, length-append}
use Rattle.std.specs.Prelude.{◌-◌, map, replicate}
use Rattle.std.specs.List.{flat_map}
use Rattle.std.proofs.lemmas.Grind.{flat_map-append}
use Rattle.pyfstring.specs.declared.parts.Conversion.{Conversion}
use Rattle.pylex_lexeme.specs.declared.kinds.Exact.{Exact}
use Rattle.pylex_lexeme.specs.declared.kinds.Exact.TheVariants.{LPar, RPar, LSqb, RSqb, LBrace, RBrace, Colon, Comma, Star, Equal}
use Rattle.pylex_lexeme.specs.declared.kinds.Exact.TheVariants.{DoubleStar}
use Rattle.pytree_node.specs.declared.operators.Operator.{Operator}
use Rattle.pytree_node.specs.declared.operators.Operator.TheVariants as Bin
use Rattle.pytree_node.specs.declared.operators.UnaryOperator.{UnaryOperator}
use Rattle.pytree_node.specs.declared.operators.UnaryOperator.TheVariants as Un
use Rattle.pytree_node.specs.declared.operators.Comparison.{Comparison}
use Rattle.pytree_node.specs.declared.operators.Comparison.TheVariants as Is
use Rattle.pygrammar.specs.declared.levels.Level.{Level}
use Rattle.pygrammar.specs.declared.levels.Level.TheVariants.{Value, Stars, Named, Expression, Or, Compare, BitOr, Await, Primary, Elem}
use Rattle.pygrammar.specs.declared.levels.Level.TheVariants.{Slices, Part}
use Rattle.pygrammar.specs.declared.levels.Level.TheVariants.{Slice}
use Rattle.pytree_node.specs.Values
use Rattle.pytree_node.specs.Trees
use Rattle.pytree_node.specs.Trees.{Expr, Exprs, no_exprs, an_expr, OptionalExpr, absent, present, OptionalExprs, no_optional, an_optional}
use Rattle.pytree_node.specs.Trees.{Comprehensions, no_comprehension, a_comprehension, Keywords, no_keyword, a_keyword, arg, Args, no_arg}
use Rattle.pytree_node.specs.Trees.{an_arg}
use Rattle.pytree_node.specs.Trees.{OptionalArg, absent_arg, present_arg, Arguments, arguments}
use Rattle.pytoken.specs.Terminals.{Terminal, Op, Word}
use Rattle.pygrammar.specs.OpenStrings.{token_count}
use Rattle.pygrammar.specs.Operators.{below, chain_level, chain_word}
use Rattle.pyunparse_text.specs.Levels.{reaches, operator_level, left_level, right_level, operator_sign, unary_level, unary_sign}
use Rattle.pyunparse_text.specs.Levels.{comparison_signs}
use Rattle.pyunparse_text.specs.Written.{Element, separated, beside, star_level, some_named, lone_star, element_level, tuple_level}
use Rattle.pyunparse_text.specs.Written.{lone_generator}
use Rattle.pyunparse_text.specs.Written.{constant_terminal, is_unicode, first_text, joined, free, bracketed, fit, with_comma, tuple_of}
use Rattle.pyunparse_text.specs.Written.{compared}
use Rattle.pyunparse_text.specs.Written.{for_in, after_equal, with_slash, with_star, field, written, elements_after, spec_elements, each}
use Rattle.pyunparse_text.specs.Written.{perhaps}
use Rattle.pyunparse_text.specs.Written.{suffixed, alone, by_name, written_keys, pairs, clauses, conditions, parameters, names, gathered}
use Rattle.pyunparse_text.specs.Written.{defaults}
use Rattle.pyunparse_text.specs.Terminals.{terminal, element_terminals}
use Rattle.pyunparse_text.proofs.Fewest.Counted.{one, AtLeast, Counted, is_plain, counted_none, counted_token, counted_both, count_is}
use Rattle.pyunparse_text.proofs.Fewest.Counted.{Silent, silent}
use Rattle.pyunparse_text.proofs.Fewest.Counted.{silent_none, silent_token, silent_both, silent_field, counted_string}

-- as many marks as tokens
pub record Same (ms : List (Unit {0})) (ts : List Terminal) : Type 0 where
  pub is : Counted (length ms) ts

pub same_none : Same [] []
same_none = record { is = counted_none }

pub token : {ms : List (Unit {0})} {t : Terminal} {ts : List Terminal} → is_plain t ≡ true → Same ms ts → Same (tt ∷ ms) (t ∷ ts)
token p c = record { is = counted_token p c.is }

pub both : {ms ns : List (Unit {0})} {ts us : List Terminal} → Same ms ts → Same ns us → Same (ms ++ ns) (ts ++ us)
both {ms} {ns} {ts} {us} c d = record { is = subst (λ k. Counted k (ts ++ us)) (sym (length-append ms ns)) (counted_both c.is d.is) }

pub last : {t : Terminal} → is_plain t ≡ true → Same (tt ∷ []) (t ∷ [])
last p = token p same_none

pub in_brackets : {ms : List (Unit {0})} {ts : List Terminal} (x y : Exact) → Same ms ts
    → Same (tt ∷ (ms ++ (tt ∷ []))) (Op x ∷ (ts ++ (Op y ∷ [])))
in_brackets x y c = token refl (both c (last refl))

pub fit_same : {ms : List (Unit {0})} {ts : List Terminal} (l k : Level) → Same ms ts → Same (fit one l k ms) (fit terminal l k ts)
unfolding fit
fit_same {ms} {ts} l k c = by (reaches l k)
  where
    by : (b : Bool) → Same (cond b ms (bracketed one ms)) (cond b ts (bracketed terminal ts))
    by true = c
    by false = in_brackets LPar RPar c

-- lists of lists
pub data AllSame : List (List (Unit {0})) → List (List Terminal) → Type 0 where
  none : AllSame [] []
  more : {ms : List (Unit {0})} {ts : List Terminal} {mss : List (List (Unit {0}))} {tss : List (List Terminal)}
      → Same ms ts → AllSame mss tss
      → AllSame (ms ∷ mss) (ts ∷ tss)

pub separated_same : {mss : List (List (Unit {0}))} {tss : List (List Terminal)} (t : Terminal) → is_plain t ≡ true → AllSame mss tss
    → Same (separated tt mss) (separated t tss)
separated_same t p none = same_none
separated_same t p (more c none) = c
separated_same t p (more c (more d r)) = both c (token p (separated_same t p (more d r)))

pub listed_same : {mss : List (List (Unit {0}))} {tss : List (List Terminal)} → AllSame mss tss
    → Same (separated tt mss) (separated (Op Comma) tss)
listed_same r = separated_same (Op Comma) refl r

pub with_comma_same : {mss : List (List (Unit {0}))} {tss : List (List Terminal)} → AllSame mss tss
    → Same (with_comma one mss) (with_comma terminal tss)
with_comma_same none = same_none
with_comma_same (more c r) = both c (token refl (listed_same r))

tuple_same : {mss : List (List (Unit {0}))} {tss : List (List Terminal)} (l : Level) (s : Bool) → AllSame mss tss
    → Same (tuple_of one l s mss) (tuple_of terminal l s tss)
tuple_same l s none = in_brackets LPar RPar same_none
tuple_same Elem s (more c r) = in_brackets LPar RPar (with_comma_same (more c r))
tuple_same Part true (more c r) = listed_same (more c r)
tuple_same _ _ (more c r) = with_comma_same (more c r)

pub append_same : {xs ys : List (List (Unit {0}))} {tss uss : List (List Terminal)} → AllSame xs tss → AllSame ys uss
    → AllSame (xs ++ ys) (tss ++ uss)
append_same none r = r
append_same (more c q) r = more c (append_same q r)

beside_same : {xs ys : List (List (Unit {0}))} {tss uss : List (List Terminal)} → AllSame xs tss → AllSame ys uss
    → AllSame (beside xs ys) (beside tss uss)
beside_same none r = none
beside_same (more c q) none = none
beside_same (more c q) (more d r) = more (both c d) (beside_same q r)

replicate_same : (m n : ℕ) → m ≡ n → AllSame (replicate m []) (replicate n [])
replicate_same m n e = subst (λ k. AllSame (replicate m []) (replicate k [])) e (at m)
  where
    at : (k : ℕ) → AllSame (replicate k []) (replicate k [])
    at zero = none
    at (suc k) = more same_none (at k)

length_same : {mss : List (List (Unit {0}))} {tss : List (List Terminal)} → AllSame mss tss → length mss ≡ length tss
length_same none = refl
length_same (more c r) = ap suc (length_same r)

slash_same : {xs mss : List (List (Unit {0}))} {uss tss : List (List Terminal)} → AllSame xs uss → AllSame mss tss
    → AllSame (with_slash one xs mss) (with_slash terminal uss tss)
slash_same none r = r
slash_same (more x none) none = none
slash_same (more x none) (more c r) = more c (more (last refl) r)
slash_same (more x (more y xs)) none = none
slash_same (more x (more y xs)) (more c r) = more c (slash_same (more y xs) r)

star_same : {xs ys : List (List (Unit {0}))} {tss uss : List (List Terminal)} → AllSame xs tss → AllSame ys uss
    → AllSame (with_star one xs ys) (with_star terminal tss uss)
star_same none none = none
star_same none (more y ys) = more (last refl) none
star_same (more x xs) r = more x xs

equal_same : {mss : List (List (Unit {0}))} {tss : List (List Terminal)} → AllSame mss tss
    → AllSame (map (after_equal one) mss) (map (after_equal terminal) tss)
equal_same none = none
equal_same (more c r) = more (token refl c) (equal_same r)

signs_same : (o : Comparison) → Same (map (free one) (comparison_signs o)) (map (free terminal) (comparison_signs o))
signs_same Is.IsNot = token refl (last refl)
signs_same Is.NotIn = token refl (last refl)
signs_same _ = last refl

compared_same : {mss : List (List (Unit {0}))} {tss : List (List Terminal)} (os : List Comparison) → AllSame mss tss
    → Same (compared one os mss) (compared terminal os tss)
compared_same [] r = same_none
compared_same (o ∷ os) none = same_none
compared_same (o ∷ os) (more c r) = both (signs_same o) (both c (compared_same os r))

for_same : {ms : List (Unit {0})} {ts : List Terminal} (b : Bool) → Same ms ts → Same (for_in one b ms) (for_in terminal b ts)
for_same true c = token refl (token refl c)
for_same false c = token refl c

data KeysSame : List (Option (List (Unit {0}))) → List (Option (List Terminal)) → Type 0 where
  no_keys : KeysSame [] []
  no_key : {ms : List (Option (List (Unit {0})))} {ks : List (Option (List Terminal))} → KeysSame ms ks → KeysSame (None ∷ ms) (None ∷ ks)
  key : {xs : List (Unit {0})} {ts : List Terminal} {ms : List (Option (List (Unit {0})))} {ks : List (Option (List Terminal))} → Same xs ts
      → KeysSame ms ks → KeysSame (Some xs ∷ ms) (Some ts ∷ ks)

if_same : {ms ns : List (Unit {0})} {ts us : List Terminal} (b : Bool) → Same ms ts → Same ns us → Same (cond b ms ns) (cond b ts us)
if_same true c d = c
if_same false c d = d

pub operator_plain : (o : Operator) → is_plain (operator_sign o) ≡ true
operator_plain Bin.Add = refl
operator_plain Bin.Sub = refl
operator_plain Bin.Mult = refl
operator_plain Bin.MatMult = refl
operator_plain Bin.Div = refl
operator_plain Bin.Mod = refl
operator_plain Bin.Pow = refl
operator_plain Bin.LShift = refl
operator_plain Bin.RShift = refl
operator_plain Bin.BitOr = refl
operator_plain Bin.BitXor = refl
operator_plain Bin.BitAnd = refl
operator_plain Bin.FloorDiv = refl

pub unary_plain : (o : UnaryOperator) → is_plain (unary_sign o) ≡ true
unary_plain Un.Not = refl
unary_plain Un.UAdd = refl
unary_plain Un.USub = refl
unary_plain Un.Invert = refl

pub constant_plain : (v : Values.Value) → is_plain (constant_terminal v) ≡ true
constant_plain (Values.Bool true) = refl
constant_plain (Values.Bool false) = refl
constant_plain _ = refl

-- an f-string
abbrev pub inner : List (Element Terminal) → List Terminal
inner es = flat_map element_terminals es

string_same : (es : List (Element Terminal)) → Silent (inner es) → Same (tt ∷ []) (terminal.formatted es)
string_same es s = record { is = counted_string s counted_none }

joined_same : (b : Bool) (t : List ℕ) (x : List (Element (Unit {0}))) (es : List (Element Terminal)) → Silent (inner es)
    → Same (joined one b t x) (joined terminal b t es)
joined_same false t x es s = string_same (Element.Text false t ∷ es) (silent_token refl s)
joined_same true t x es s = token refl (string_same (Element.Text false [] ∷ es) (silent_token refl s))

inner_field : (c : Conversion) (ts : List Terminal) (es : List (Element Terminal)) → Silent ts → Silent (inner es)
    → Silent (inner (field terminal c ts es))
inner_field c ts es p q =
    rw (flat_map-append element_terminals es (Element.End ∷ []))
    (silent_field {c = c} (silent_token refl (silent_both p (silent_token refl silent_none))) q silent_none)

mutual
  unfolding written elements_after spec_elements each perhaps suffixed alone by_name written_keys pairs clauses conditions
      parameters names gathered defaults

  pub same : (l : Level) (e : Expr) → Same (written one l e) (written terminal l e)
  same l (Trees.Yield e) = fit_same l Value (token refl (same_perhaps Stars e))
  same l (Trees.YieldFrom e) = fit_same l Value (token refl (token refl (same Expression e)))
  same l (Trees.Starred e c) = token refl (same (star_level l) e)
  same l (Trees.NamedExpr t e) = fit_same l Named (both (same Primary t) (token refl (same Expression e)))
  same l (Trees.Lambda p e) = fit_same l Expression (token refl (both (listed_same (same_parameters p)) (token refl (same Expression e))))
  same l (Trees.IfExp x y z) = fit_same l Expression (both (same Or y) (token refl (both (same Or x) (token refl (same Expression z)))))
  same l (Trees.BoolOp o es) = fit_same l (chain_level o) (separated_same (Word (chain_word o)) refl (same_each (below (chain_level o)) es))
  same l (Trees.UnaryOp o e) = fit_same l (unary_level o) (token (unary_plain o) (same (unary_level o) e))
  same l (Trees.Compare e os es) = fit_same l Compare (both (same BitOr e) (compared_same os (same_each BitOr es)))
  same l (Trees.BinOp x o y) =
      fit_same l (operator_level o) (both (same (left_level o) x) (token (operator_plain o) (same (right_level o) y)))
  same l (Trees.Await e) = fit_same l Await (token refl (same Primary e))
  same l (Trees.Attribute e x c) = fit_same l Primary (both (same Primary e) (token refl (last refl)))
  same l (Trees.Call f es ks) =
      fit_same l Primary
      (both (same Primary f) (in_brackets LPar RPar (if_same (lone_generator es ks) (same_alone es)
      (listed_same (append_same (same_each Named es) (same_by_name ks))))))
  same l (Trees.Subscript e s c) = fit_same l Primary (both (same Primary e) (in_brackets LSqb RSqb (same Slices s)))
  same l (Trees.Name x c) = last refl
  same l (Trees.Constant v) = last (constant_plain v)
  same l (Trees.FormattedValue e c s) =
      string_same (field terminal c (written terminal Or e) (spec_elements terminal s))
      (inner_field c (written terminal Or e) (spec_elements terminal s) (silent (same Or e).is) (silent_spec s))
  same l (Trees.JoinedStr es) =
      joined_same (is_unicode es) (first_text es) (elements_after one false es) (elements_after terminal false es)
      (silent_after false es)
  same l (Trees.Tuple es c) = tuple_same (tuple_level l (some_named es)) (lone_star es) (same_each (element_level l (some_named es)) es)
  same l (Trees.GeneratorExp e gs) = in_brackets LPar RPar (both (same Named e) (same_clauses gs))
  same l (Trees.ListOf es c) = in_brackets LSqb RSqb (listed_same (same_each Elem es))
  same l (Trees.ListComp e gs) = in_brackets LSqb RSqb (both (same Named e) (same_clauses gs))
  same l (Trees.Dict ks es) = in_brackets LBrace RBrace (listed_same (same_pairs (same_keys ks) es))
  same l (Trees.DictComp k e gs) =
      in_brackets LBrace RBrace (both (same Expression k) (token refl (both (same Expression e) (same_clauses gs))))
  same l (Trees.Set es) = in_brackets LBrace RBrace (listed_same (same_each Elem es))
  same l (Trees.SetComp e gs) = in_brackets LBrace RBrace (both (same Named e) (same_clauses gs))
  same l (Trees.Slice x y z) =
      fit_same l Slice (both (same_perhaps Expression x) (token refl (both (same_perhaps Expression y) (same_suffixed Colon z))))

  pub silent_after : (b : Bool) (es : Exprs) → Silent (inner (elements_after terminal b es))
  silent_after b no_exprs = silent_none
  silent_after b (an_expr (Trees.FormattedValue e c s) es) =
      rw
      (flat_map-append element_terminals (field terminal c (written terminal Or e) (spec_elements terminal s))
      (Element.Text b (first_text es) ∷ elements_after terminal b es))
      (silent_both (inner_field c (written terminal Or e) (spec_elements terminal s) (silent (same Or e).is) (silent_spec s))
      (silent_token refl (silent_after b es)))
  silent_after b (an_expr e es) = silent_after b es

  silent_spec : (s : OptionalExpr) → Silent (inner (spec_elements terminal s))
  silent_spec (present (Trees.JoinedStr es)) = silent_token refl (silent_token refl (silent_after true es))
  silent_spec _ = silent_none

  pub same_each : (l : Level) (es : Exprs) → AllSame (each one l es) (each terminal l es)
  same_each l no_exprs = none
  same_each l (an_expr e es) = more (same l e) (same_each l es)

  pub same_perhaps : (l : Level) (e : OptionalExpr) → Same (perhaps one l e) (perhaps terminal l e)
  same_perhaps l absent = same_none
  same_perhaps l (present e) = same l e

  same_suffixed : (s : Exact) (e : OptionalExpr) → Same (suffixed one tt e) (suffixed terminal (Op s) e)
  same_suffixed s absent = same_none
  same_suffixed s (present e) = token refl (same Expression e)

  same_alone : (es : Exprs) → Same (alone one es) (alone terminal es)
  same_alone (an_expr (Trees.GeneratorExp e gs) es) = both (same Named e) (same_clauses gs)
  same_alone _ = same_none

  pub same_by_name : (ks : Keywords) → AllSame (by_name one ks) (by_name terminal ks)
  same_by_name no_keyword = none
  same_by_name (a_keyword None e ks) = more (token refl (same Expression e)) (same_by_name ks)
  same_by_name (a_keyword (Some x) e ks) = more (token refl (token refl (same Expression e))) (same_by_name ks)

  same_keys : (ks : OptionalExprs) → KeysSame (written_keys one ks) (written_keys terminal ks)
  same_keys no_optional = no_keys
  same_keys (an_optional absent ks) = no_key (same_keys ks)
  same_keys (an_optional (present k) ks) = key (same Expression k) (same_keys ks)

  same_pairs : {ms : List (Option (List (Unit {0})))} {ks : List (Option (List Terminal))} → KeysSame ms ks → (es : Exprs)
      → AllSame (pairs one ms es) (pairs terminal ks es)
  same_pairs no_keys es = none
  same_pairs (no_key r) no_exprs = none
  same_pairs (key c r) no_exprs = none
  same_pairs (no_key r) (an_expr e es) = more (token refl (same BitOr e)) (same_pairs r es)
  same_pairs (key c r) (an_expr e es) = more (both c (token refl (same Expression e))) (same_pairs r es)

  same_clauses : (gs : Comprehensions) → Same (clauses one gs) (clauses terminal gs)
  same_clauses no_comprehension = same_none
  same_clauses (a_comprehension t e cs b gs) =
      both (for_same b (both (same Stars t) (token refl (both (same Or e) (same_conditions cs))))) (same_clauses gs)

  same_conditions : (es : Exprs) → Same (conditions one es) (conditions terminal es)
  same_conditions no_exprs = same_none
  same_conditions (an_expr e es) = token refl (both (same Or e) (same_conditions es))

  pub same_parameters : (a : Arguments) → AllSame (parameters one a) (parameters terminal a)
  same_parameters (arguments ps qs v ks kds k ds) =
      let firsts : AllSame (names one ps ++ names one qs) (names terminal ps ++ names terminal qs) =
      append_same (same_names ps) (same_names qs) in
      let values : AllSame (map (after_equal one) (each one Expression ds)) (map (after_equal terminal) (each terminal Expression ds)) =
      equal_same (same_each Expression ds) in
      let gap : length (names one ps ++ names one qs) - length (map (after_equal one) (each one Expression ds)) ≡ length
      (names terminal ps ++ names terminal qs) - length (map (after_equal terminal) (each terminal Expression ds)) =
      cc (length_same firsts, length_same values) in
      append_same (slash_same (same_names ps) (beside_same firsts (append_same (replicate_same _ _ gap) values)))
      (append_same (star_same (same_gathered Star v) (same_names ks))
      (append_same (beside_same (same_names ks) (same_defaults kds)) (same_gathered DoubleStar k)))

  same_names : (ps : Args) → AllSame (names one ps) (names terminal ps)
  same_names no_arg = none
  same_names (an_arg (arg x t) ps) = more (token refl (same_suffixed Colon t)) (same_names ps)

  same_gathered : (s : Exact) (k : OptionalArg) → AllSame (gathered one s k) (gathered terminal s k)
  same_gathered s absent_arg = none
  same_gathered s (present_arg (arg x t)) = more (token refl (token refl (same_suffixed Colon t))) none

  same_defaults : (ds : OptionalExprs) → AllSame (defaults one ds) (defaults terminal ds)
  same_defaults no_optional = none
  same_defaults (an_optional d ds) = more (same_suffixed Equal d) (same_defaults ds)

-- no more than a list of at least so many
pub no_more : {ms : List (Unit {0})} {us ts : List Terminal} → Same ms us → AtLeast ms ts → token_count us ≤ token_count ts
no_more {ms} {us} {ts} s c = omega (arith, count_is s.is, count_is c.counted, c.enough)

pub at_most : {ms ns : List (Unit {0})} {ts : List Terminal} → Same ms ts → AtLeast ns ts → length ns ≤ length ms
at_most s c = omega (arith, count_is s.is, count_is c.counted, c.enough)
