-- Carries: the laws of the slots. On: what the grammar gives to terminals that pass, fits.
use Rattle.std.proofs.Common.{◌≡◌, refl, subst, ℕ, suc, ◌+◌, ◌≤◌, arith, List, [], ◌∷◌, ◌++◌, length, Option, Some, None, Bool, true}
use Rattle.std.proofs.Common.{false, cond, map}
use Rattle.std.specs.Prelude.{◌&&◌, ◌||◌, eqb, leb}
use Rattle.std.proofs.lemmas.Bool.{and_parts, and_from, eq-eqb, le-leb}
use Rattle.pylex_lexeme.specs.declared.kinds.Exact.{Exact}
use Rattle.pylex_lexeme.specs.declared.kinds.Exact.TheVariants.{LPar, RPar, LSqb, RSqb, RBrace, Colon, Comma, Dot, DoubleStar}
use Rattle.pytoken.specs.declared.keywords.Keyword.TheVariants as Key
use Rattle.pytree_node.specs.declared.operators.Operator.{Operator}
use Rattle.pytree_node.specs.declared.operators.BoolOperator.{BoolOperator}
use Rattle.pytree_node.specs.declared.operators.Comparison.{Comparison}
use Rattle.pytree_node.specs.declared.operators.Context.TheVariants.{Load, Store, Del}
use Rattle.pytree_node.specs.Trees
use Rattle.pytree_node.specs.Trees.{Expr, OptionalExpr, exprs, Comprehension, comprehensions}
use Rattle.pytoken.specs.Terminals.{Terminal, Op, Word, Ident, Number, Literal, FormattedEnd, FieldEnd}
use Rattle.pygrammar.specs.declared.levels.Level.{Level}
use Rattle.pygrammar.specs.declared.levels.Level.TheVariants.{Value, StarItem, Named, Expression, Or, BitOr, Factor, Await, Primary, Atom}
use Rattle.pygrammar.specs.declared.levels.Level.TheVariants.{Elem, Slices, Part}
use Rattle.pygrammar.specs.Operators.{below, left_operator, chain_level, chain_word}
use Rattle.pygrammar.specs.Forms.{is_whole}
use Rattle.pygrammar.specs.FormattedStrings.{StringPart, merged, values_of, has_formatted}
use Rattle.pygrammar.specs.Entries.{Item, Entry, singles, keys, values}
use Rattle.pygrammar.specs.Grammar as G
use Rattle.pygrammar.proofs.Callers.OpenStrings.{comp_closes, compared_closes, expression_closes, formatted_closes, spec_closes, one_less}
use Rattle.pygrammar.proofs.Callers.OpenStrings.{listing_closes, perhaps_closes, piece_closes, suffix_closes}
use Rattle.pytree_fits.specs.Tests.{Tests}
use Rattle.pytree_fits.specs.Slots.{count, count_optional, has_some, is_absent, is_single, fits_at, fits_target, each_fits, perhaps_fits}
use Rattle.pytree_fits.specs.Slots.{each_perhaps_fits, each_clause_fits, fits_arguments, spec_has_kind, spec_fits, joined_fits}
use Rattle.pytree_fits.specs.Literals.{has_text, has_formatted_text, is_value}
use Rattle.pytree_fits.specs.Given.{is_number, passes, all_pass}
use Rattle.pytree_fits.proofs.Fields.Standing.{Standing, outside, here, in_string, pass_at, left, right, following}
use Rattle.pytree_fits.proofs.Fields.Closings.{quiet_prefix, quiet_left}
use Rattle.pytree_fits.proofs.Fields.Tests.{from3, from4, word_value, joined_value}
use Rattle.pytree_fits.proofs.Fields.Strings.{PartsFit, no_part, a_part, text_part, field_part, plain_text, parts_on, spec_of_parts}
use Rattle.pytree_fits.proofs.Fields.Strings.{joined_of_parts}
use Rattle.pytree_fits.proofs.Fields.Levels.{chain_inner, prefix_inner, left_inner, star_elem, stars_elem, fits_below, anywhere, plain}
use Rattle.pytree_fits.proofs.Fields.Entries.{entry_fits, all_fit, clause_fits, singles_fit, keys_fit, values_fit, as_many, called_fit}
use Rattle.pytree_fits.proofs.Fields.Entries.{set_some}
use Rattle.pytree_fits.proofs.Fields.TargetShapes.{stored_fits, single_fits, deleted_fits}
use Rattle.pytree_fits.proofs.Fields.Arranging.{arranged_fit}

module _ (n : Tests) where
  binary_fits : (l : Level) (t : Terminal) (o : Operator) (a b : Expr) → left_operator l t ≡ Some o → fits_at n l a ≡ true
      → fits_at n (below l) b ≡ true → fits_at n l (Trees.BinOp a o b) ≡ true
  binary_fits l t o a b h p q = let w = left_inner l t o h in and_from (fits_at n Expression a) (fits_at n Expression b) (plain n l a w.0 p)
      (plain n (below l) b w.1 q)

  clauses_grown : (g : Comprehension) (gs : List Comprehension) → clause_fits n g ≡ true → each_clause_fits n (comprehensions gs) ≡ true
      → each_clause_fits n (comprehensions (g ∷ gs)) ≡ true
  clauses_grown g gs p q = and_from (clause_fits n g) (each_clause_fits n (comprehensions gs)) p q

  -- what follows the first of a chain or a comparison
  record Links (es : List Expr) : Type 0 where
    each : each_fits n Expression (exprs es) ≡ true
    some : 1 ≤ count (exprs es)

  record Comparisons (os : List Comparison) (es : List Expr) : Type 0 where
    each : each_fits n Expression (exprs es) ≡ true
    some : 1 ≤ length os
    even : length os ≡ count (exprs es)

  record Clauses (gs : List Comprehension) : Type 0 where
    each : each_clause_fits n (comprehensions gs) ≡ true
    some : has_some (comprehensions gs) ≡ true

-- the suffix of an annotation stands only where it may
noted : (b : Bool) {ts : List Terminal} {a : OptionalExpr} → G.Suffix (cond b (Some Colon) None) ts a → (is_absent a || b) ≡ true
noted b p = by b p refl
  where
    by : {c : Option Exact} {ts : List Terminal} {a : OptionalExpr} (b : Bool) → G.Suffix c ts a → c ≡ cond b (Some Colon) None
        → (is_absent a || b) ≡ true
    by b G.no_suffix h = refl
    by true (G.suffix p) h = refl
    by false (G.suffix p) h = absurd (cc)

-- an f-string among some literals is one that may stand there
pub may_stand : (n : Standing) {u : Bool} {ts : List Terminal} {ps : List StringPart} → G.Literals u ts ps → has_formatted ts ≡ true
    → pass_at n ts ≡ true → (is_whole (here n).extent && leb (here n).fields 1) ≡ true
may_stand n G.no_literal h s = absurd (cc)
may_stand n (G.text_literal {ts = ts} {t = t} p) h s = may_stand n p h (and_parts (has_text (here n).fields t) (pass_at n ts) s).1
may_stand n (G.formatted_literal {ts = ts} {us = us} p q) h s =
    (and_parts (is_whole n.tests.extent && leb (here n).fields 1) (all_pass n.tests (0 ∷ n.opened) (ts ++ (FormattedEnd ∷ us))) s).0

mutual
  pub slots : (n : Standing) {l : Level} {ts : List Terminal} {e : Expr} → G.Derives l ts e → pass_at n ts ≡ true
      → fits_at (here n) l e ≡ true
  slots n (G.next {l = l} {e = e} p) s = fits_below (here n) l e (slots n p s)
  slots n (G.yields y) s = yields n y s Value
  slots n (G.star_tuple {ts = ts} {us = us} {e = e} {es = es} p c) s =
      and_from (fits_at (here n) Elem e) (each_fits (here n) Elem (singles es))
      (star_elem (here n) e (slots n p (left n ts (Op Comma ∷ us) s))) (singles_fit (here n) StarItem Elem (star_elem (here n)) es
      (listing n c (right n ts (expression_closes p) (Op Comma ∷ us) s)))
  slots n (G.star_item {e = e} p) s = plain (here n) BitOr e refl (slots n p s)
  slots n (G.named {x = x} {ts = ts} {e = e} p) s = let w = and_parts (n.tests.name x.form) (pass_at n ts) s in
      and_from (n.tests.name x.form) (fits_at (here n) Expression e) w.0 (slots n p w.1)
  slots n (G.lambda {ts = ts} {us = us} {ps = ps} {a = a} {e = e} c h q) s =
      and_from (fits_arguments (here n) false a) (fits_at (here n) Expression e)
      (arranged_fit (here n) false ps a (listing n c (left n ts (Op Colon ∷ us) s)) h)
      (slots n q (right n ts (listing_closes c) (Op Colon ∷ us) s))
  slots n (G.if_else {ts = ts} {us = us} {vs = vs} {a = a} {b = b} {c = c} p q r) s =
      let u = right n ts (expression_closes p) (Word Key.If ∷ (us ++ (Word Key.Else ∷ vs))) s in
      from3 (fits_at (here n) Expression a) (fits_at (here n) Expression b) (fits_at (here n) Expression c)
      (plain (here n) Or a refl (slots n q (left n us (Word Key.Else ∷ vs) u)))
      (plain (here n) Or b refl (slots n p (left n ts (Word Key.If ∷ (us ++ (Word Key.Else ∷ vs))) s)))
      (slots n r (right n us (expression_closes q) (Word Key.Else ∷ vs) u))
  slots n (G.chain {o = o} {ts = ts} {us = us} {e = e} {es = es} p c) s =
      let w = chain n c (right n ts (expression_closes p) (Word (chain_word o) ∷ us) s) in
      and_from (leb 2 (count (exprs es) + 1)) (fits_at (here n) Expression e && each_fits (here n) Expression (exprs es))
      (le-leb 2 (count (exprs es) + 1) (omega (arith, w.some)))
      (and_from (fits_at (here n) Expression e) (each_fits (here n) Expression (exprs es))
      (plain (here n) (below (chain_level o)) e (chain_inner o) (slots n p (left n ts (Word (chain_word o) ∷ us) s))) w.each)
  slots n (G.unary {l = l} {t = t} {o = o} {ts = ts} {e = e} h p) s =
      plain (here n) l e (prefix_inner l t o h) (slots n p (following n t (quiet_prefix l t o h n.opened) ts s))
  slots n (G.compare {ts = ts} {us = us} {e = e} {os = os} {es = es} p c) s =
      let w = compares n c (right n ts (expression_closes p) us s) in
      from4 (leb 1 (length os)) (eqb (length os) (count (exprs es))) (fits_at (here n) Expression e)
      (each_fits (here n) Expression (exprs es)) (le-leb 1 (length os) w.some) (eq-eqb (length os) (count (exprs es)) w.even)
      (plain (here n) BitOr e refl (slots n p (left n ts us s))) w.each
  slots n (G.binary {l = l} {ts = ts} {us = us} {a = a} {b = b} {o = o} t h p q) s =
      binary_fits (here n) l t o a b h (slots n p (left n ts (t ∷ us) s))
      (slots n q (following n t (quiet_left l t o h n.opened) us (right n ts (expression_closes p) (t ∷ us) s)))
  slots n (G.power {ts = ts} {us = us} {a = a} {b = b} p q) s = and_from (fits_at (here n) Expression a) (fits_at (here n) Expression b)
      (plain (here n) Await a refl (slots n p (left n ts (Op DoubleStar ∷ us) s)))
      (plain (here n) Factor b refl (slots n q (right n ts (expression_closes p) (Op DoubleStar ∷ us) s)))
  slots n (G.await {e = e} p) s = plain (here n) Primary e refl (slots n p s)
  slots n (G.attribute {ts = ts} {e = e} x p) s = and_from (n.tests.name x.form) (fits_at (here n) Expression e)
      (and_parts (n.tests.name x.form) true (right n ts (expression_closes p) (Op Dot ∷ (Ident x ∷ [])) s)).0
      (plain (here n) Primary e refl (slots n p (left n ts (Op Dot ∷ (Ident x ∷ [])) s)))
  slots n (G.call {ts = ts} {us = us} {f = f} {e = e} {es = es} p c h) s =
      called_fit (here n) f e es (plain (here n) Primary f refl (slots n p (left n ts (Op LPar ∷ (us ++ (Op RPar ∷ []))) s)))
      (listing n c (left n us (Op RPar ∷ []) (right n ts (expression_closes p) (Op LPar ∷ (us ++ (Op RPar ∷ []))) s))) h
  slots n (G.call_generator {ts = ts} {us = us} {vs = vs} {f = f} {e = e} {gs = gs} p q c) s =
      let u = right n ts (expression_closes p) (Op LPar ∷ (us ++ (vs ++ (Op RPar ∷ [])))) s in
      let w = comps n c (left n vs (Op RPar ∷ []) (right n us (expression_closes q) (vs ++ (Op RPar ∷ [])) u)) in
      let g = from3 (has_some (comprehensions gs)) (fits_at (here n) Expression e) (each_clause_fits (here n) (comprehensions gs)) w.some
      (plain (here n) Named e refl (slots n q (left n us (vs ++ (Op RPar ∷ [])) u))) w.each in
      from3 (fits_at (here n) Expression f) (fits_at (here n) Elem (Trees.GeneratorExp e (comprehensions gs)) && true) true
      (plain (here n) Primary f refl (slots n p (left n ts (Op LPar ∷ (us ++ (vs ++ (Op RPar ∷ [])))) s)))
      (and_from (fits_at (here n) Elem (Trees.GeneratorExp e (comprehensions gs))) true g refl) refl
  slots n (G.subscript {ts = ts} {us = us} {e = e} {s = i} p q) s = and_from (fits_at (here n) Expression e) (fits_at (here n) Slices i)
      (plain (here n) Primary e refl (slots n p (left n ts (Op LSqb ∷ (us ++ (Op RSqb ∷ []))) s)))
      (slots n q (left n us (Op RSqb ∷ []) (right n ts (expression_closes p) (Op LSqb ∷ (us ++ (Op RSqb ∷ []))) s)))
  slots n (G.name {x = x}) s = (and_parts (n.tests.name x.form) true s).0
  slots n (G.constant {t = t} {v = v} h) s = word_value (here n) t v h
  slots n (G.number {v = v}) s = (and_parts (is_number v) (is_value (here n) v) (and_parts (passes n.tests n.opened (Number v)) true s).0).1
  slots n (G.strings {v = v} {w = w} vs h) s = let u = and_parts (passes n.tests n.opened (Literal v)) (pass_at n (map Literal vs)) s in
      joined_value n v w vs u.0 u.1 h
  slots n (G.joined_string {u = u} c h q) s = joined_of_parts (here n) u (may_stand n c q s) (literals n c s)
  slots n (G.group {ts = ts} {e = e} p) s = anywhere (here n) Named Atom e refl (slots n p (left n ts (Op RPar ∷ []) s))
  slots n (G.yield_group {ts = ts} y) s = yields n y (left n ts (Op RPar ∷ []) s) Atom
  slots n G.empty_tuple s = refl
  slots n (G.tuple {ts = ts} {us = us} {e = e} {es = es} p c) s = and_from (fits_at (here n) Elem e) (each_fits (here n) Elem (singles es))
      (slots n p (left n ts (Op Comma ∷ (us ++ (Op RPar ∷ []))) s))
      (singles_fit (here n) Elem Elem (λ e h. h) es
      (listing n c (left n us (Op RPar ∷ []) (right n ts (expression_closes p) (Op Comma ∷ (us ++ (Op RPar ∷ []))) s))))
  slots n (G.generator_group {ts = ts} {us = us} {e = e} {gs = gs} p c) s = let w =
      comps n c (left n us (Op RPar ∷ []) (right n ts (expression_closes p) (us ++ (Op RPar ∷ [])) s)) in
      from3 (has_some (comprehensions gs)) (fits_at (here n) Expression e) (each_clause_fits (here n) (comprehensions gs)) w.some
      (plain (here n) Named e refl (slots n p (left n ts (us ++ (Op RPar ∷ [])) s))) w.each
  slots n (G.list {ts = ts} {es = es} c) s = singles_fit (here n) Elem Elem (λ e h. h) es (listing n c (left n ts (Op RSqb ∷ []) s))
  slots n (G.list_comp {ts = ts} {us = us} {e = e} {gs = gs} p c) s = let w =
      comps n c (left n us (Op RSqb ∷ []) (right n ts (expression_closes p) (us ++ (Op RSqb ∷ [])) s)) in
      from3 (has_some (comprehensions gs)) (fits_at (here n) Expression e) (each_clause_fits (here n) (comprehensions gs)) w.some
      (plain (here n) Named e refl (slots n p (left n ts (us ++ (Op RSqb ∷ [])) s))) w.each
  slots n (G.dict {ts = ts} {es = es} c) s = let w = listing n c (left n ts (Op RBrace ∷ []) s) in
      from3 (eqb (count_optional (keys es)) (count (values es))) (each_perhaps_fits (here n) (keys es))
      (each_fits (here n) Expression (values es)) (eq-eqb (count_optional (keys es)) (count (values es)) (as_many (here n) es w))
      (keys_fit (here n) es w) (values_fit (here n) es w)
  slots n (G.dict_comp {ts = ts} {us = us} {vs = vs} {k = k} {e = e} {gs = gs} p q c) s =
      let u = right n ts (expression_closes p) (Op Colon ∷ (us ++ (vs ++ (Op RBrace ∷ [])))) s in
      let w = comps n c (left n vs (Op RBrace ∷ []) (right n us (expression_closes q) (vs ++ (Op RBrace ∷ [])) u)) in
      from4 (has_some (comprehensions gs)) (fits_at (here n) Expression k) (fits_at (here n) Expression e)
      (each_clause_fits (here n) (comprehensions gs)) w.some (slots n p (left n ts (Op Colon ∷ (us ++ (vs ++ (Op RBrace ∷ [])))) s))
      (slots n q (left n us (vs ++ (Op RBrace ∷ [])) u)) w.each
  slots n (G.set {ts = ts} {e = e} {es = es} c) s = let w = listing n c (left n ts (Op RBrace ∷ []) s) in
      and_from (leb 1 (count (singles (e ∷ es)))) (each_fits (here n) Elem (singles (e ∷ es))) (set_some (here n) e es w)
      (singles_fit (here n) Elem Elem (λ e h. h) (e ∷ es) w)
  slots n (G.set_comp {ts = ts} {us = us} {e = e} {gs = gs} p c) s = let w =
      comps n c (left n us (Op RBrace ∷ []) (right n ts (expression_closes p) (us ++ (Op RBrace ∷ [])) s)) in
      from3 (has_some (comprehensions gs)) (fits_at (here n) Expression e) (each_clause_fits (here n) (comprehensions gs)) w.some
      (plain (here n) Named e refl (slots n p (left n ts (us ++ (Op RBrace ∷ [])) s))) w.each
  slots n (G.subject_tuple {ts = ts} {us = us} {e = e} {es = es} p c) s =
      and_from (fits_at (here n) Elem e) (each_fits (here n) Elem (singles es)) (slots n p (left n ts (Op Comma ∷ us) s))
      (singles_fit (here n) Elem Elem (λ e h. h) es (listing n c (right n ts (expression_closes p) (Op Comma ∷ us) s)))
  slots n (G.star_elem {e = e} p) s = plain (here n) BitOr e refl (slots n p s)
  slots n (G.star_slices {e = e} p) s = and_from (fits_at (here n) Expression e) true (slots n p s) refl
  slots n (G.parts {ts = ts} {us = us} {e = e} {es = es} p c) s = and_from (fits_at (here n) Part e) (each_fits (here n) Part (singles es))
      (slots n p (left n ts (Op Comma ∷ us) s))
      (singles_fit (here n) Part Part (λ e h. h) es (listing n c (right n ts (expression_closes p) (Op Comma ∷ us) s)))
  slots n (G.star_part p) s = slots n p s
  slots n (G.slice {ts = ts} {us = us} {a = a} {b = b} p q) s =
      from3 (perhaps_fits (here n) Expression a) (perhaps_fits (here n) Expression b) true (perhaps n p (left n ts (Op Colon ∷ us) s))
      (perhaps n q (right n ts (perhaps_closes p) (Op Colon ∷ us) s)) refl
  slots n (G.slice_step {ts = ts} {us = us} {vs = vs} {a = a} {b = b} {c = c} p q r) s =
      let u = right n ts (perhaps_closes p) (Op Colon ∷ (us ++ (Op Colon ∷ vs))) s in
      from3 (perhaps_fits (here n) Expression a) (perhaps_fits (here n) Expression b) (perhaps_fits (here n) Expression c)
      (perhaps n p (left n ts (Op Colon ∷ (us ++ (Op Colon ∷ vs))) s)) (perhaps n q (left n us (Op Colon ∷ vs) u))
      (perhaps n r (right n us (perhaps_closes q) (Op Colon ∷ vs) u))

  yields : (n : Standing) {ts : List Terminal} {e : Expr} → G.Yields ts e → pass_at n ts ≡ true → (l : Level) → fits_at (here n) l e ≡ true
  yields n (G.yield_from p) s l = slots n p s
  yields n (G.yield_some p) s l = perhaps n p s

  perhaps : (n : Standing) {l : Level} {ts : List Terminal} {e : OptionalExpr} → G.Perhaps l ts e → pass_at n ts ≡ true
      → perhaps_fits (here n) l e ≡ true
  perhaps n G.nothing s = refl
  perhaps n (G.something p) s = slots n p s

  suffix : (n : Standing) {c : Option Exact} {ts : List Terminal} {a : OptionalExpr} → G.Suffix c ts a → pass_at n ts ≡ true
      → perhaps_fits (here n) Expression a ≡ true
  suffix n G.no_suffix s = refl
  suffix n (G.suffix p) s = slots n p s

  chain : (n : Standing) {o : BoolOperator} {ts : List Terminal} {es : List Expr} → G.Chain o ts es
      → pass_at n ts ≡ true → Links (here n) es
  chain n (G.last_link {o = o} {e = e} p) s =
      record {
        each = and_from (fits_at (here n) Expression e) true (plain (here n) (below (chain_level o)) e (chain_inner o) (slots n p s))
            refl;
        some = omega arith;
      }
  chain n (G.link {o = o} {ts = ts} {us = us} {e = e} {es = es} p c) s =
      let w = chain n c (right n ts (expression_closes p) (Word (chain_word o) ∷ us) s) in
      record {
        each = and_from (fits_at (here n) Expression e) (each_fits (here n) Expression (exprs es))
            (plain (here n) (below (chain_level o)) e (chain_inner o) (slots n p (left n ts (Word (chain_word o) ∷ us) s)))
            w.each;
        some = omega arith;
      }

  compares : (n : Standing) {ts : List Terminal} {os : List Comparison} {es : List Expr} → G.Compares ts os es → pass_at n ts ≡ true
      → Comparisons (here n) os es
  compares n (G.last_compare {ss = ss} {ts = ts} {e = e} k p) s =
      record {
        each = and_from (fits_at (here n) Expression e) true
            (plain (here n) BitOr e refl (slots n p (right n ss (compared_closes k) ts s))) refl;
        some = omega arith;
        even = refl;
      }
  compares n (G.compares {ss = ss} {ts = ts} {us = us} {e = e} {os = os} {es = es} k p c) s =
      let u = right n ss (compared_closes k) (ts ++ us) s in
      let w = compares n c (right n ts (expression_closes p) us u) in
      record {
        each = and_from (fits_at (here n) Expression e) (each_fits (here n) Expression (exprs es))
            (plain (here n) BitOr e refl (slots n p (left n ts us u))) w.each;
        some = omega arith;
        even = omega (arith, w.even);
      }

  pub listing : (n : Standing) {i : Item} {ts : List Terminal} {es : List Entry} → G.Listing i ts es → pass_at n ts ≡ true
      → all_fit (here n) i es ≡ true
  listing n G.no_item s = refl
  listing n (G.last_item {i = i} {e = e} p) s = and_from (entry_fits (here n) i e) true (piece n p s) refl
  listing n (G.item {i = i} {ts = ts} {us = us} {e = e} {es = es} p c) s = and_from (entry_fits (here n) i e) (all_fit (here n) i es)
      (piece n p (left n ts (Op Comma ∷ us) s)) (listing n c (right n ts (piece_closes p) (Op Comma ∷ us) s))

  piece : (n : Standing) {i : Item} {ts : List Terminal} {e : Entry} → G.Piece i ts e → pass_at n ts ≡ true → entry_fits (here n) i e ≡ true
  piece n (G.single p) s = slots n p s
  piece n (G.pair {ts = ts} {us = us} {k = k} {e = e} p q) s = and_from (fits_at (here n) Expression k) (fits_at (here n) Expression e)
      (slots n p (left n ts (Op Colon ∷ us) s)) (slots n q (right n ts (expression_closes p) (Op Colon ∷ us) s))
  piece n (G.pairs_of {e = e} p) s = plain (here n) BitOr e refl (slots n p s)
  piece n (G.argument {e = e} p) s = anywhere (here n) Named Elem e refl (slots n p s)
  piece n (G.star_argument p) s = slots n p s
  piece n (G.keyword_argument {x = x} {ts = ts} {e = e} p) s = let w = and_parts (n.tests.name x.form) (pass_at n ts) s in
      and_from (n.tests.name x.form) (fits_at (here n) Expression e) w.0 (slots n p w.1)
  piece n (G.double_argument p) s = slots n p s
  piece n (G.parameter {b = b} {x = x} {ts = ts} {us = us} {a = a} {d = d} p q) s =
      let w = and_parts (n.tests.name x.form) (pass_at n (ts ++ us)) s in
      and_from (n.tests.name x.form && (is_absent a || b) && perhaps_fits (here n) Expression a) (perhaps_fits (here n) Expression d)
      (from3 (n.tests.name x.form) (is_absent a || b) (perhaps_fits (here n) Expression a) w.0 (noted b p)
      (suffix n p (left n ts us w.1))) (suffix n q (right n ts (suffix_closes p) us w.1))
  piece n G.slash s = refl
  piece n G.bare_star s = refl
  piece n (G.star_parameter {b = b} {x = x} {ts = ts} {a = a} p) s = let w = and_parts (n.tests.name x.form) (pass_at n ts) s in
      from3 (n.tests.name x.form) (is_absent a || b) (perhaps_fits (here n) StarItem a) w.0 (noted b p) (suffix_star n p w.1)
  piece n (G.star_annotation {x = x} {ts = ts} {e = e} p) s = let w = and_parts (n.tests.name x.form) (pass_at n ts) s in
      from3 (n.tests.name x.form) true (fits_at (here n) StarItem (Trees.Starred e Load)) w.0 refl
      (plain (here n) BitOr e refl (slots n p w.1))
  piece n (G.double_parameter {b = b} {x = x} {ts = ts} {a = a} p) s = let w = and_parts (n.tests.name x.form) (pass_at n ts) s in
      from3 (n.tests.name x.form) (is_absent a || b) (perhaps_fits (here n) Expression a) w.0 (noted b p) (suffix n p w.1)

  suffix_star : (n : Standing) {c : Option Exact} {ts : List Terminal} {a : OptionalExpr} → G.Suffix c ts a → pass_at n ts ≡ true
      → perhaps_fits (here n) StarItem a ≡ true
  suffix_star n G.no_suffix s = refl
  suffix_star n (G.suffix {e = e} p) s = anywhere (here n) Expression StarItem e refl (slots n p s)

  comps : (n : Standing) {ts : List Terminal} {gs : List Comprehension} → G.Comps ts gs → pass_at n ts ≡ true → Clauses (here n) gs
  comps n (G.one_comp {g = g} c) s = record { each = clauses_grown (here n) g [] (comp n c s) refl; some = refl }
  comps n (G.comps {ts = ts} {us = us} {g = g} {gs = gs} c d) s =
      record {
        each = clauses_grown (here n) g gs (comp n c (left n ts us s)) (comps n d (right n ts (comp_closes c) us s)).each;
        some =
            refl;
      }

  comp : (n : Standing) {ts : List Terminal} {g : Comprehension} → G.Comp ts g → pass_at n ts ≡ true → clause_fits (here n) g ≡ true
  comp n (G.for_in c) s = for_in n c s
  comp n (G.async_for_in c) s = for_in n c s

  for_in : (n : Standing) {b : Bool} {ts : List Terminal} {g : Comprehension} → G.ForIn b ts g → pass_at n ts ≡ true
      → clause_fits (here n) g ≡ true
  for_in n (G.target_in {ts = ts} {us = us} {vs = vs} {t = t} {s = g} {e = e} {cs = cs} p h q c) s =
      let u = right n ts (expression_closes p) (Word Key.In ∷ (us ++ vs)) s in
      from3 (fits_target (here n) Store g) (fits_at (here n) Expression e) (each_fits (here n) Expression (exprs cs))
      (stored_fits (here n) t g h (stars_elem (here n) t (slots n p (left n ts (Word Key.In ∷ (us ++ vs)) s))))
      (plain (here n) Or e refl (slots n q (left n us vs u))) (ifs n c (right n us (expression_closes q) vs u))

  ifs : (n : Standing) {ts : List Terminal} {es : List Expr} → G.Ifs ts es → pass_at n ts ≡ true
      → each_fits (here n) Expression (exprs es) ≡ true
  ifs n G.no_if s = refl
  ifs n (G.if_one {ts = ts} {us = us} {e = e} {es = es} p c) s =
      and_from (fits_at (here n) Expression e) (each_fits (here n) Expression (exprs es))
      (plain (here n) Or e refl (slots n p (left n ts us s))) (ifs n c (right n ts (expression_closes p) us s))

  -- ---- F-strings.

  literals : (n : Standing) {u : Bool} {ts : List Terminal} {ps : List StringPart} → G.Literals u ts ps → pass_at n ts ≡ true
      → PartsFit (here n) u 0 ps
  literals n G.no_literal s = no_part
  literals n (G.text_literal {ts = ts} {t = t} p) s =
      let w = and_parts (has_text (here n).fields t) (pass_at n ts) s in
      a_part (text_part (plain_text (here n).fields t w.0)) (literals n p w.1)
  literals n (G.formatted_literal {u = u} {ts = ts} {us = us} p q) s =
      let w = and_parts (is_whole n.tests.extent && leb (here n).fields 1)
      (all_pass n.tests (0 ∷ n.opened) (ts ++ (FormattedEnd ∷ us))) s in
      parts_on (here n) u 0 (formatted n 0 p (left (in_string n 0) ts (FormattedEnd ∷ us) w.1))
      (literals n q (right (in_string n 0) ts (formatted_closes p) (FormattedEnd ∷ us) w.1))

  formatted : (n : Standing) (d : ℕ) {u : Bool} {ts : List Terminal} {ps : List StringPart} → G.Formatted u ts ps
      → pass_at (in_string n d) ts ≡ true → PartsFit (here n) u d ps
  formatted n d G.no_part s = no_part
  formatted n d (G.text_part {ts = ts} {t = t} p) s =
      let w = and_parts (has_formatted_text (here n).fields d t) (pass_at (in_string n d) ts) s in
      a_part (text_part w.0) (formatted n d p w.1)
  formatted n d (G.field_part {ts = ts} {us = us} {vs = vs} {e = e} p q r) s =
      let m = in_string n (suc d) in
      let w = and_parts (leb d 1) (pass_at m (Op LPar ∷ (ts ++ (us ++ (FieldEnd ∷ vs))))) s in
      let x = right m (Op LPar ∷ ts) (expression_closes p) (us ++ (FieldEnd ∷ vs)) w.1 in
      let z = spec n (suc d) q (left m us (FieldEnd ∷ vs) x) in
      a_part (field_part w.0 (anywhere (here m) Atom Expression e refl (slots m p (left m (Op LPar ∷ ts) (us ++ (FieldEnd ∷ vs)) w.1))) z.0
      z.1)
      (formatted n d r (subst (λ k. pass_at (in_string n k) vs ≡ true) (one_less d) (right m us (spec_closes q) (FieldEnd ∷ vs) x)))

  spec : (n : Standing) (d : ℕ) {u : Bool} {ts : List Terminal} {a : OptionalExpr} → G.Spec u ts a → pass_at (in_string n d) ts ≡ true
      → (spec_fits (here n) d a ≡ true) × (spec_has_kind u a ≡ true)
  spec n d G.no_spec s = (refl, refl)
  spec n d (G.spec {u = u} p) s = spec_of_parts (here n) u d (formatted n d p s)

pub joined_of : (n : Standing) {u : Bool} {ts : List Terminal} {ps : List StringPart} → G.Literals u ts ps → has_formatted ts ≡ true
    → pass_at n ts ≡ true → joined_fits (here n) (values_of u (merged ps)) ≡ true
joined_of n {u} c h s = joined_of_parts (here n) u (may_stand n c h s) (literals n c s)

module _ (n : Tests) where
  pub target_fits : {ts : List Terminal} {s : Expr} → G.Target ts s → pass_at (outside n) ts ≡ true → fits_target n Store s ≡ true
  target_fits (G.target {e = e} {s = s} p h) q = stored_fits n e s h (stars_elem n e (slots (outside n) p q))

  pub single_target_fits : {ts : List Terminal} {s : Expr} → G.SingleTarget ts s → pass_at (outside n) ts ≡ true
      → (is_single s && fits_target n Store s) ≡ true
  single_target_fits (G.single_target {e = e} {s = s} p h) q = single_fits n e s h (slots (outside n) p q)

  pub del_target_fits : {ts : List Terminal} {s : Expr} → G.DelTarget ts s → pass_at (outside n) ts ≡ true → fits_target n Del s ≡ true
  del_target_fits (G.del_target {e = e} {s = s} p h) q = deleted_fits n e s h (anywhere n Expression Elem e refl (slots (outside n) p q))

  pub item_target_fits : {ts : List Terminal} {s : Expr} → G.ItemTarget ts s → pass_at (outside n) ts ≡ true → fits_target n Store s ≡ true
  item_target_fits (G.item_target {e = e} {s = s} p h) q = stored_fits n e s h (anywhere n Expression Elem e refl (slots (outside n) p q))
  item_target_fits (G.star_target {e = e} {s = s} p h) q = stored_fits n (Trees.Starred e Load) s h (slots (outside n) p q)
