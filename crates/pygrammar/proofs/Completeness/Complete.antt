-- Carries: `expressions_are_unique`. The reader answers every expression that the grammar gives,
-- and so a list has at most one tree at a level.
use Rattle.std.proofs.Common.{◌≡◌, refl, sym, ap, subst, ◌∙◌, ℕ, zero, suc, ◌≤◌, arith, List, [], ◌∷◌, ◌++◌, length, Option, Some, Bool}
use Rattle.std.proofs.Common.{true, false, append_assoc, length-append}
use Rattle.std.proofs.lemmas.List.{append-nil}
use Rattle.std.specs.Prelude.{max}
use Rattle.pylex_lexeme.specs.declared.kinds.Exact.{Exact}
use Rattle.pylex_lexeme.specs.declared.kinds.Exact.TheVariants.{LPar, RPar, LSqb, RSqb, Colon, Comma, Dot, DoubleStar}
use Rattle.pytree_node.specs.declared.operators.BoolOperator.{BoolOperator}
use Rattle.pytree_node.specs.declared.operators.Comparison.{Comparison}
use Rattle.pytree_node.specs.declared.operators.Context.TheVariants.{Load}
use Rattle.pygrammar.specs.declared.levels.Level.{Level}
use Rattle.pygrammar.specs.declared.levels.Level.TheVariants.{Value, Stars, Primary, Atom, Elem, Slices, Part, Slice, Subject}
use Rattle.pytree_node.specs.Trees
use Rattle.pytree_node.specs.Trees.{Expr, no_exprs, an_expr, OptionalExpr, absent, present, Comprehension, comprehensions}
use Rattle.pytree_node.specs.Values
use Rattle.pytoken.specs.Terminals.{Spelled, Terminal, Op, Ident, Literal, FormattedBegin, FormattedEnd}
use Rattle.pygrammar.specs.FormattedStrings.{StringPart, Text, merged, values_of, begins_unicode, has_formatted}
use Rattle.pygrammar.specs.Entries.{Item, Of, Pair, Argument, Entry, Single}
use Rattle.pygrammar.specs.Arguments.{called}
use Rattle.pygrammar.specs.Grammar as G
use Rattle.pygrammar.specs.Reader.{Found, made, primary_loop, read, piece, comps_closed, others_of, call_step, Reads}
use Rattle.pygrammar.specs.Precedence.{starts, starts_comp}
use Rattle.pygrammar.proofs.Answers.{found_one}
use Rattle.pygrammar.proofs.Completeness.LookLemmas.{grip_of}
use Rattle.pygrammar.proofs.Completeness.Climb.{Stops, ReadsAt, ReadsAs, deeper, answers, ChainReads, ComparesReads, last_link_goes}
use Rattle.pygrammar.proofs.Completeness.Climb.{link_goes, last_compare_goes, compares_goes, compare_goes, binary_goes, unary_goes}
use Rattle.pygrammar.proofs.Completeness.Climb.{chain_goes, power_goes, await_goes}
use Rattle.pygrammar.proofs.Completeness.LevelLemmas.{led, next_goes, not_star}
use Rattle.pygrammar.proofs.Completeness.Lists.{PieceReads, piece_starts, SuffixReads, no_suffix_goes, suffix_goes, single_goes, pair_goes}
use Rattle.pygrammar.proofs.Completeness.Lists.{pairs_of_goes, argument_goes, star_argument_goes, keyword_argument_goes}
use Rattle.pygrammar.proofs.Completeness.Lists.{double_argument_goes, parameter_goes, slash_goes, bare_goes, star_parameter_goes}
use Rattle.pygrammar.proofs.Completeness.Lists.{star_annotation_goes, double_parameter_goes}
use Rattle.pygrammar.proofs.Completeness.Comps.{ListingReads, CompsReads, comps_first, comps_close, no_item_goes, last_item_goes, item_goes}
use Rattle.pygrammar.proofs.Completeness.Comps.{IfsReads, no_if_goes, if_one_goes, ForInReads, target_in_goes, CompReads, for_in_goes}
use Rattle.pygrammar.proofs.Completeness.Comps.{async_goes, one_comp_goes, comps_goes}
use Rattle.pygrammar.proofs.Completeness.Forms.{YieldsReads, PerhapsReads, nothing_goes, something_goes, yield_from_goes, yield_some_goes}
use Rattle.pygrammar.proofs.Completeness.Forms.{yields_goes, star_item_goes, star_elem_goes, star_part_goes, star_slices_goes}
use Rattle.pygrammar.proofs.Completeness.Forms.{star_tuple_goes, subject_tuple_goes, parts_goes, named_goes, lambda_goes, if_else_goes}
use Rattle.pygrammar.proofs.Completeness.Forms.{front_nothing, front_something, slice_goes, slice_step_goes}
use Rattle.pygrammar.proofs.Completeness.Strings.{FormattedReads, SpecReads, LiteralsRead, MixedReads, no_part_goes, text_part_goes}
use Rattle.pygrammar.proofs.Completeness.Strings.{field_part_goes, no_spec_goes, spec_goes, no_literal_goes, text_literal_goes}
use Rattle.pygrammar.proofs.Completeness.Strings.{formatted_literal_goes, mixed_text, mixed_formatted}
use Rattle.pygrammar.proofs.Completeness.Atoms.{primary_goes, TailReads, tail_keeps, tail_last, tail_more, Splits, name_goes, number_goes}
use Rattle.pygrammar.proofs.Completeness.Atoms.{constant_goes, strings_goes, joined_first_goes, mixed_goes, group_goes, yield_group_goes}
use Rattle.pygrammar.proofs.Completeness.Atoms.{empty_tuple_goes, tuple_goes, generator_goes, empty_list_goes, list_goes, list_comp_goes}
use Rattle.pygrammar.proofs.Completeness.Atoms.{empty_dict_goes, set_goes, set_comp_goes, dict_goes, doubled_goes, dict_comp_goes}

-- Primary and what follows it
dot_more : (self : Reads) (m : ℕ) (e : Expr) (x : Spelled) (rest : List Terminal) → suc (suc (length rest)) ≤ m
    → (m' : ℕ) × (length rest ≤ m') × (primary_loop self m e (Op Dot ∷ (Ident x ∷ rest)) ≡ primary_loop self m'
    (Trees.Attribute e x.form Load) rest)
dot_more self zero e x rest le = absurd (omega (arith, le))
dot_more self (suc m) e x rest le = (m, omega (arith, le), refl)

call_more : (self : Reads) (m : ℕ) (e f : Expr) (i rest : List Terminal) → call_step self e i ≡ Found f rest → length rest ≤ length i
    → suc (length i) ≤ m → (m' : ℕ) × (length rest ≤ m') × (primary_loop self m e (Op LPar ∷ i) ≡ primary_loop self m' f rest)
call_more self zero e f i rest h le lm = absurd (omega (arith, lm))
call_more self (suc m) e f i rest h le lm = (m, omega (arith, le, lm), rw h refl)

index_more : (self : Reads) (m : ℕ) (e s : Expr) (i rest : List Terminal) → self Slices i ≡ Found s (Op RSqb ∷ rest)
    → length rest ≤ length i → suc (length i) ≤ m
    → (m' : ℕ) × (length rest ≤ m') × (primary_loop self m e (Op LSqb ∷ i) ≡ primary_loop self m' (Trees.Subscript e s Load) rest)
index_more self zero e s i rest h le lm = absurd (omega (arith, lm))
index_more self (suc m) e s i rest h le lm = (m, omega (arith, le, lm), rw h refl)

attribute_goes : (ts : List Terminal) (e : Expr) (x : Spelled) → ReadsAs Primary ts e → ReadsAs Primary (ts ++ (Op Dot ∷ (Ident x ∷ [])))
    (Trees.Attribute e x.form Load)
attribute_goes ts e x p = primary_goes (ts ++ (Op Dot ∷ (Ident x ∷ []))) (Trees.Attribute e x.form Load) p.0 (λ d h rest g.
    let c = p.1 d h (Op Dot ∷ (Ident x ∷ rest)) (omega arith) in
    let w = dot_more (read d) c.0 e x rest (omega (arith, c.1)) in
    (w.0, w.1, ap (read (suc d) Primary) (append_assoc ts (Op Dot ∷ (Ident x ∷ [])) rest) ∙ c.2 ∙ w.2))

pub bracket_shape : (ts us rest : List Terminal) (s t : Terminal) → (ts ++ (s ∷ (us ++ (t ∷ [])))) ++ rest ≡ ts ++ (s ∷ (us ++ (t ∷ rest)))
bracket_shape ts us rest s t = simp append_assoc refl

subscript_goes : (ts us : List Terminal) (e s : Expr) → ReadsAs Primary ts e → ReadsAs Slices us s
    → ReadsAs Primary (ts ++ (Op LSqb ∷ (us ++ (Op RSqb ∷ [])))) (Trees.Subscript e s Load)
subscript_goes ts us e s p q = primary_goes (ts ++ (Op LSqb ∷ (us ++ (Op RSqb ∷ [])))) (Trees.Subscript e s Load) (suc (max p.0 q.0))
    (deeper (ReadsAt Primary (ts ++ (Op LSqb ∷ (us ++ (Op RSqb ∷ [])))) (Trees.Subscript e s Load)) (max p.0 q.0) (λ d h rest g.
    let i = us ++ (Op RSqb ∷ rest) in
    let c = p.1 (suc d) (omega (arith, h)) (Op LSqb ∷ i) (omega arith) in
    let w = index_more (read (suc d)) c.0 e s i rest (q.1 d (omega (arith, h)) (Op RSqb ∷ rest) (omega arith, omega arith))
    (omega (arith, length-append us (Op RSqb ∷ rest))) c.1 in
    (w.0, w.1, ap (read (suc (suc d)) Primary) (bracket_shape ts us rest (Op LSqb) (Op RSqb)) ∙ c.2 ∙ w.2)))

call_none_step : (self : Reads) (f e : Expr) (rest : List Terminal) → called f [] ≡ Some e
    → call_step self f (Op RPar ∷ rest) ≡ Found e rest
call_none_step self f e rest h = ap (λ o. made o rest) h

call_first_step : (self : Reads) (f e : Expr) (i r rest : List Terminal) (a : Entry) (es : List Entry) → starts Argument i ≡ true
    → piece self Argument i ≡ Found a r → starts_comp r ≡ false → others_of self Argument a r ≡ Found es (Op RPar ∷ rest)
    → called f es ≡ Some e → call_step self f i ≡ Found e rest
call_first_step self f e i r rest a es h1 h2 h3 h4 h5 = rw h1 (rw h2 (rw h3 (rw h4 (ap (λ o. made o rest) h5))))

call_generator_step : (self : Reads) (f e g : Expr) (i r rest : List Terminal) → starts Argument i ≡ true
    → piece self Argument i ≡ Found (Single e) r → starts_comp r ≡ true
    → comps_closed self RPar r (λ gs. Trees.Call f (an_expr (Trees.GeneratorExp e (comprehensions gs)) no_exprs) Trees.no_keyword) ≡ Found g
    rest → call_step self f i ≡ Found g rest
call_generator_step self f e g i r rest h1 h2 h3 h4 = rw h1 (rw h2 (rw h3 h4))

-- any call: what stands in the brackets
any_call : (ts us : List Terminal) (f e : Expr) (n : ℕ)
    → ((d : ℕ) → n ≤ d → (rest : List Terminal) → call_step (read (suc d)) f (us ++ (Op RPar ∷ rest)) ≡ Found e rest) → ReadsAs Primary ts f
    → ReadsAs Primary (ts ++ (Op LPar ∷ (us ++ (Op RPar ∷ [])))) e
any_call ts us f e n k p = primary_goes (ts ++ (Op LPar ∷ (us ++ (Op RPar ∷ [])))) e (suc (max p.0 n))
    (deeper (ReadsAt Primary (ts ++ (Op LPar ∷ (us ++ (Op RPar ∷ [])))) e) (max p.0 n) (λ d h rest g.
    let i = us ++ (Op RPar ∷ rest) in
    let c = p.1 (suc d) (omega (arith, h)) (Op LPar ∷ i) (omega arith) in
    let w = call_more (read (suc d)) c.0 f e i rest (k d (omega (arith, h)) rest) (omega (arith, length-append us (Op RPar ∷ rest))) c.1 in
    (w.0, w.1, ap (read (suc (suc d)) Primary) (bracket_shape ts us rest (Op LPar) (Op RPar)) ∙ c.2 ∙ w.2)))

call_none_goes : (ts : List Terminal) (f e : Expr) → called f [] ≡ Some e → ReadsAs Primary ts f
    → ReadsAs Primary (ts ++ (Op LPar ∷ (Op RPar ∷ []))) e
call_none_goes ts f e h p = any_call ts [] f e 0 (λ d w rest. call_none_step (read (suc d)) f e rest h) p

call_some_goes : (ts us xs vs : List Terminal) (f e : Expr) (a : Entry) (es : List Entry) → called f (a ∷ es) ≡ Some e → Splits us xs vs
    → ((r : List Terminal) → starts Argument (xs ++ r) ≡ true) → ReadsAs Primary ts f → PieceReads Argument xs a → TailReads Argument vs es
    → ReadsAs Primary (ts ++ (Op LPar ∷ (us ++ (Op RPar ∷ [])))) e
call_some_goes ts us xs vs f e a es h sp st p q t = any_call ts us f e (max q.0 t.0) (λ d w rest.
    let c = Op RPar ∷ rest in
    let r = vs ++ (Op RPar ∷ rest) in
    ap (call_step (read (suc d)) f) (sp (Op RPar ∷ rest)) ∙ call_first_step (read (suc d)) f e (xs ++ r) r rest a (a ∷ es) (st r)
    (q.1 d (omega (arith, w)) r (tail_keeps (λ r. (grip_of r ≤ 7) × (grip_of r ≡ 1 → ⊥)) vs c t.2 (
      omega arith,
      λ q. absurd (omega (arith, q)),
    ) (λ r. (omega arith, λ q. absurd (omega (arith, q))))))
    (tail_keeps (λ r. starts_comp r ≡ false) vs c t.2 refl (λ r. refl))
    (t.1 d (omega (arith, w)) (λ r. (omega arith, λ q. absurd (omega (arith, q)))) c (
      refl,
      (λ q. absurd (omega (arith, q))),
      (omega arith, λ q. absurd (omega (arith, q))),
    ) a) h) p

call_generator_goes : (ts us vs : List Terminal) (f e : Expr) (gs : List Comprehension)
    → ((r : List Terminal) → starts Argument (us ++ r) ≡ true) → ReadsAs Primary ts f → PieceReads Argument us (Single e) → G.Comps vs gs
    → CompsReads vs gs → ReadsAs Primary (ts ++ (Op LPar ∷ (us ++ (vs ++ (Op RPar ∷ [])))))
    (Trees.Call f (an_expr (Trees.GeneratorExp e (comprehensions gs)) no_exprs) Trees.no_keyword)
call_generator_goes ts us vs f e gs st p q w k =
    let g = Trees.Call f (an_expr (Trees.GeneratorExp e (comprehensions gs)) no_exprs) Trees.no_keyword in
    subst (λ z. ReadsAs Primary (ts ++ (Op LPar ∷ z)) (Trees.Call f (an_expr (Trees.GeneratorExp e (comprehensions gs)) no_exprs)
    Trees.no_keyword)) (append_assoc us vs (Op RPar ∷ []))
    (any_call ts (us ++ vs) f (Trees.Call f (an_expr (Trees.GeneratorExp e (comprehensions gs)) no_exprs) Trees.no_keyword)
    (max q.0 k.0) (λ d h rest.
    let r = vs ++ (Op RPar ∷ rest) in
    let c = comps_first w (Op RPar ∷ rest) in
    ap (call_step (read (suc d)) f) (append_assoc us vs (Op RPar ∷ rest)) ∙ call_generator_step (read (suc d)) f e g (us ++ r) r rest (st r)
    (q.1 d (omega (arith, h)) r (omega (arith, c.0), λ q. omega (arith, q, c.0))) c.1
    (comps_close vs gs k d (omega (arith, h)) RPar rest refl
    (λ gs. Trees.Call f (an_expr (Trees.GeneratorExp e (comprehensions gs)) no_exprs) Trees.no_keyword))) p)

split_last : (ts : List Terminal) → Splits ts ts []
split_last ts r = refl

split_more : (ts us : List Terminal) → Splits (ts ++ (Op Comma ∷ us)) ts (Op Comma ∷ us)
split_more ts us r = append_assoc ts (Op Comma ∷ us) r

mutual
  pub goes : {l : Level} {ts : List Terminal} {e : Expr} → G.Derives l ts e → ReadsAs l ts e
  goes (G.next {l = l} {ts = ts} {e = e} p) = next_goes l ts e (led p) (not_star p) (goes p)
  goes (G.yields {ts = ts} {e = e} p) = yields_goes ts e (yields_all p)
  goes (G.star_tuple {ts = ts} {us = us} {e = e} {es = es} p c) = star_tuple_goes ts us e es (goes p) (listing_all c)
  goes (G.star_item {ts = ts} {e = e} p) = star_item_goes ts e (goes p)
  goes (G.named {x = x} {ts = ts} {e = e} p) = named_goes x ts e (goes p)
  goes (G.lambda {ts = ts} {us = us} {ps = ps} {a = a} {e = e} c h p) = lambda_goes ts us ps a e h (listing_all c) (goes p)
  goes (G.if_else {ts = ts} {us = us} {vs = vs} {a = a} {b = b} {c = c} p q r) =
      if_else_goes ts us vs a b c (led p) (goes p) (goes q) (goes r)
  goes (G.chain {o = o} {ts = ts} {us = us} {e = e} {es = es} p c) = chain_goes o ts us e es (goes p) (chain_all c)
  goes (G.unary {l = l} {t = t} {o = o} {ts = ts} {e = e} h p) = unary_goes l ts t o e h (goes p)
  goes (G.compare {ts = ts} {us = us} {e = e} {os = os} {es = es} p c) = compare_goes ts us e os es (goes p) c (compares_all c)
  goes (G.binary {l = l} {ts = ts} {us = us} {a = a} {b = b} {o = o} t h p q) = binary_goes l ts us a b t o h (goes p) (goes q)
  goes (G.power {ts = ts} {us = us} {a = a} {b = b} p q) = power_goes ts us a b (goes p) (goes q)
  goes (G.await {ts = ts} {e = e} p) = await_goes ts e (goes p)
  goes (G.attribute {ts = ts} {e = e} x p) = attribute_goes ts e x (goes p)
  goes (G.call {ts = ts} {f = f} {e = e} p G.no_item h) = call_none_goes ts f e h (goes p)
  goes (G.call {ts = ts} {f = f} {e = e} p (G.last_item {ts = us} {e = a} q) h) = call_some_goes ts us us [] f e a [] h (split_last us)
      (λ r. piece_starts q r) (goes p) (piece_all q) (tail_last Argument)
  goes (G.call {ts = ts} {f = f} {e = e} p (G.item {ts = xs} {us = vs} {e = a} {es = es} q c) h) =
      call_some_goes ts (xs ++ (Op Comma ∷ vs)) xs (Op Comma ∷ vs) f e a es h (split_more xs vs) (λ r. piece_starts q r) (goes p)
      (piece_all q) (tail_more Argument vs es (listing_all c))
  goes (G.call_generator {ts = ts} {us = us} {vs = vs} {f = f} {e = e} {gs = gs} p q c) =
      call_generator_goes ts us vs f e gs (λ r. piece_starts (G.argument q) r) (goes p)
      (argument_goes us e (led q) (goes q)) c (comps_all c)
  goes (G.subscript {ts = ts} {us = us} {e = e} {s = s} p q) = subscript_goes ts us e s (goes p) (goes q)
  goes (G.name {x = x}) = name_goes x
  goes (G.constant {t = t} {v = v} h) = constant_goes t v h
  goes (G.number {v = v}) = number_goes v
  goes (G.strings {v = v} {w = w} vs h) = strings_goes v w vs h
  goes (G.joined_string {ts = ts} l b h) = first_all l b h
  goes (G.group {ts = ts} {e = e} p) = group_goes ts e (led p) (goes p)
  goes (G.yield_group {ts = ts} {e = e} p) = yield_group_goes ts e (yields_all p)
  goes G.empty_tuple = empty_tuple_goes
  goes (G.tuple {ts = ts} {us = us} {e = e} {es = es} p c) = tuple_goes ts us e es (led p) (goes p) (listing_all c)
  goes (G.generator_group {ts = ts} {us = us} {e = e} {gs = gs} p c) = generator_goes ts us e gs (led p) (goes p) c (comps_all c)
  goes (G.list G.no_item) = empty_list_goes
  goes (G.list (G.last_item (G.single {ts = ts} {e = e} p))) =
      list_goes ts ts [] e [] (split_last ts) (led p) (goes p) (tail_last (Of Elem))
  goes (G.list (G.item {us = us} {es = es} (G.single {ts = ts} {e = e} p) c)) = list_goes (ts ++ (Op Comma ∷ us)) ts (Op Comma ∷ us) e es
      (split_more ts us) (led p) (goes p) (tail_more (Of Elem) us es (listing_all c))
  goes (G.list_comp {ts = ts} {us = us} {e = e} {gs = gs} p c) = list_comp_goes ts us e gs (led p) (goes p) c (comps_all c)
  goes (G.dict G.no_item) = empty_dict_goes
  goes (G.dict (G.last_item (G.pair {ts = ts} {us = ws} {k = k} {e = e} p q))) = dict_goes (ts ++ (Op Colon ∷ ws)) ts ws [] k e []
      (split_last (ts ++ (Op Colon ∷ ws))) (led p) (goes p) (goes q) (tail_last Pair)
  goes (G.dict (G.last_item (G.pairs_of {ts = ts} {e = e} p))) =
      doubled_goes (Op DoubleStar ∷ ts) ts [] e [] (split_last (Op DoubleStar ∷ ts)) (goes p) (tail_last Pair)
  goes (G.dict (G.item {us = us} {es = es} (G.pair {ts = ts} {us = ws} {k = k} {e = e} p q) c)) =
      dict_goes ((ts ++ (Op Colon ∷ ws)) ++ (Op Comma ∷ us)) ts ws (Op Comma ∷ us) k e es (split_more (ts ++ (Op Colon ∷ ws)) us) (led p)
      (goes p) (goes q) (tail_more Pair us es (listing_all c))
  goes (G.dict (G.item {us = us} {es = es} (G.pairs_of {ts = ts} {e = e} p) c)) = doubled_goes ((Op DoubleStar ∷ ts) ++ (Op Comma ∷ us)) ts
      (Op Comma ∷ us) e es (split_more (Op DoubleStar ∷ ts) us) (goes p) (tail_more Pair us es (listing_all c))
  goes (G.dict_comp {ts = ts} {us = us} {vs = vs} {k = k} {e = e} {gs = gs} p q c) =
      dict_comp_goes ts us vs k e gs (led p) (goes p) (goes q) c (comps_all c)
  goes (G.set (G.last_item (G.single {ts = ts} {e = e} p))) = set_goes ts ts [] e [] (split_last ts) (led p) (goes p) (tail_last (Of Elem))
  goes (G.set (G.item {us = us} {es = es} (G.single {ts = ts} {e = e} p) c)) = set_goes (ts ++ (Op Comma ∷ us)) ts (Op Comma ∷ us) e es
      (split_more ts us) (led p) (goes p) (tail_more (Of Elem) us es (listing_all c))
  goes (G.set_comp {ts = ts} {us = us} {e = e} {gs = gs} p c) = set_comp_goes ts us e gs (led p) (goes p) c (comps_all c)
  goes (G.subject_tuple {ts = ts} {us = us} {e = e} {es = es} p c) = subject_tuple_goes ts us e es (goes p) (listing_all c)
  goes (G.star_elem {ts = ts} {e = e} p) = star_elem_goes ts e (goes p)
  goes (G.star_slices {ts = ts} {e = e} p) = star_slices_goes ts e (goes p)
  goes (G.parts {ts = ts} {us = us} {e = e} {es = es} p c) = parts_goes ts us e es (goes p) (listing_all c)
  goes (G.star_part {ts = ts} {e = e} p) = star_part_goes ts e (goes p)
  goes (G.slice {us = us} {b = b} G.nothing q) = slice_goes [] us absent b front_nothing (perhaps_all q)
  goes (G.slice {us = us} {b = b} (G.something {ts = ts} {e = a} p) q) =
      slice_goes ts us (present a) b (front_something ts a (led p) (goes p)) (perhaps_all q)
  goes (G.slice_step {us = us} {vs = vs} {b = b} {c = c} G.nothing q r) = slice_step_goes [] us vs absent b c front_nothing
      (perhaps_all q) (perhaps_all r)
  goes (G.slice_step {us = us} {vs = vs} {b = b} {c = c} (G.something {ts = ts} {e = a} p) q r) =
      slice_step_goes ts us vs (present a) b c (front_something ts a (led p) (goes p)) (perhaps_all q) (perhaps_all r)

  first_all : {u : Bool} {ts : List Terminal} {ps : List StringPart} → G.Literals u ts ps → begins_unicode ts ≡ u → has_formatted ts ≡ true
      → ReadsAs Atom ts (Trees.JoinedStr (values_of u (merged ps)))
  first_all G.no_literal b h = absurd (cc)
  first_all (G.text_literal {u = u} {ts = ts} {ps = ps} {t = t} {k = k} l) b h =
      subst (λ z. ReadsAs Atom (Literal (Values.Str t z) ∷ ts) (Trees.JoinedStr (values_of u (merged (Text t ∷ ps))))) (sym b)
      (mixed_goes u t ts ps (mixed_all l h))
  first_all (G.formatted_literal {ts = ts} {us = us} {ps = ps} {qs = qs} p l) b h =
      subst (λ z. ReadsAs Atom (FormattedBegin ∷ (ts ++ (FormattedEnd ∷ us))) (Trees.JoinedStr (values_of z (merged (ps ++ qs))))) b
      (joined_first_goes ts us ps qs (subst (λ z. FormattedReads z ts ps) (sym b) (formatted_all p))
      (subst (λ z. LiteralsRead z us qs) (sym b) (literals_all l)))

  mixed_all : {u : Bool} {ts : List Terminal} {ps : List StringPart} → G.Literals u ts ps → has_formatted ts ≡ true → MixedReads u ts ps
  mixed_all G.no_literal h = absurd (cc)
  mixed_all (G.text_literal {u = u} {ts = ts} {ps = ps} {t = t} {k = k} l) h = mixed_text u k t ts ps (mixed_all l h)
  mixed_all (G.formatted_literal {u = u} {ts = ts} {us = us} {ps = ps} {qs = qs} p l) h =
      mixed_formatted u ts us ps qs (formatted_all p) (literals_all l)

  literals_all : {u : Bool} {ts : List Terminal} {ps : List StringPart} → G.Literals u ts ps → LiteralsRead u ts ps
  literals_all (G.no_literal {u = u}) = no_literal_goes u
  literals_all (G.text_literal {u = u} {ts = ts} {ps = ps} {t = t} {k = k} l) = text_literal_goes u k t ts ps (literals_all l)
  literals_all (G.formatted_literal {u = u} {ts = ts} {us = us} {ps = ps} {qs = qs} p l) =
      formatted_literal_goes u ts us ps qs (formatted_all p) (literals_all l)

  formatted_all : {u : Bool} {ts : List Terminal} {ps : List StringPart} → G.Formatted u ts ps → FormattedReads u ts ps
  formatted_all (G.no_part {u = u}) = no_part_goes u
  formatted_all (G.text_part {u = u} {ts = ts} {ps = ps} {t = t} p) = text_part_goes u t ts ps (formatted_all p)
  formatted_all (G.field_part {u = u} {c = c} {ts = ts} {us = us} {vs = vs} {e = e} {s = s} {ps = ps} p q r) =
      field_part_goes u c ts us vs e s ps (goes p) (spec_all q) (formatted_all r)

  spec_all : {u : Bool} {us : List Terminal} {s : OptionalExpr} → G.Spec u us s → SpecReads u us s
  spec_all (G.no_spec {u = u}) = no_spec_goes u
  spec_all (G.spec {u = u} {ts = ts} {ps = ps} p) = spec_goes u ts ps (formatted_all p)

  yields_all : {ts : List Terminal} {e : Expr} → G.Yields ts e → YieldsReads ts e
  yields_all (G.yield_from {ts = ts} {e = e} p) = yield_from_goes ts e (goes p)
  yields_all (G.yield_some {ts = ts} {e = a} p) = yield_some_goes ts a p (perhaps_all p)

  perhaps_all : {l : Level} {ts : List Terminal} {a : OptionalExpr} → G.Perhaps l ts a → PerhapsReads l ts a
  perhaps_all (G.nothing {l = l}) = nothing_goes l
  perhaps_all (G.something {l = l} {ts = ts} {e = e} p) = something_goes l ts e (led p) (goes p)

  suffix_all : {s : Option Exact} {ts : List Terminal} {a : OptionalExpr} → G.Suffix s ts a → SuffixReads s ts a
  suffix_all (G.no_suffix {s = s}) = no_suffix_goes s
  suffix_all (G.suffix {x = x} {ts = ts} {e = e} p) = suffix_goes x ts e (goes p)

  chain_all : {o : BoolOperator} {us : List Terminal} {es : List Expr} → G.Chain o us es → ChainReads o us es
  chain_all (G.last_link {o = o} {ts = ts} {e = e} p) = last_link_goes o ts e (goes p)
  chain_all (G.link {o = o} {ts = ts} {us = us} {e = e} {es = es} p c) = link_goes o ts us e es (goes p) (chain_all c)

  compares_all : {us : List Terminal} {os : List Comparison} {es : List Expr} → G.Compares us os es → ComparesReads us os es
  compares_all (G.last_compare {ss = ss} {ts = ts} {o = o} {e = e} c p) = last_compare_goes ss ts o e c (omega (arith, led p)) (goes p)
  compares_all (G.compares {ss = ss} {ts = ts} {us = us} {o = o} {e = e} {os = os} {es = es} c p w) =
      compares_goes ss ts us o e os es c (omega (arith, led p)) (goes p) w (compares_all w)

  pub listing_all : {i : Item} {us : List Terminal} {es : List Entry} → G.Listing i us es → ListingReads i us es
  listing_all (G.no_item {i = i}) = no_item_goes i
  listing_all (G.last_item {i = i} {ts = ts} {e = a} p) = last_item_goes i ts a (λ r. piece_starts p r) (piece_all p)
  listing_all (G.item {i = i} {ts = ts} {us = us} {e = a} {es = es} p c) =
      item_goes i ts us a es (λ r. piece_starts p r) (piece_all p) (listing_all c)

  piece_all : {i : Item} {ts : List Terminal} {a : Entry} → G.Piece i ts a → PieceReads i ts a
  piece_all (G.single {l = l} {ts = ts} {e = e} p) = single_goes l ts e (goes p)
  piece_all (G.pair {ts = ts} {us = us} {k = k} {e = e} p q) = pair_goes ts us k e (led p) (goes p) (goes q)
  piece_all (G.pairs_of {ts = ts} {e = e} p) = pairs_of_goes ts e (goes p)
  piece_all (G.argument {ts = ts} {e = e} p) = argument_goes ts e (led p) (goes p)
  piece_all (G.star_argument {ts = ts} {e = e} p) = star_argument_goes ts e (goes p)
  piece_all (G.keyword_argument {x = x} {ts = ts} {e = e} p) = keyword_argument_goes x ts e (goes p)
  piece_all (G.double_argument {ts = ts} {e = e} p) = double_argument_goes ts e (goes p)
  piece_all (G.parameter {b = b} {x = x} {ts = ts} {us = us} {a = a} {d = c} p q) =
      parameter_goes b x ts us a c (suffix_all p) q (suffix_all q)
  piece_all (G.slash {b = b}) = slash_goes b
  piece_all (G.bare_star {b = b}) = bare_goes b
  piece_all (G.star_parameter {b = b} {x = x} {ts = ts} {a = a} p) = star_parameter_goes b x ts a p (suffix_all p)
  piece_all (G.star_annotation {x = x} {ts = ts} {e = e} p) = star_annotation_goes x ts e (goes p)
  piece_all (G.double_parameter {b = b} {x = x} {ts = ts} {a = a} p) = double_parameter_goes b x ts a (suffix_all p)

  comps_all : {us : List Terminal} {gs : List Comprehension} → G.Comps us gs → CompsReads us gs
  comps_all (G.one_comp {ts = ts} {g = g} p) = one_comp_goes ts g p (comp_all p)
  comps_all (G.comps {ts = ts} {us = us} {g = g} {gs = gs} p c) = comps_goes ts us g gs p c (comp_all p) (comps_all c)

  comp_all : {us : List Terminal} {g : Comprehension} → G.Comp us g → CompReads us g
  comp_all (G.for_in {ts = ts} {g = g} p) = for_in_goes ts g (for_in_all p)
  comp_all (G.async_for_in {ts = ts} {g = g} p) = async_goes ts g (for_in_all p)

  for_in_all : {b : Bool} {us : List Terminal} {g : Comprehension} → G.ForIn b us g → ForInReads b us g
  for_in_all (G.target_in {b = b} {ts = ts} {us = us} {vs = vs} {t = t} {s = s} {e = e} {cs = cs} p h q c) =
      target_in_goes b ts us vs t s e cs (goes p) h (goes q) c (ifs_all c)

  ifs_all : {us : List Terminal} {es : List Expr} → G.Ifs us es → IfsReads us es
  ifs_all G.no_if = no_if_goes
  ifs_all (G.if_one {ts = ts} {us = us} {e = e} {es = es} p c) = if_one_goes ts us e es (goes p) c (ifs_all c)

-- nothing follows
ends : (l : Level) → Stops l []
ends Value = (omega arith, omega arith)
ends Stars = (omega arith, omega arith)
ends Subject = (omega arith, (λ q. absurd (omega (arith, q))), omega arith)
ends Slices = (omega arith, omega arith)
ends Part = (omega arith, omega arith)
ends Slice = (omega arith, omega arith)
ends _ = omega arith

-- the law
pub complete : {l : Level} {ts : List Terminal} {e : Expr} → G.Derives l ts e → (n : ℕ) × ((d : ℕ) → n ≤ d → read (suc d) l ts ≡ Found e [])
complete {l} {ts} {e} p =
    let g = goes p in
    (g.0, λ d h. ap (read (suc d) l) (sym (append-nil ts)) ∙ answers l ts e d [] (g.1 d h) (ends l))

pub one_tree : {l : Level} {ts : List Terminal} {a b : Expr} → G.Derives l ts a → G.Derives l ts b → a ≡ b
one_tree {l} {ts} {a} {b} p q =
    let f = complete p in
    let g = complete q in
    let d : ℕ = max f.0 g.0 in
    found_one a b [] [] (sym (f.1 d (omega arith)) ∙ g.1 d (omega arith))
