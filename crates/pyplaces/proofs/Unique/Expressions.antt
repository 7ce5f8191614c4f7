-- Each derivation of an expression is a way from the question of its level to its places.
--
-- Carries: goes, listing_all, literals_all, perhaps_all, for Law, PatternValues, LineParts and what stands on it. On: Forms to TargetForms.
use Rattle.std.proofs.Common.{◌≡◌, refl, ℕ, ◌≤◌, ◌<◌, arith, List, [], ◌∷◌, ◌++◌, Option, Some, Bool, true}
use Rattle.pylex_lexeme.specs.declared.kinds.Exact.{Exact}
use Rattle.pylex_lexeme.specs.declared.kinds.Exact.TheVariants.{LPar, RPar, LSqb, RSqb, Comma, Colon, Dot, DoubleStar}
use Rattle.pytoken.specs.declared.keywords.Keyword.TheVariants as Key
use Rattle.pytree_node.specs.declared.operators.Operator.TheVariants as Bin
use Rattle.pytree_node.specs.declared.operators.Context.TheVariants.{Load}
use Rattle.pytree_node.specs.declared.operators.BoolOperator.{BoolOperator}
use Rattle.pytree_node.specs.declared.operators.Comparison.{Comparison}
use Rattle.pytree_node.specs.Trees
use Rattle.pytree_node.specs.Trees.{Expr, Exprs, no_exprs, an_expr, exprs, OptionalExpr, Comprehension, comprehensions}
use Rattle.pytoken.specs.Terminals.{Terminal, Op, Word, Ident}
use Rattle.pygrammar.specs.declared.levels.Level.{Level}
use Rattle.pygrammar.specs.declared.levels.Level.TheVariants.{Value, Expression, Compare, Power, Await, Atom, Elem}
use Rattle.pygrammar.specs.Operators.{chain_level, chain_word}
use Rattle.pygrammar.specs.FormattedStrings.{StringPart, has_formatted}
use Rattle.pygrammar.specs.Entries.{Item, Of, Pair, Entry, singles}
use Rattle.pygrammar.specs.Targets.{all_stored}
use Rattle.pygrammar.specs.Grammar as G
use Rattle.pygrammar.proofs.Callers.Entries.{piece_starts}
use Rattle.pyplaces.specs.ExpressionPlaces.{places, yield_places, perhaps_places, suffix_places, chain_places, compares_places}
use Rattle.pyplaces.specs.ExpressionPlaces.{literals_places, formatted_places, spec_places, listing_places, piece_places, comps_places}
use Rattle.pyplaces.specs.ExpressionPlaces.{comp_places, for_places, ifs_places}
use Rattle.pyplaces.specs.Inner.Looks.{lead_of}
use Rattle.pyplaces.specs.Inner.ExpressionSteps.{Goes}
use Rattle.pyplaces.specs.Inner.AtomSteps.{run}
use Rattle.pyplaces.specs.Inner.Questions.{An, Yielded, Perhaps, Suffixed, Links, Signs, Clauses, Iteration, Conditions, Piece}
use Rattle.pyplaces.specs.Inner.Questions.{Reading, Ask}
use Rattle.pyplaces.specs.Inner.Steps.{on}
use Rattle.pyplaces.proofs.Unique.Leading.{Comes}
use Rattle.pyplaces.proofs.Unique.LookLemmas.{lead_front}
use Rattle.pyplaces.proofs.Unique.Led.{led, not_star}
use Rattle.pyplaces.proofs.Unique.Levels.{Stops, next_goes}
use Rattle.pyplaces.proofs.Unique.Answered.{Answers, Good, PerhapsStops, SuffixStops, PieceStops, ClauseStops}
use Rattle.pyplaces.proofs.Unique.Forms.{nothing_goes, something_goes, yield_from_goes, yield_some_goes, yields_goes, star_item_goes}
use Rattle.pyplaces.proofs.Unique.Forms.{star_elem_goes, star_part_goes, star_slices_goes, star_tuple_goes, parts_goes, subject_tuple_goes}
use Rattle.pyplaces.proofs.Unique.Forms.{named_goes, lambda_goes, if_else_goes, Front, front_nothing, front_something, slice_goes}
use Rattle.pyplaces.proofs.Unique.Forms.{slice_step_goes}
use Rattle.pyplaces.proofs.Unique.Operators.{binary_goes, unary_goes, await_goes, power_goes, LinksStop, last_link_goes, link_goes}
use Rattle.pyplaces.proofs.Unique.Operators.{chain_goes}
use Rattle.pyplaces.proofs.Unique.Operators.{SignsStop, compares_grip, last_compare_goes, compares_goes, compare_goes}
use Rattle.pyplaces.proofs.Unique.Lists.{ListReads, no_item_goes, last_item_goes, item_goes, no_suffix_goes, suffix_goes, single_goes}
use Rattle.pyplaces.proofs.Unique.Lists.{pair_goes, pairs_of_goes, argument_goes, star_argument_goes, double_argument_goes}
use Rattle.pyplaces.proofs.Unique.Lists.{keyword_argument_goes, parameter_goes, slash_goes, bare_goes, star_parameter_goes}
use Rattle.pyplaces.proofs.Unique.Lists.{star_annotation_goes, double_parameter_goes}
use Rattle.pyplaces.proofs.Unique.Clauses.{IfsStop, no_if_goes, if_one_goes, target_in_goes, ClauseReads, for_goes, async_goes}
use Rattle.pyplaces.proofs.Unique.Clauses.{one_comp_goes}
use Rattle.pyplaces.proofs.Unique.Clauses.{comps_goes}
use Rattle.pyplaces.proofs.Unique.AtomForms.{name_goes, number_goes, constant_goes, group_goes, yield_group_goes, empty_tuple_goes}
use Rattle.pyplaces.proofs.Unique.AtomForms.{tuple_goes}
use Rattle.pyplaces.proofs.Unique.AtomForms.{generator_goes, list_goes, list_comp_goes}
use Rattle.pyplaces.proofs.Unique.CurlyForms.{Curls, curls_pair, curls_doubled, curls_more, empty_dict_goes, dict_goes, dict_comp_goes}
use Rattle.pyplaces.proofs.Unique.CurlyForms.{CurlsSet, curls_set, curls_set_more, set_goes, set_comp_goes}
use Rattle.pyplaces.proofs.Unique.TrailerForms.{attribute_goes, subscript_goes, call_goes, call_generator_goes}
use Rattle.pyplaces.proofs.Unique.StringForms.{PartsRead, SpecReads, no_part_goes, text_part_goes, spec_grip, field_part_goes, no_spec_goes}
use Rattle.pyplaces.proofs.Unique.StringForms.{spec_goes, StringsRead, no_literal_goes, text_literal_goes, formatted_literal_goes}
use Rattle.pyplaces.proofs.Unique.StringForms.{run_strings}
use Rattle.pyplaces.proofs.Unique.StringForms.{run_joined}
use Rattle.pyplaces.proofs.Unique.TargetForms.{next_good, no_target, primary, star_item_good, ListTarget, star_tuple_good, none_targeted, last_targeted}
use Rattle.pyplaces.proofs.Unique.TargetForms.{more_targeted}

-- a run of literals is asked for where an Atom is
atom_run : {u : Bool} {ts : List Terminal} {ps : List StringPart} → G.Literals u ts ps → has_formatted ts ≡ true → (at : ℕ)
    (rest : List Terminal) (k : Goes) (c : Reading) → Comes (run at (ts ++ rest) k) c → Comes (Ask (An Atom) at (ts ++ rest) k) c
atom_run G.no_literal h at rest k c p = absurd (cc)
atom_run (G.text_literal l) h at rest k c p = on p
atom_run (G.formatted_literal q l) h at rest k c p = on p

after_front : (ts us : List Terminal) → 14 ≤ lead_of ts → 12 < lead_of (ts ++ us)
after_front ts us l = omega (arith, lead_front ts us 14 (omega arith) l)

mutual
  pub goes : {l : Level} {ts : List Terminal} {e : Expr} (p : G.Derives l ts e) → Good l ts e (λ at. places at p)
  goes (G.next {l = l} {ts = ts} {e = e} p) =
      next_good l ts e _ (led p) (next_goes l ts _ (led p) (not_star p) (goes p).0) (goes p)
  goes (G.yields {ts = ts} {e = e} p) = (yields_goes ts (yields_all p), λ s h. tt)
  goes (G.star_tuple {ts = ts} {us = us} {e = e} {es = es} p c) = star_tuple_good ts us e es _ _
      (star_tuple_goes ts us (goes p).0 (listing_all c (λ r. omega arith))) (goes p) (targets_all c)
  goes (G.star_item {ts = ts} {e = e} p) = star_item_good ts e _ (star_item_goes ts _ (goes p).0) (goes p)
  goes (G.named {x = x} {ts = ts} {e = e} p) = (named_goes x ts (goes p).0, λ s h. tt)
  goes (G.lambda {ts = ts} {us = us} {a = a} {e = e} c h p) =
      no_target Expression (Word Key.Lambda ∷ (ts ++ (Op Colon ∷ us))) (Trees.Lambda a e) _ refl
      (lambda_goes ts us (listing_all c (λ r. (λ q. absurd (omega (arith, q)), omega arith, omega arith)))
      (goes p).0)
  goes (G.if_else {ts = ts} {us = us} {vs = vs} {a = a} {b = b} {c = c} p q r) =
      no_target Expression (ts ++ (Word Key.If ∷ (us ++ (Word Key.Else ∷ vs)))) (Trees.IfExp a b c) _ refl
      (if_else_goes ts us vs (led p) (goes p).0 (goes q).0 (goes r).0)
  goes (G.chain {o = o} {ts = ts} {us = us} {e = e} {es = es} p c) =
      no_target (chain_level o) (ts ++ (Word (chain_word o) ∷ us)) (Trees.BoolOp o (exprs (e ∷ es))) _ refl
      (chain_goes o ts us _ _ (goes p).0 (chain_all c))
  goes (G.unary {l = l} {t = t} {o = o} {ts = ts} {e = e} h p) = no_target l (t ∷ ts) (Trees.UnaryOp o e) _ refl
      (unary_goes l ts t o _ h (goes p).0)
  goes (G.compare {ts = ts} {us = us} {e = e} {os = os} {es = es} p c) =
      no_target Compare (ts ++ us) (Trees.Compare e os (exprs es)) _ refl
      (compare_goes ts us _ _ (goes p).0 (compares_grip c) (compares_all c))
  goes (G.binary {l = l} {ts = ts} {us = us} {a = a} {b = b} {o = o} t h p q) =
      no_target l (ts ++ (t ∷ us)) (Trees.BinOp a o b) _ refl (binary_goes l ts us t o _ _ h (goes p).0 (goes q).0)
  goes (G.power {ts = ts} {us = us} {a = a} {b = b} p q) =
      no_target Power (ts ++ (Op DoubleStar ∷ us)) (Trees.BinOp a Bin.Pow b) _ refl (power_goes ts us (goes p).0 (goes q).0)
  goes (G.await {ts = ts} {e = e} p) = no_target Await (Word Key.Await ∷ ts) (Trees.Await e) _ refl (await_goes ts _ (goes p).0)
  goes (G.attribute {ts = ts} {e = e} x p) = primary (ts ++ (Op Dot ∷ (Ident x ∷ []))) (Trees.Attribute e x.form Load) _
      (attribute_goes ts x _ (goes p).0)
  goes (G.call {ts = ts} {us = us} {e = e} p c h) =
      primary (ts ++ (Op LPar ∷ (us ++ (Op RPar ∷ [])))) e _ (call_goes ts us (goes p).0 (listing_all c))
  goes (G.call_generator {ts = ts} {us = us} {vs = vs} {f = f} {e = e} {gs = gs} p q c) = primary
      (ts ++ (Op LPar ∷ (us ++ (vs ++ (Op RPar ∷ [])))))
      (Trees.Call f (an_expr (Trees.GeneratorExp e (comprehensions gs)) no_exprs) Trees.no_keyword) _
      (call_generator_goes ts us vs _ _ _ (led q) (λ r. piece_starts (G.argument q) r) (goes p).0 (goes q).0 c (comps_all c))
  goes (G.subscript {ts = ts} {us = us} {e = e} {s = s} p q) =
      primary (ts ++ (Op LSqb ∷ (us ++ (Op RSqb ∷ [])))) (Trees.Subscript e s Load) _ (subscript_goes ts us (goes p).0 (goes q).0)
  goes (G.name {x = x}) = (name_goes x, λ s h. tt)
  goes (G.constant {t = t} {v = v} h) = (constant_goes t v h, λ s h. tt)
  goes (G.number {v = v}) = (number_goes v, λ s h. tt)
  goes (G.strings {v = v} vs h) = (λ at rest k s. on (run_strings v vs at rest k s), λ s h. tt)
  goes (G.joined_string {ts = ts} {ps = ps} c b h) = (
    λ at rest k s. atom_run c h at rest k _ (run_joined ts ps (λ row at. literals_places row at c) h (literals_all c) at rest k s),
    λ s h. tt,
  )
  goes (G.group {ts = ts} p) = (group_goes ts _ (led p) (goes p).0, λ s h. tt)
  goes (G.yield_group {ts = ts} p) = (yield_group_goes ts (yields_all p), λ s h. tt)
  goes G.empty_tuple = (empty_tuple_goes, λ s h. tt)
  goes (G.tuple {ts = ts} {us = us} p c) = (tuple_goes ts us (led p) (goes p).0 (listing_all c), λ s h. tt)
  goes (G.generator_group {ts = ts} {us = us} p c) = (generator_goes ts us _ _ (led p) (goes p).0 c (comps_all c), λ s h. tt)
  goes (G.list {ts = ts} c) = (list_goes ts (listing_all c), λ s h. tt)
  goes (G.list_comp {ts = ts} {us = us} p c) = (list_comp_goes ts us _ _ (led p) (goes p).0 c (comps_all c), λ s h. tt)
  goes (G.dict G.no_item) = (empty_dict_goes, λ s h. tt)
  goes (G.dict (G.last_item {ts = ts} p)) =
      (dict_goes ts (pair_front p) (last_item_goes Pair ts (λ r. piece_starts p r) (piece_all p)), λ s h. tt)
  goes (G.dict (G.item {ts = ts} {us = us} p c)) = (
    dict_goes (ts ++ (Op Comma ∷ us)) (curls_more ts (Op Comma ∷ us) (pair_front p))
        (item_goes Pair ts us (λ r. piece_starts p r) (piece_all p) (listing_all c)),
    λ s h. tt,
  )
  goes (G.dict_comp {ts = ts} {us = us} {vs = vs} p q c) =
      (dict_comp_goes ts us vs _ _ _ (led p) (λ r. piece_starts (G.pair p q) r) (goes p).0 (goes q).0 c (comps_all c), λ s h. tt)
  goes (G.set {ts = ts} c) = (set_goes ts (set_front c) (listing_all c), λ s h. tt)
  goes (G.set_comp {ts = ts} {us = us} p c) = (set_comp_goes ts us _ _ (led p) (goes p).0 c (comps_all c), λ s h. tt)
  goes (G.subject_tuple {ts = ts} {us = us} p c) = (subject_tuple_goes ts us (goes p).0 (listing_all c (λ r. omega arith)), λ s h. tt)
  goes (G.star_elem {ts = ts} p) = (star_elem_goes ts _ (goes p).0, λ s h. tt)
  goes (G.star_slices {ts = ts} p) = (star_slices_goes ts (goes p).0, λ s h. tt)
  goes (G.parts {ts = ts} {us = us} p c) =
      (parts_goes ts us (goes p).0 (listing_all c (λ r. (omega arith, omega arith))), λ s h. tt)
  goes (G.star_part {ts = ts} p) = (star_part_goes ts (goes p).0, λ s h. tt)
  goes (G.slice {ts = ts} {us = us} p q) = (slice_goes ts us _ _ (front_all p) (perhaps_all q), λ s h. tt)
  goes (G.slice_step {ts = ts} {us = us} {vs = vs} p q r) =
      (slice_step_goes ts us vs _ _ _ (front_all p) (perhaps_all q) (perhaps_all r), λ s h. tt)

  front_all : {ts : List Terminal} {a : OptionalExpr} (p : G.Perhaps Expression ts a) → Front ts (λ at. perhaps_places at p)
  front_all G.nothing = front_nothing
  front_all (G.something {ts = ts} p) = front_something ts _ (led p) (goes p).0

  pair_front : {ts : List Terminal} {a : Entry} → G.Piece Pair ts a → Curls ts
  pair_front (G.pair {ts = ts} {us = us} p q) = curls_pair ts us _ (led p) (goes p).0
  pair_front (G.pairs_of {ts = ts} p) = curls_doubled ts

  set_front : {ts : List Terminal} {a : Entry} {es : List Entry} → G.Listing (Of Elem) ts (a ∷ es) → CurlsSet ts
  set_front (G.last_item (G.single {ts = ts} p)) = curls_set ts _ (led p) (goes p).0
  set_front (G.item {us = us} (G.single {ts = ts} p) c) = curls_set_more ts us (curls_set ts _ (led p) (goes p).0)

  pub literals_all : {u : Bool} {ts : List Terminal} {ps : List StringPart} (c : G.Literals u ts ps)
      → StringsRead ts ps (λ row at. literals_places row at c)
  literals_all G.no_literal = no_literal_goes
  literals_all (G.text_literal {ts = ts} {ps = ps} {t = t} {k = k} l) = text_literal_goes t k ts ps _ (literals_all l)
  literals_all (G.formatted_literal {ts = ts} {us = us} {ps = ps} {qs = qs} p l) =
      formatted_literal_goes ts us ps qs _ _ (formatted_all p) (literals_all l)

  formatted_all : {u : Bool} {ts : List Terminal} {ps : List StringPart} (c : G.Formatted u ts ps)
      → PartsRead ts ps (λ row at. formatted_places row at c)
  formatted_all G.no_part = no_part_goes
  formatted_all (G.text_part {ts = ts} {ps = ps} {t = t} p) = text_part_goes t ts ps _ (formatted_all p)
  formatted_all (G.field_part {c = c} {ts = ts} {us = us} {vs = vs} {e = e} {s = s} {ps = ps} p q r) =
      field_part_goes c ts us vs ps (Trees.FormattedValue e c s) _ _ _ (spec_grip q) (goes p).0 (spec_all q) (formatted_all r)

  spec_all : {u : Bool} {us : List Terminal} {s : OptionalExpr} (c : G.Spec u us s) → SpecReads us (λ row at. spec_places row at c)
  spec_all G.no_spec = no_spec_goes
  spec_all (G.spec {ts = ts} {ps = ps} p) = spec_goes ts ps _ (formatted_all p)

  yields_all : {ts : List Terminal} {e : Expr} (p : G.Yields ts e) → Answers Yielded ts (λ at. yield_places at p) (Stops Value)
  yields_all (G.yield_from {ts = ts} p) = yield_from_goes ts (goes p).0
  yields_all (G.yield_some {ts = ts} p) = yield_some_goes ts p (perhaps_all p)

  pub perhaps_all : {l : Level} {ts : List Terminal} {a : OptionalExpr} (p : G.Perhaps l ts a)
      → Answers (Perhaps l) ts (λ at. perhaps_places at p) (PerhapsStops l)
  perhaps_all (G.nothing {l = l}) = nothing_goes l
  perhaps_all (G.something {l = l} {ts = ts} p) = something_goes l ts _ (led p) (goes p).0

  suffix_all : {s : Option Exact} {ts : List Terminal} {a : OptionalExpr} (p : G.Suffix s ts a)
      → Answers (Suffixed s) ts (λ at. suffix_places at p) (SuffixStops s)
  suffix_all (G.no_suffix {s = s}) = no_suffix_goes s
  suffix_all (G.suffix {x = x} {ts = ts} p) = suffix_goes x ts (goes p).0

  chain_all : {o : BoolOperator} {us : List Terminal} {es : List Expr} (c : G.Chain o us es)
      → Answers (Links o) us (λ at. chain_places at c) (LinksStop o)
  chain_all (G.last_link {o = o} {ts = ts} p) = last_link_goes o ts _ (goes p).0
  chain_all (G.link {o = o} {ts = ts} {us = us} p c) = link_goes o ts us _ _ (goes p).0 (chain_all c)

  compares_all : {us : List Terminal} {os : List Comparison} {es : List Expr} (c : G.Compares us os es)
      → Answers Signs us (λ at. compares_places at c) SignsStop
  compares_all (G.last_compare {ss = ss} {ts = ts} {o = o} c p) =
      last_compare_goes ss ts o _ c (λ r. after_front ts r (led p)) (goes p).0
  compares_all (G.compares {ss = ss} {ts = ts} {us = us} {o = o} c p w) =
      compares_goes ss ts us o _ _ c (λ r. after_front ts r (led p)) (goes p).0 (compares_grip w) (compares_all w)

  pub listing_all : {i : Item} {us : List Terminal} {es : List Entry} (c : G.Listing i us es) → ListReads i us (λ at. listing_places at c)
  listing_all (G.no_item {i = i}) = no_item_goes i
  listing_all (G.last_item {i = i} {ts = ts} p) = last_item_goes i ts (λ r. piece_starts p r) (piece_all p)
  listing_all (G.item {i = i} {ts = ts} {us = us} p c) =
      item_goes i ts us (λ r. piece_starts p r) (piece_all p) (listing_all c)

  targets_all : {i : Item} {us : List Terminal} {es : List Entry} (c : G.Listing i us es) → (z : Exprs) → all_stored (singles es) ≡ Some z
      → ListTarget i us (λ at. listing_places at c)
  targets_all (G.no_item {i = i}) z h = none_targeted i
  targets_all (G.last_item (G.single {l = l} {ts = ts} {e = e} p)) z h = last_targeted l ts e _ (led p) (goes p) z h
  targets_all (G.last_item _) z h = tt
  targets_all (G.item {us = us} {es = es} (G.single {l = l} {ts = ts} {e = e} p) c) z h =
      more_targeted l ts us e es _ _ (led p) (goes p) (targets_all c) z h
  targets_all (G.item _ c) z h = tt

  piece_all : {i : Item} {ts : List Terminal} {a : Entry} (p : G.Piece i ts a)
      → Answers (Piece i) ts (λ at. piece_places at p) (PieceStops i)
  piece_all (G.single {l = l} {ts = ts} p) = single_goes l ts _ (goes p).0
  piece_all (G.pair {ts = ts} {us = us} p q) = pair_goes ts us (led p) (goes p).0 (goes q).0
  piece_all (G.pairs_of {ts = ts} p) = pairs_of_goes ts _ (goes p).0
  piece_all (G.argument {ts = ts} p) = argument_goes ts _ (led p) (goes p).0
  piece_all (G.star_argument {ts = ts} p) = star_argument_goes ts (goes p).0
  piece_all (G.keyword_argument {x = x} {ts = ts} p) = keyword_argument_goes x ts (goes p).0
  piece_all (G.double_argument {ts = ts} p) = double_argument_goes ts (goes p).0
  piece_all (G.parameter {b = b} {x = x} {ts = ts} {us = us} p q) = parameter_goes b x ts us _ _ (suffix_all p) q (suffix_all q)
  piece_all (G.slash {b = b}) = slash_goes b
  piece_all (G.bare_star {b = b}) = bare_goes b
  piece_all (G.star_parameter {b = b} {x = x} {ts = ts} p) = star_parameter_goes b x ts _ p (suffix_all p)
  piece_all (G.star_annotation {x = x} {ts = ts} p) = star_annotation_goes x ts _ (goes p).0
  piece_all (G.double_parameter {b = b} {x = x} {ts = ts} p) = double_parameter_goes b x ts _ (suffix_all p)

  comps_all : {us : List Terminal} {gs : List Comprehension} (c : G.Comps us gs) → Answers Clauses us (λ at. comps_places at c) ClauseStops
  comps_all (G.one_comp {ts = ts} p) = one_comp_goes ts (comp_all p)
  comps_all (G.comps {ts = ts} {us = us} p c) = comps_goes ts us (comp_all p) c (comps_all c)

  comp_all : {us : List Terminal} {g : Comprehension} (c : G.Comp us g) → ClauseReads us (λ at. comp_places at c)
  comp_all (G.for_in {ts = ts} p) = for_goes ts (for_in_all p)
  comp_all (G.async_for_in {ts = ts} p) = async_goes ts (for_in_all p)

  for_in_all : {b : Bool} {us : List Terminal} {g : Comprehension} (c : G.ForIn b us g)
      → Answers Iteration us (λ at. for_places at c) IfsStop
  for_in_all (G.target_in {ts = ts} {us = us} {vs = vs} {s = s} p h q c) =
      target_in_goes ts us vs ((goes p).1 s h) (goes q).0 c (ifs_all c)

  ifs_all : {us : List Terminal} {es : List Expr} (c : G.Ifs us es) → Answers Conditions us (λ at. ifs_places at c) IfsStop
  ifs_all G.no_if = no_if_goes
  ifs_all (G.if_one {ts = ts} {us = us} p c) = if_one_goes ts us (goes p).0 c (ifs_all c)
