-- Every derived expression is derived from its own text, which has no more tokens than the
-- list it was derived from.
--
-- Carries: fewest, for Shortest. On: Claims, Entries, Clauses, Params and 1 more.
use Rattle.std.proofs.Common.{◌≤◌, refl, List, Option, Bool}
use Rattle.pylex_lexeme.specs.declared.kinds.Exact.{Exact}
use Rattle.pytree_node.specs.declared.operators.BoolOperator.{BoolOperator}
use Rattle.pytree_node.specs.declared.operators.Comparison.{Comparison}
use Rattle.pygrammar.specs.declared.levels.Level.{Level}
use Rattle.pytree_node.specs.Trees.{Expr, OptionalExpr, Comprehension}
use Rattle.pytoken.specs.Terminals.{Terminal}
use Rattle.pygrammar.specs.Entries.{Item, Entry}
use Rattle.pygrammar.specs.FormattedStrings.{StringPart}
use Rattle.pygrammar.specs.OpenStrings.{token_count}
use Rattle.pygrammar.specs.Grammar as G
use Rattle.pyunparse_text.specs.Written.{written}
use Rattle.pyunparse_text.specs.Terminals.{terminal}
use Rattle.pyunparse_text.proofs.Fewest.Counted.{none, token}
use Rattle.pyunparse_text.proofs.Fewest.Sizes.{same, no_more}
use Rattle.pyunparse_text.proofs.Fewest.Strings.{FormattedClaim, SpecClaim, LiteralsClaim, no_part_claim, text_part_claim, field_part_claim}
use Rattle.pyunparse_text.proofs.Fewest.Strings.{no_spec_claim, spec_claim, no_literal_claim, text_literal_claim, formatted_literal_claim}
use Rattle.pyunparse_text.proofs.Fewest.Strings.{joined_claim}
use Rattle.pyunparse_text.proofs.Fewest.Claims.{Claim, here, next_claim, group_claim, if_else_claim, named_claim, await_claim}
use Rattle.pyunparse_text.proofs.Fewest.Claims.{attribute_claim}
use Rattle.pyunparse_text.proofs.Fewest.Claims.{subscript_claim, power_claim, binary_claim, unary_claim, ChainClaim, last_link_claim}
use Rattle.pyunparse_text.proofs.Fewest.Claims.{link_claim}
use Rattle.pyunparse_text.proofs.Fewest.Claims.{chain_claim, compared_claim, ComparesClaim, last_compare_claim, compares_claim}
use Rattle.pyunparse_text.proofs.Fewest.Claims.{compare_claim}
use Rattle.pyunparse_text.proofs.Fewest.Claims.{name_claim, constant_claim, word_plain, strings_short, star_item_claim, star_elem_claim}
use Rattle.pyunparse_text.proofs.Fewest.Claims.{star_part_claim, PerhapsClaim, nothing_claim, something_claim, slice_claim}
use Rattle.pyunparse_text.proofs.Fewest.Claims.{slice_step_claim}
use Rattle.pyunparse_text.proofs.Fewest.Claims.{YieldsClaim, yields_claim, yield_group_claim, yield_from_claim, yield_some_claim}
use Rattle.pyunparse_text.proofs.Fewest.Entries.{PieceClaim, ListingClaim, no_item_claim, last_item_claim, item_claim, single_claim}
use Rattle.pyunparse_text.proofs.Fewest.Entries.{pair_claim}
use Rattle.pyunparse_text.proofs.Fewest.Entries.{pairs_of_claim, argument_claim, star_argument_claim, keyword_argument_claim}
use Rattle.pyunparse_text.proofs.Fewest.Entries.{double_argument_claim}
use Rattle.pyunparse_text.proofs.Fewest.Entries.{list_claim, set_claim, dict_claim, empty_tuple_claim, star_tuple_claim}
use Rattle.pyunparse_text.proofs.Fewest.Entries.{subject_tuple_claim}
use Rattle.pyunparse_text.proofs.Fewest.Entries.{tuple_claim, parts_claim, star_slices_claim}
use Rattle.pyunparse_text.proofs.Fewest.Calls.{call_claim}
use Rattle.pyunparse_text.proofs.Fewest.Clauses.{IfsClaim, no_if_claim, if_one_claim, ForInClaim, target_in_claim, CompClaim, for_claim}
use Rattle.pyunparse_text.proofs.Fewest.Clauses.{async_for_claim, CompsClaim, one_comp_claim, comps_claim, generator_group_claim}
use Rattle.pyunparse_text.proofs.Fewest.Clauses.{list_comp_claim}
use Rattle.pyunparse_text.proofs.Fewest.Clauses.{set_comp_claim, dict_comp_claim, call_generator_claim}
use Rattle.pyunparse_text.proofs.Fewest.Params.{SuffixClaim, no_suffix_claim, suffix_claim, parameter_claim, slash_claim, bare_star_claim}
use Rattle.pyunparse_text.proofs.Fewest.Params.{star_parameter_claim, star_annotation_claim, double_parameter_claim, lambda_claim}

mutual
  pub claim : {l : Level} {ts : List Terminal} {e : Expr} → G.Derives l ts e → Claim l ts e
  claim (G.next p) = next_claim (claim p)
  claim (G.yields p) = yields_claim (yields p)
  claim (G.star_tuple p c) = star_tuple_claim (claim p) (listing c)
  claim (G.star_item p) = star_item_claim (claim p)
  claim (G.named p) = named_claim (claim p)
  claim (G.lambda c h p) = lambda_claim (listing c) h (claim p)
  claim (G.if_else p q r) = if_else_claim (claim p) (claim q) (claim r)
  claim (G.chain p c) = chain_claim (claim p) (chain c)
  claim (G.unary h p) = unary_claim h (claim p)
  claim (G.compare p c) = compare_claim (claim p) (compares c)
  claim (G.binary t h p q) = binary_claim t h (claim p) (claim q)
  claim (G.power p q) = power_claim (claim p) (claim q)
  claim (G.await p) = await_claim (claim p)
  claim (G.attribute x p) = attribute_claim x (claim p)
  claim (G.call p c h) = call_claim (claim p) (listing c) h
  claim (G.call_generator p q c) = call_generator_claim (claim p) (claim q) (comps c)
  claim (G.subscript p q) = subscript_claim (claim p) (claim q)
  claim G.name = name_claim
  claim (G.constant {t = t} {v = v} h) = constant_claim v (token (word_plain t v h) none)
  claim (G.number {v = v}) = constant_claim v (token refl none)
  claim (G.strings {v = v} {w = w} vs h) = constant_claim w (strings_short v vs)
  claim (G.joined_string p b h) = joined_claim (literals p) b h
  claim (G.group p) = group_claim (claim p)
  claim (G.yield_group p) = yield_group_claim (yields p)
  claim G.empty_tuple = empty_tuple_claim
  claim (G.tuple p c) = tuple_claim (claim p) (listing c)
  claim (G.generator_group p c) = generator_group_claim (claim p) (comps c)
  claim (G.list c) = list_claim (listing c)
  claim (G.list_comp p c) = list_comp_claim (claim p) (comps c)
  claim (G.dict c) = dict_claim (listing c)
  claim (G.dict_comp p q c) = dict_comp_claim (claim p) (claim q) (comps c)
  claim (G.set c) = set_claim (listing c)
  claim (G.set_comp p c) = set_comp_claim (claim p) (comps c)
  claim (G.subject_tuple p c) = subject_tuple_claim (claim p) (listing c)
  claim (G.star_elem p) = star_elem_claim (claim p)
  claim (G.star_slices p) = star_slices_claim (star_part_claim (claim p))
  claim (G.parts p c) = parts_claim (claim p) (listing c)
  claim (G.star_part p) = star_part_claim (claim p)
  claim (G.slice a b) = slice_claim (perhaps a) (perhaps b)
  claim (G.slice_step a b c) = slice_step_claim (perhaps a) (perhaps b) (perhaps c)

  pub yields : {ts : List Terminal} {e : Expr} → G.Yields ts e → YieldsClaim ts e
  yields (G.yield_from p) = yield_from_claim (claim p)
  yields (G.yield_some p) = yield_some_claim (perhaps p)

  pub perhaps : {l : Level} {ts : List Terminal} {e : OptionalExpr} → G.Perhaps l ts e → PerhapsClaim l ts e
  perhaps (G.nothing {l = l}) = nothing_claim l
  perhaps (G.something p) = something_claim (claim p)

  suffix : {s : Option Exact} {ts : List Terminal} {e : OptionalExpr} → G.Suffix s ts e → SuffixClaim s ts e
  suffix (G.no_suffix {s = s}) = no_suffix_claim s
  suffix (G.suffix p) = suffix_claim (claim p)

  chain : {o : BoolOperator} {ts : List Terminal} {es : List Expr} → G.Chain o ts es → ChainClaim o ts es
  chain (G.last_link p) = last_link_claim (claim p)
  chain (G.link p c) = link_claim (claim p) (chain c)

  compares : {ts : List Terminal} {os : List Comparison} {es : List Expr} → G.Compares ts os es → ComparesClaim ts os es
  compares (G.last_compare k p) = last_compare_claim (compared_claim k) (claim p)
  compares (G.compares k p c) = compares_claim (compared_claim k) (claim p) (compares c)

  pub literals : {u : Bool} {ts : List Terminal} {ps : List StringPart} → G.Literals u ts ps → LiteralsClaim u ts ps
  literals (G.no_literal {u = u}) = no_literal_claim u
  literals (G.text_literal {t = t} {k = k} p) = text_literal_claim t k (literals p)
  literals (G.formatted_literal p q) = formatted_literal_claim (formatted p) (literals q)

  formatted : {u : Bool} {ts : List Terminal} {ps : List StringPart} → G.Formatted u ts ps → FormattedClaim u ts ps
  formatted (G.no_part {u = u}) = no_part_claim u
  formatted (G.text_part {t = t} p) = text_part_claim t (formatted p)
  formatted (G.field_part p q r) = field_part_claim (claim p) (spec q) (formatted r)

  spec : {u : Bool} {ts : List Terminal} {s : OptionalExpr} → G.Spec u ts s → SpecClaim u ts s
  spec (G.no_spec {u = u}) = no_spec_claim u
  spec (G.spec p) = spec_claim (formatted p)

  pub listing : {i : Item} {ts : List Terminal} {es : List Entry} → G.Listing i ts es → ListingClaim i ts es
  listing (G.no_item {i = i}) = no_item_claim i
  listing (G.last_item p) = last_item_claim (piece p)
  listing (G.item p c) = item_claim (piece p) (listing c)

  piece : {i : Item} {ts : List Terminal} {e : Entry} → G.Piece i ts e → PieceClaim i ts e
  piece (G.single p) = single_claim (claim p)
  piece (G.pair p q) = pair_claim (claim p) (claim q)
  piece (G.pairs_of p) = pairs_of_claim (claim p)
  piece (G.argument p) = argument_claim (claim p)
  piece (G.star_argument p) = star_argument_claim (claim p)
  piece (G.keyword_argument p) = keyword_argument_claim (claim p)
  piece (G.double_argument p) = double_argument_claim (claim p)
  piece (G.parameter p q) = parameter_claim (suffix p) (suffix q)
  piece (G.slash {b = b}) = slash_claim b
  piece (G.bare_star {b = b}) = bare_star_claim b
  piece (G.star_parameter p) = star_parameter_claim (suffix p)
  piece (G.star_annotation p) = star_annotation_claim (claim p)
  piece (G.double_parameter p) = double_parameter_claim (suffix p)

  pub comps : {ts : List Terminal} {gs : List Comprehension} → G.Comps ts gs → CompsClaim ts gs
  comps (G.one_comp c) = one_comp_claim (comp c)
  comps (G.comps c d) = comps_claim (comp c) (comps d)

  comp : {ts : List Terminal} {g : Comprehension} → G.Comp ts g → CompClaim ts g
  comp (G.for_in c) = for_claim (for_in c)
  comp (G.async_for_in c) = async_for_claim (for_in c)

  for_in : {b : _} {ts : List Terminal} {g : Comprehension} → G.ForIn b ts g → ForInClaim b ts g
  for_in (G.target_in p h q c) = target_in_claim (claim p) h (claim q) (ifs c)

  ifs : {ts : List Terminal} {es : List Expr} → G.Ifs ts es → IfsClaim ts es
  ifs G.no_if = no_if_claim
  ifs (G.if_one p c) = if_one_claim (claim p) (ifs c)

-- every tree comes back, from no more tokens
pub fewest : {l : Level} {ts : List Terminal} {e : Expr} → G.Derives l ts e
    → G.Derives l (written terminal l e) e × (token_count (written terminal l e) ≤ token_count ts)
fewest {l} {ts} {e} p = let c = claim p in (here c, no_more (same l e) c.short)
