-- Apart: of two places of an expression one holds the other, or they are apart.
--
-- On: Laminar, Tokens.
use Rattle.std.proofs.Common.{ℕ, ◌+◌, ◌≤◌, arith, List, Option, Bool, length, length-append}
use Rattle.std.proofs.lemmas.List.{length-map}
use Rattle.pylex_lexeme.specs.declared.kinds.Exact.{Exact}
use Rattle.pytree_node.specs.declared.operators.BoolOperator.{BoolOperator}
use Rattle.pytree_node.specs.declared.operators.Comparison.{Comparison}
use Rattle.pytree_node.specs.Trees.{Expr, OptionalExpr, Comprehension}
use Rattle.pytoken.specs.Terminals.{Terminal, Literal}
use Rattle.pygrammar.specs.declared.levels.Level.{Level}
use Rattle.pygrammar.specs.FormattedStrings.{StringPart, merged}
use Rattle.pygrammar.specs.Entries.{Item, Entry}
use Rattle.pygrammar.specs.Grammar as G
use Rattle.pyplaces.specs.Stretches.{Stretch, stretch}
use Rattle.pyplaces.specs.EntryPlaces as E
use Rattle.pyplaces.specs.ExpressionPlaces.{places, yield_places, perhaps_places, suffix_places, chain_places, compares_places}
use Rattle.pyplaces.specs.ExpressionPlaces.{literals_places, formatted_places, spec_places, listing_places, piece_places, comps_places}
use Rattle.pyplaces.specs.ExpressionPlaces.{comp_places, for_places, ifs_places}
use Rattle.pyplaces.proofs.Laws.Laminar.{Laminar, wide, nothing, seq, root, root0, root2, root3, root_own, one_token, root_twice}
use Rattle.pyplaces.proofs.Laws.Laminar.{root_mixed, root2_mixed, swapped, root_generator, all_of, flat, flat_one, singles_laminar}
use Rattle.pyplaces.proofs.Laws.Laminar.{pairs_laminar, arguments_laminar, arranged_laminar, InRow, in_row, row_none, row_widen, row_seq}
use Rattle.pyplaces.proofs.Laws.Laminar.{row_together, together, strings_laminar, row_laminar}
use Rattle.pyplaces.proofs.Laws.Tokens.{formatted_some, some_terminal}

mutual
  pub laminar : {l : Level} {ts : List Terminal} {e : Expr} (at : ℕ) (d : G.Derives l ts e)
      → Laminar at (at + length ts) (places at d)
  laminar at (G.next p) = laminar at p
  laminar at (G.yields p) = root (laminar_yields (1 + at) p) (omega arith) (omega arith) (omega arith) (omega arith) (omega arith)
  laminar at (G.star_tuple {ts = ts} p c) =
      root2 (laminar at p) (singles_laminar (listing_places (at + (length ts + 1)) c) (laminar_listing (at + (length ts + 1)) c))
      (omega arith) (omega arith) (omega arith) (omega arith) (omega arith) (simp length-append (omega arith))
  laminar at (G.star_item p) = root (laminar (1 + at) p) (omega arith) (omega arith) (omega arith) (omega arith) (omega arith)
  laminar at (G.named p) =
      root2 (one_token at) (laminar (2 + at) p) (omega arith) (omega arith) (omega arith) (omega arith) (omega arith) (omega arith)
  laminar at (G.lambda {ts = ts} c h p) =
      root2 (arranged_laminar (listing_places (1 + at) c) (laminar_listing (1 + at) c)) (laminar (2 + (at + length ts)) p) (omega arith)
      (omega arith) (omega arith) (omega arith) (omega arith) (simp length-append (omega arith))
  laminar at (G.if_else {ts = ts} {us = us} p q r) =
      swapped (places at p) (places (1 + (at + length ts)) q) _ (root3 (laminar at p) (laminar (1 + (at + length ts)) q)
      (laminar (2 + (at + (length ts + length us))) r) (omega arith) (omega arith) (omega arith) (omega arith) (omega arith)
      (omega arith) (simp length-append (omega arith)))
  laminar at (G.chain {ts = ts} p c) =
      root2 (laminar at p) (laminar_chain (1 + (at + length ts)) c) (omega arith) (omega arith) (omega arith) (omega arith) (omega arith)
      (simp length-append (omega arith))
  laminar at (G.unary h p) = root (laminar (1 + at) p) (omega arith) (omega arith) (omega arith) (omega arith) (omega arith)
  laminar at (G.compare {ts = ts} p c) =
      let some = some_terminal p in root2 (laminar at p) (laminar_compares (at + length ts) c) (omega arith) (omega arith) (omega arith)
      (omega arith) (omega arith) (simp length-append (omega arith))
  laminar at (G.binary {ts = ts} t h p q) =
      root2 (laminar at p) (laminar (1 + (at + length ts)) q) (omega arith) (omega arith) (omega arith) (omega arith) (omega arith)
      (simp length-append (omega arith))
  laminar at (G.power {ts = ts} p q) =
      root2 (laminar at p) (laminar (1 + (at + length ts)) q) (omega arith) (omega arith) (omega arith) (omega arith) (omega arith)
      (simp length-append (omega arith))
  laminar at (G.await p) = root (laminar (1 + at) p) (omega arith) (omega arith) (omega arith) (omega arith) (omega arith)
  laminar at (G.attribute x p) =
      root (laminar at p) (omega arith) (omega arith) (omega arith) (omega arith) (simp length-append (omega arith))
  laminar at (G.call {ts = ts} p c h) =
      root2_mixed (E.positional (listing_places (1 + (at + length ts)) c)) (E.keywords (listing_places (1 + (at + length ts)) c))
      (laminar at p) (arguments_laminar (listing_places (1 + (at + length ts)) c) (laminar_listing (1 + (at + length ts)) c))
      (omega arith) (omega arith) (omega arith) (omega arith) (omega arith) (simp length-append (omega arith))
  laminar at (G.call_generator {ts = ts} {us = us} p q c) =
      root_generator (laminar at p) (laminar (1 + (at + length ts)) q) (laminar_comps (1 + (at + (length ts + length us))) c) (omega arith)
      (omega arith) (omega arith) (omega arith) (omega arith) (omega arith) (omega arith) (omega arith) (omega arith)
      (simp length-append (omega arith))
  laminar at (G.subscript {ts = ts} p q) =
      root2 (laminar at p) (laminar (1 + (at + length ts)) q) (omega arith) (omega arith) (omega arith) (omega arith) (omega arith)
      (simp length-append (omega arith))
  laminar at G.name = root0 (omega arith) (omega arith) (omega arith)
  laminar at (G.constant h) = root0 (omega arith) (omega arith) (omega arith)
  laminar at G.number = root0 (omega arith) (omega arith) (omega arith)
  laminar at (G.strings vs h) = let k = length-map vs Literal in root0 (omega arith) (omega arith) (omega arith)
  laminar at (G.joined_string {ts = ts} {ps = ps} c b h) =
      let some = formatted_some ts h in
      row_laminar (strings_laminar (merged ps) (literals_places (stretch at (at + length ts)) at c)
      (laminar_literals (stretch at (at + length ts)) at c (omega arith) (omega arith))) (omega arith) (omega arith) (omega arith)
  laminar at (G.group p) = wide (laminar (1 + at) p) (omega arith) (simp length-append (omega arith))
  laminar at (G.yield_group p) =
      root (laminar_yields (2 + at) p) (omega arith) (omega arith) (omega arith) (omega arith) (simp length-append (omega arith))
  laminar at G.empty_tuple = root0 (omega arith) (omega arith) (omega arith)
  laminar at (G.tuple {ts = ts} p c) =
      root2 (laminar (1 + at) p) (singles_laminar (listing_places (2 + (at + length ts)) c) (laminar_listing (2 + (at + length ts)) c))
      (omega arith) (omega arith) (omega arith) (omega arith) (omega arith) (simp length-append (omega arith))
  laminar at (G.generator_group {ts = ts} p c) =
      root2 (laminar (1 + at) p) (laminar_comps (1 + (at + length ts)) c) (omega arith) (omega arith) (omega arith) (omega arith)
      (omega arith) (simp length-append (omega arith))
  laminar at (G.list c) =
      root (singles_laminar (listing_places (1 + at) c) (laminar_listing (1 + at) c)) (omega arith) (omega arith) (omega arith)
      (omega arith) (simp length-append (omega arith))
  laminar at (G.list_comp {ts = ts} p c) =
      root2 (laminar (1 + at) p) (laminar_comps (1 + (at + length ts)) c) (omega arith) (omega arith) (omega arith) (omega arith)
      (omega arith) (simp length-append (omega arith))
  laminar at (G.dict c) =
      root_mixed (E.keys (listing_places (1 + at) c)) (E.values (listing_places (1 + at) c))
      (pairs_laminar (listing_places (1 + at) c) (laminar_listing (1 + at) c)) (omega arith) (omega arith) (omega arith) (omega arith)
      (simp length-append (omega arith))
  laminar at (G.dict_comp {ts = ts} {us = us} p q c) =
      root3 (laminar (1 + at) p) (laminar (2 + (at + length ts)) q) (laminar_comps (2 + (at + (length ts + length us))) c) (omega arith)
      (omega arith) (omega arith) (omega arith) (omega arith) (omega arith) (simp length-append (omega arith))
  laminar at (G.set c) =
      root (singles_laminar (listing_places (1 + at) c) (laminar_listing (1 + at) c)) (omega arith) (omega arith) (omega arith)
      (omega arith) (simp length-append (omega arith))
  laminar at (G.set_comp {ts = ts} p c) =
      root2 (laminar (1 + at) p) (laminar_comps (1 + (at + length ts)) c) (omega arith) (omega arith) (omega arith) (omega arith)
      (omega arith) (simp length-append (omega arith))
  laminar at (G.subject_tuple {ts = ts} p c) =
      root2 (laminar at p) (singles_laminar (listing_places (at + (length ts + 1)) c) (laminar_listing (at + (length ts + 1)) c))
      (omega arith) (omega arith) (omega arith) (omega arith) (omega arith) (simp length-append (omega arith))
  laminar at (G.star_elem p) = root (laminar (1 + at) p) (omega arith) (omega arith) (omega arith) (omega arith) (omega arith)
  laminar at (G.star_slices p) =
      root_twice (laminar (1 + at) p) (omega arith) (omega arith) (omega arith) (omega arith) (omega arith) (omega arith)
      (omega arith) (omega arith)
  laminar at (G.parts {ts = ts} p c) =
      root2 (laminar at p) (singles_laminar (listing_places (at + (length ts + 1)) c) (laminar_listing (at + (length ts + 1)) c))
      (omega arith) (omega arith) (omega arith) (omega arith) (omega arith) (simp length-append (omega arith))
  laminar at (G.star_part p) = root (laminar (1 + at) p) (omega arith) (omega arith) (omega arith) (omega arith) (omega arith)
  laminar at (G.slice {ts = ts} p q) =
      root2 (laminar_perhaps at p) (laminar_perhaps (1 + (at + length ts)) q) (omega arith) (omega arith) (omega arith) (omega arith)
      (omega arith) (simp length-append (omega arith))
  laminar at (G.slice_step {ts = ts} {us = us} p q r) =
      root3 (laminar_perhaps at p) (laminar_perhaps (1 + (at + length ts)) q) (laminar_perhaps (2 + (at + (length ts + length us))) r)
      (omega arith) (omega arith) (omega arith) (omega arith) (omega arith) (omega arith) (simp length-append (omega arith))

  pub laminar_yields : {ts : List Terminal} {e : Expr} (at : ℕ) (d : G.Yields ts e)
      → Laminar at (at + length ts) (yield_places at d)
  laminar_yields at (G.yield_from p) = wide (laminar (1 + at) p) (omega arith) (omega arith)
  laminar_yields at (G.yield_some p) = laminar_perhaps at p

  pub laminar_perhaps : {l : Level} {ts : List Terminal} {e : OptionalExpr} (at : ℕ) (d : G.Perhaps l ts e)
      → Laminar at (at + length ts) (perhaps_places at d)
  laminar_perhaps at G.nothing = nothing (omega arith)
  laminar_perhaps at (G.something p) = laminar at p

  pub laminar_suffix : {s : Option Exact} {ts : List Terminal} {e : OptionalExpr} (at : ℕ) (d : G.Suffix s ts e)
      → Laminar at (at + length ts) (suffix_places at d)
  laminar_suffix at G.no_suffix = nothing (omega arith)
  laminar_suffix at (G.suffix p) = wide (laminar (1 + at) p) (omega arith) (omega arith)

  pub laminar_chain : {o : BoolOperator} {ts : List Terminal} {es : List Expr} (at : ℕ) (d : G.Chain o ts es)
      → Laminar at (at + length ts) (chain_places at d)
  laminar_chain at (G.last_link p) = laminar at p
  laminar_chain at (G.link {ts = ts} p c) =
      wide (seq (laminar at p) (laminar_chain (1 + (at + length ts)) c) (omega arith)) (omega arith) (simp length-append (omega arith))

  pub laminar_compares : {ts : List Terminal} {os : List Comparison} {es : List Expr} (at : ℕ) (d : G.Compares ts os es)
      → Laminar at (at + length ts) (compares_places at d)
  laminar_compares at (G.last_compare {ss = ss} o p) = wide (laminar (at + length ss) p) (omega arith) (simp length-append (omega arith))
  laminar_compares at (G.compares {ss = ss} {ts = ts} o p c) =
      wide (seq (laminar (at + length ss) p) (laminar_compares (at + (length ss + length ts)) c) (omega arith)) (omega arith)
      (simp length-append (omega arith))

  pub laminar_literals : {u : Bool} {ts : List Terminal} {ps : List StringPart} (row : Stretch) (at : ℕ) (d : G.Literals u ts ps)
      → row.first ≤ at → at + length ts ≤ row.following
      → InRow row at (at + length ts) (together (literals_places row at d))
  laminar_literals row at G.no_literal g h = row_none (omega arith) g h
  laminar_literals row at (G.text_literal c) g h =
      row_widen (laminar_literals row (1 + at) c (omega arith) (omega arith)) (omega arith) (omega arith) g h
  laminar_literals row at (G.formatted_literal {ts = ts} p c) g h =
      let k = simp length-append at h in
      row_together (formatted_places row (1 + at) p) (literals_places row (2 + (at + length ts)) c)
      (row_widen (row_seq (laminar_formatted row (1 + at) p (omega arith) (omega arith))
      (laminar_literals row (2 + (at + length ts)) c (omega arith) (omega arith)) (omega arith)) (omega arith)
      (simp length-append (omega arith)) g h)

  pub laminar_formatted : {u : Bool} {ts : List Terminal} {ps : List StringPart} (row : Stretch) (at : ℕ) (d : G.Formatted u ts ps)
      → row.first ≤ at → at + length ts ≤ row.following
      → InRow row at (at + length ts) (together (formatted_places row at d))
  laminar_formatted row at G.no_part g h = row_none (omega arith) g h
  laminar_formatted row at (G.text_part c) g h =
      row_widen (laminar_formatted row (1 + at) c (omega arith) (omega arith)) (omega arith) (omega arith) g h
  laminar_formatted row at (G.field_part {ts = ts} {us = us} p s c) g h =
      let k = simp length-append at h in
      row_widen (row_seq (row_seq (in_row (laminar (1 + at) p) (omega arith) (omega arith))
      (laminar_spec row (2 + (at + length ts)) s (omega arith) (omega arith)) (omega arith))
      (laminar_formatted row (3 + (at + (length ts + length us))) c (omega arith) (omega arith)) (omega arith)) (omega arith)
      (simp length-append (omega arith)) g h

  pub laminar_spec : {u : Bool} {ts : List Terminal} {e : OptionalExpr} (row : Stretch) (at : ℕ) (d : G.Spec u ts e) → row.first ≤ at
      → at + length ts ≤ row.following
      → InRow row at (at + length ts) (spec_places row at d)
  laminar_spec row at G.no_spec g h = row_none (omega arith) g h
  laminar_spec row at (G.spec {ps = ps} c) g h =
      strings_laminar (merged ps) (formatted_places row (1 + at) c)
      (row_widen (laminar_formatted row (1 + at) c (omega arith) (omega arith)) (omega arith) (omega arith) g h)

  pub laminar_listing : {i : Item} {ts : List Terminal} {es : List Entry} (at : ℕ) (d : G.Listing i ts es)
      → Laminar at (at + length ts) (flat (listing_places at d))
  laminar_listing at G.no_item = nothing (omega arith)
  laminar_listing at (G.last_item p) = flat_one (piece_places at p) (laminar_piece at p)
  laminar_listing at (G.item {ts = ts} p c) =
      wide (seq (laminar_piece at p) (laminar_listing (at + (length ts + 1)) c) (omega arith)) (omega arith)
      (simp length-append (omega arith))

  pub laminar_piece : {i : Item} {ts : List Terminal} {e : Entry} (at : ℕ) (d : G.Piece i ts e)
      → Laminar at (at + length ts) (all_of (piece_places at d))
  laminar_piece at (G.single p) = laminar at p
  laminar_piece at (G.pair {ts = ts} p q) =
      wide (seq (laminar at p) (laminar (1 + (at + length ts)) q) (omega arith)) (omega arith) (simp length-append (omega arith))
  laminar_piece at (G.pairs_of p) = root (laminar (1 + at) p) (omega arith) (omega arith) (omega arith) (omega arith) (omega arith)
  laminar_piece at (G.argument p) = laminar at p
  laminar_piece at (G.star_argument p) = root (laminar (1 + at) p) (omega arith) (omega arith) (omega arith) (omega arith) (omega arith)
  laminar_piece at (G.keyword_argument p) =
      root (laminar (2 + at) p) (omega arith) (omega arith) (omega arith) (omega arith) (omega arith)
  laminar_piece at (G.double_argument p) = root (laminar (1 + at) p) (omega arith) (omega arith) (omega arith) (omega arith) (omega arith)
  laminar_piece at (G.parameter {ts = ts} a d) =
      wide (seq (root_own (laminar_suffix (1 + at) a) (omega arith) (omega arith) (omega arith)) (laminar_suffix (1 + (at + length ts)) d)
      (omega arith)) (omega arith) (simp length-append (omega arith))
  laminar_piece at G.slash = nothing (omega arith)
  laminar_piece at G.bare_star = nothing (omega arith)
  laminar_piece at (G.star_parameter a) =
      root (laminar_suffix (2 + at) a) (omega arith) (omega arith) (omega arith) (omega arith) (omega arith)
  laminar_piece at (G.star_annotation p) =
      root_twice (laminar (4 + at) p) (omega arith) (omega arith) (omega arith) (omega arith) (omega arith) (omega arith)
      (omega arith) (omega arith)
  laminar_piece at (G.double_parameter a) =
      root (laminar_suffix (2 + at) a) (omega arith) (omega arith) (omega arith) (omega arith) (omega arith)

  pub laminar_comps : {ts : List Terminal} {gs : List Comprehension} (at : ℕ) (d : G.Comps ts gs)
      → Laminar at (at + length ts) (comps_places at d)
  laminar_comps at (G.one_comp p) = laminar_comp at p
  laminar_comps at (G.comps {ts = ts} p c) =
      wide (seq (laminar_comp at p) (laminar_comps (at + length ts) c) (omega arith)) (omega arith) (simp length-append (omega arith))

  pub laminar_comp : {ts : List Terminal} {g : Comprehension} (at : ℕ) (d : G.Comp ts g)
      → Laminar at (at + length ts) (comp_places at d)
  laminar_comp at (G.for_in p) = wide (laminar_for (1 + at) p) (omega arith) (omega arith)
  laminar_comp at (G.async_for_in p) = wide (laminar_for (2 + at) p) (omega arith) (omega arith)

  pub laminar_for : {b : Bool} {ts : List Terminal} {g : Comprehension} (at : ℕ) (d : G.ForIn b ts g)
      → Laminar at (at + length ts) (for_places at d)
  laminar_for at (G.target_in {ts = ts} {us = us} p h q c) =
      wide (seq (laminar at p) (seq (laminar (1 + (at + length ts)) q) (laminar_ifs (1 + (at + (length ts + length us))) c) (omega arith))
      (omega arith)) (omega arith) (simp length-append (omega arith))

  pub laminar_ifs : {ts : List Terminal} {es : List Expr} (at : ℕ) (d : G.Ifs ts es)
      → Laminar at (at + length ts) (ifs_places at d)
  laminar_ifs at G.no_if = nothing (omega arith)
  laminar_ifs at (G.if_one {ts = ts} p c) =
      wide (seq (laminar (1 + at) p) (laminar_ifs (1 + (at + length ts)) c) (omega arith)) (omega arith) (simp length-append (omega arith))
