-- Tokens: the places of an expression begin and end at terminals of it.
--
-- On: Within.
use Rattle.std.proofs.Common.{◌≡◌, ℕ, ◌+◌, ◌<◌, ◌≤◌, arith, List, [], ◌∷◌, ◌++◌, Option, Bool, true, length, length-append}
use Rattle.std.proofs.lemmas.List.{length-map}
use Rattle.pylex_lexeme.specs.declared.kinds.Exact.{Exact}
use Rattle.pytree_node.specs.declared.operators.BoolOperator.{BoolOperator}
use Rattle.pytree_node.specs.declared.operators.Comparison.{Comparison}
use Rattle.pytree_node.specs.Trees.{Expr, OptionalExpr, Comprehension}
use Rattle.pytoken.specs.Terminals.{Terminal, Literal}
use Rattle.pygrammar.specs.declared.levels.Level.{Level}
use Rattle.pygrammar.specs.FormattedStrings.{StringPart, has_formatted, merged}
use Rattle.pygrammar.specs.Entries.{Item, Entry}
use Rattle.pygrammar.specs.Grammar as G
use Rattle.pyplaces.specs.Stretches.{Stretch, stretch}
use Rattle.pyplaces.specs.ExpressionPlaces.{places, yield_places, perhaps_places, suffix_places, chain_places, compares_places}
use Rattle.pyplaces.specs.ExpressionPlaces.{literals_places, formatted_places, spec_places, listing_places, piece_places, comps_places}
use Rattle.pyplaces.specs.ExpressionPlaces.{comp_places, for_places, ifs_places}
use Rattle.pyplaces.specs.Laws.{IsWithin}
use Rattle.pyplaces.proofs.Laws.Within.{Within, none, more, own, is_within, ◌⊕◌, EntryWithin, single, paired, spread, doubled, keyed, plain}
use Rattle.pyplaces.proofs.Laws.Within.{slashed, bare, gathered, collected, EntriesWithin, no_entry, an_entry, singles_within, keys_within}
use Rattle.pyplaces.proofs.Laws.Within.{values_within, positional_within, keywords_within, arranged_within, EachWithin, no_field, a_field}
use Rattle.pyplaces.proofs.Laws.Within.{each_both, strings_within}

pub formatted_some : (ts : List Terminal) → has_formatted ts ≡ true → 0 < length ts
formatted_some [] h = absurd (cc)
formatted_some (t ∷ ts) h = omega arith

pub front_some : (ts us : List Terminal) (t : Terminal) → 0 < length (ts ++ (t ∷ us))
front_some ts us t = omega (arith, length-append ts (t ∷ us))

-- an expression has a terminal
pub some_terminal : {l : Level} {ts : List Terminal} {e : Expr} → G.Derives l ts e → 0 < length ts
some_terminal (G.next p) = some_terminal p
some_terminal (G.yields p) = omega arith
some_terminal (G.star_tuple {ts = ts} p c) = front_some ts _ _
some_terminal (G.star_item p) = omega arith
some_terminal (G.named p) = omega arith
some_terminal (G.lambda c h p) = omega arith
some_terminal (G.if_else {ts = ts} p q r) = front_some ts _ _
some_terminal (G.chain {ts = ts} p c) = front_some ts _ _
some_terminal (G.unary h p) = omega arith
some_terminal (G.compare {ts = ts} {us = us} p c) = let n = some_terminal p in omega (arith, length-append ts us)
some_terminal (G.binary {ts = ts} t h p q) = front_some ts _ _
some_terminal (G.power {ts = ts} p q) = front_some ts _ _
some_terminal (G.await p) = omega arith
some_terminal (G.attribute {ts = ts} x p) = front_some ts _ _
some_terminal (G.call {ts = ts} p c h) = front_some ts _ _
some_terminal (G.call_generator {ts = ts} p q c) = front_some ts _ _
some_terminal (G.subscript {ts = ts} p q) = front_some ts _ _
some_terminal G.name = omega arith
some_terminal (G.constant h) = omega arith
some_terminal G.number = omega arith
some_terminal (G.strings vs h) = omega arith
some_terminal (G.joined_string {ts = ts} c b h) = formatted_some ts h
some_terminal (G.group p) = omega arith
some_terminal (G.yield_group p) = omega arith
some_terminal G.empty_tuple = omega arith
some_terminal (G.tuple p c) = omega arith
some_terminal (G.generator_group p c) = omega arith
some_terminal (G.list c) = omega arith
some_terminal (G.list_comp p c) = omega arith
some_terminal (G.dict c) = omega arith
some_terminal (G.dict_comp p q c) = omega arith
some_terminal (G.set c) = omega arith
some_terminal (G.set_comp p c) = omega arith
some_terminal (G.subject_tuple {ts = ts} p c) = front_some ts _ _
some_terminal (G.star_elem p) = omega arith
some_terminal (G.star_slices p) = omega arith
some_terminal (G.parts {ts = ts} p c) = front_some ts _ _
some_terminal (G.star_part p) = omega arith
some_terminal (G.slice {ts = ts} p q) = front_some ts _ _
some_terminal (G.slice_step {ts = ts} p q r) = front_some ts _ _

mutual
  pub tokens : {lo hi : ℕ} {l : Level} {ts : List Terminal} {e : Expr} (at : ℕ) (d : G.Derives l ts e) → lo ≤ at → at + length ts ≤ hi
      → Within lo hi (places at d)
  tokens at (G.next p) g h = tokens at p g h
  tokens at (G.yields p) g h = tokens_yields (1 + at) p (omega arith) (omega arith) ⊕ own (omega arith) (omega arith) (omega arith)
  tokens at (G.star_tuple {ts = ts} p c) g h =
      let k = simp length-append at h in
      tokens at p (omega arith) (omega arith) ⊕ (singles_within (tokens_listing (at + (length ts + 1)) c (omega arith) (omega arith)) ⊕ own
      (omega arith) (omega arith) (omega arith))
  tokens at (G.star_item p) g h = tokens (1 + at) p (omega arith) (omega arith) ⊕ own (omega arith) (omega arith) (omega arith)
  tokens at (G.named p) g h =
      own (omega arith) (omega arith) (omega arith) ⊕ (tokens (2 + at) p (omega arith) (omega arith) ⊕ own (omega arith)
      (omega arith) (omega arith))
  tokens at (G.lambda {ts = ts} c f p) g h =
      let k = simp length-append at h in
      arranged_within (tokens_listing (1 + at) c (omega arith) (omega arith)) ⊕ (tokens (2 + (at + length ts)) p (omega arith) (omega arith)
      ⊕ own (omega arith) (omega arith) (omega arith))
  tokens at (G.if_else {ts = ts} {us = us} p q r) g h =
      let k = simp length-append at h in
      tokens (1 + (at + length ts)) q (omega arith) (omega arith) ⊕
      (tokens at p (omega arith) (omega arith) ⊕ (tokens (2 + (at + (length ts + length us))) r (omega arith) (omega arith) ⊕ own
      (omega arith) (omega arith) (omega arith)))
  tokens at (G.chain {ts = ts} p c) g h =
      let k = simp length-append at h in
      tokens at p (omega arith) (omega arith) ⊕ (tokens_chain (1 + (at + length ts)) c (omega arith) (omega arith) ⊕ own (omega arith)
      (omega arith) (omega arith))
  tokens at (G.unary f p) g h = tokens (1 + at) p (omega arith) (omega arith) ⊕ own (omega arith) (omega arith) (omega arith)
  tokens at (G.compare {ts = ts} p c) g h =
      let k = simp length-append at h in let some = some_terminal p in
      tokens at p (omega arith) (omega arith) ⊕ (tokens_compares (at + length ts) c (omega arith) (omega arith) ⊕ own (omega arith)
      (omega arith) (omega arith))
  tokens at (G.binary {ts = ts} t f p q) g h =
      let k = simp length-append at h in
      tokens at p (omega arith) (omega arith) ⊕ (tokens (1 + (at + length ts)) q (omega arith) (omega arith) ⊕ own (omega arith)
      (omega arith) (omega arith))
  tokens at (G.power {ts = ts} p q) g h =
      let k = simp length-append at h in
      tokens at p (omega arith) (omega arith) ⊕ (tokens (1 + (at + length ts)) q (omega arith) (omega arith) ⊕ own (omega arith)
      (omega arith) (omega arith))
  tokens at (G.await p) g h = tokens (1 + at) p (omega arith) (omega arith) ⊕ own (omega arith) (omega arith) (omega arith)
  tokens at (G.attribute x p) g h =
      let k = simp length-append at h in
      tokens at p (omega arith) (omega arith) ⊕ own (omega arith) (omega arith) (omega arith)
  tokens at (G.call {ts = ts} p c f) g h =
      let k = simp length-append at h in
      let es = tokens_listing (1 + (at + length ts)) c (omega arith) (omega arith) in
      tokens at p (omega arith) (omega arith) ⊕
      (positional_within es ⊕ (keywords_within es ⊕ own (omega arith) (omega arith) (omega arith)))
  tokens at (G.call_generator {ts = ts} {us = us} p q c) g h =
      let k = simp length-append at h in
      tokens at p (omega arith) (omega arith) ⊕ (tokens (1 + (at + length ts)) q (omega arith) (omega arith) ⊕
      (tokens_comps (1 + (at + (length ts + length us))) c (omega arith) (omega arith) ⊕
      (own (omega arith) (omega arith) (omega arith) ⊕ own (omega arith) (omega arith) (omega arith))))
  tokens at (G.subscript {ts = ts} p q) g h =
      let k = simp length-append at h in
      tokens at p (omega arith) (omega arith) ⊕ (tokens (1 + (at + length ts)) q (omega arith) (omega arith) ⊕ own (omega arith)
      (omega arith) (omega arith))
  tokens at G.name g h = own (omega arith) (omega arith) (omega arith)
  tokens at (G.constant f) g h = own (omega arith) (omega arith) (omega arith)
  tokens at G.number g h = own (omega arith) (omega arith) (omega arith)
  tokens at (G.strings vs f) g h = let k = length-map vs Literal in own (omega arith) (omega arith) (omega arith)
  tokens {lo} {hi} at (G.joined_string {ts = ts} {ps = ps} c b f) g h =
      let some : 0 < length ts = formatted_some ts f in
      let row : IsWithin lo hi (stretch at (at + length ts)) = is_within (omega arith) (omega arith) (omega arith) in
      strings_within (merged ps) row (tokens_literals row at c (omega arith) (omega arith)) ⊕ more row none
  tokens at (G.group p) g h = let k = simp length-append at h in tokens (1 + at) p (omega arith) (omega arith)
  tokens at (G.yield_group p) g h =
      let k = simp length-append at h in
      tokens_yields (2 + at) p (omega arith) (omega arith) ⊕ own (omega arith) (omega arith) (omega arith)
  tokens at G.empty_tuple g h = own (omega arith) (omega arith) (omega arith)
  tokens at (G.tuple {ts = ts} p c) g h =
      let k = simp length-append at h in
      tokens (1 + at) p (omega arith) (omega arith) ⊕ (singles_within (tokens_listing (2 + (at + length ts)) c (omega arith) (omega arith))
      ⊕ own (omega arith) (omega arith) (omega arith))
  tokens at (G.generator_group {ts = ts} p c) g h =
      let k = simp length-append at h in
      tokens (1 + at) p (omega arith) (omega arith) ⊕ (tokens_comps (1 + (at + length ts)) c (omega arith) (omega arith) ⊕ own (omega arith)
      (omega arith) (omega arith))
  tokens at (G.list c) g h =
      let k = simp length-append at h in
      singles_within (tokens_listing (1 + at) c (omega arith) (omega arith)) ⊕ own (omega arith) (omega arith) (omega arith)
  tokens at (G.list_comp {ts = ts} p c) g h =
      let k = simp length-append at h in
      tokens (1 + at) p (omega arith) (omega arith) ⊕ (tokens_comps (1 + (at + length ts)) c (omega arith) (omega arith) ⊕ own (omega arith)
      (omega arith) (omega arith))
  tokens at (G.dict c) g h =
      let k = simp length-append at h in
      let es = tokens_listing (1 + at) c (omega arith) (omega arith) in
      keys_within es ⊕ (values_within es ⊕ own (omega arith) (omega arith) (omega arith))
  tokens at (G.dict_comp {ts = ts} {us = us} p q c) g h =
      let k = simp length-append at h in
      tokens (1 + at) p (omega arith) (omega arith) ⊕ (tokens (2 + (at + length ts)) q (omega arith) (omega arith) ⊕
      (tokens_comps (2 + (at + (length ts + length us))) c (omega arith) (omega arith) ⊕ own (omega arith) (omega arith) (omega arith)))
  tokens at (G.set c) g h =
      let k = simp length-append at h in
      singles_within (tokens_listing (1 + at) c (omega arith) (omega arith)) ⊕ own (omega arith) (omega arith) (omega arith)
  tokens at (G.set_comp {ts = ts} p c) g h =
      let k = simp length-append at h in
      tokens (1 + at) p (omega arith) (omega arith) ⊕ (tokens_comps (1 + (at + length ts)) c (omega arith) (omega arith) ⊕ own (omega arith)
      (omega arith) (omega arith))
  tokens at (G.subject_tuple {ts = ts} p c) g h =
      let k = simp length-append at h in
      tokens at p (omega arith) (omega arith) ⊕ (singles_within (tokens_listing (at + (length ts + 1)) c (omega arith) (omega arith)) ⊕ own
      (omega arith) (omega arith) (omega arith))
  tokens at (G.star_elem p) g h = tokens (1 + at) p (omega arith) (omega arith) ⊕ own (omega arith) (omega arith) (omega arith)
  tokens at (G.star_slices p) g h =
      tokens (1 + at) p (omega arith) (omega arith) ⊕ (own (omega arith) (omega arith) (omega arith) ⊕ own (omega arith)
      (omega arith) (omega arith))
  tokens at (G.parts {ts = ts} p c) g h =
      let k = simp length-append at h in
      tokens at p (omega arith) (omega arith) ⊕ (singles_within (tokens_listing (at + (length ts + 1)) c (omega arith) (omega arith)) ⊕ own
      (omega arith) (omega arith) (omega arith))
  tokens at (G.star_part p) g h = tokens (1 + at) p (omega arith) (omega arith) ⊕ own (omega arith) (omega arith) (omega arith)
  tokens at (G.slice {ts = ts} p q) g h =
      let k = simp length-append at h in
      tokens_perhaps at p (omega arith) (omega arith) ⊕ (tokens_perhaps (1 + (at + length ts)) q (omega arith) (omega arith) ⊕ own
      (omega arith) (omega arith) (omega arith))
  tokens at (G.slice_step {ts = ts} {us = us} p q r) g h =
      let k = simp length-append at h in
      tokens_perhaps at p (omega arith) (omega arith) ⊕ (tokens_perhaps (1 + (at + length ts)) q (omega arith) (omega arith) ⊕
      (tokens_perhaps (2 + (at + (length ts + length us))) r (omega arith) (omega arith) ⊕ own (omega arith)
      (omega arith) (omega arith)))

  pub tokens_yields : {lo hi : ℕ} {ts : List Terminal} {e : Expr} (at : ℕ) (d : G.Yields ts e) → lo ≤ at → at + length ts ≤ hi
      → Within lo hi (yield_places at d)
  tokens_yields at (G.yield_from p) g h = tokens (1 + at) p (omega arith) (omega arith)
  tokens_yields at (G.yield_some p) g h = tokens_perhaps at p g h

  pub tokens_perhaps : {lo hi : ℕ} {l : Level} {ts : List Terminal} {e : OptionalExpr} (at : ℕ) (d : G.Perhaps l ts e) → lo ≤ at
      → at + length ts ≤ hi → Within lo hi (perhaps_places at d)
  tokens_perhaps at G.nothing g h = none
  tokens_perhaps at (G.something p) g h = tokens at p g h

  pub tokens_suffix : {lo hi : ℕ} {s : Option Exact} {ts : List Terminal} {e : OptionalExpr} (at : ℕ) (d : G.Suffix s ts e) → lo ≤ at
      → at + length ts ≤ hi → Within lo hi (suffix_places at d)
  tokens_suffix at G.no_suffix g h = none
  tokens_suffix at (G.suffix p) g h = tokens (1 + at) p (omega arith) (omega arith)

  pub tokens_chain : {lo hi : ℕ} {o : BoolOperator} {ts : List Terminal} {es : List Expr} (at : ℕ) (d : G.Chain o ts es) → lo ≤ at
      → at + length ts ≤ hi → Within lo hi (chain_places at d)
  tokens_chain at (G.last_link p) g h = tokens at p g h
  tokens_chain at (G.link {ts = ts} p c) g h =
      let k = simp length-append at h in
      tokens at p (omega arith) (omega arith) ⊕ tokens_chain (1 + (at + length ts)) c (omega arith) (omega arith)

  pub tokens_compares : {lo hi : ℕ} {ts : List Terminal} {os : List Comparison} {es : List Expr} (at : ℕ) (d : G.Compares ts os es)
      → lo ≤ at → at + length ts ≤ hi → Within lo hi (compares_places at d)
  tokens_compares at (G.last_compare {ss = ss} o p) g h =
      let k = simp length-append at h in
      tokens (at + length ss) p (omega arith) (omega arith)
  tokens_compares at (G.compares {ss = ss} {ts = ts} o p c) g h =
      let k = simp length-append at h in
      tokens (at + length ss) p (omega arith) (omega arith) ⊕ tokens_compares (at + (length ss + length ts)) c (omega arith) (omega arith)

  pub tokens_literals : {lo hi : ℕ} {row : Stretch} {u : Bool} {ts : List Terminal} {ps : List StringPart} → IsWithin lo hi row
      → (at : ℕ) (d : G.Literals u ts ps) → lo ≤ at → at + length ts ≤ hi → EachWithin lo hi (literals_places row at d)
  tokens_literals r at G.no_literal g h = no_field
  tokens_literals r at (G.text_literal c) g h = tokens_literals r (1 + at) c (omega arith) (omega arith)
  tokens_literals r at (G.formatted_literal {ts = ts} p c) g h =
      let k = simp length-append at h in
      each_both (tokens_formatted r (1 + at) p (omega arith) (omega arith))
      (tokens_literals r (2 + (at + length ts)) c (omega arith) (omega arith))

  pub tokens_formatted : {lo hi : ℕ} {row : Stretch} {u : Bool} {ts : List Terminal} {ps : List StringPart} → IsWithin lo hi row
      → (at : ℕ) (d : G.Formatted u ts ps) → lo ≤ at → at + length ts ≤ hi → EachWithin lo hi (formatted_places row at d)
  tokens_formatted r at G.no_part g h = no_field
  tokens_formatted r at (G.text_part c) g h = tokens_formatted r (1 + at) c (omega arith) (omega arith)
  tokens_formatted r at (G.field_part {ts = ts} {us = us} p s c) g h =
      let k = simp length-append at h in
      a_field (tokens (1 + at) p (omega arith) (omega arith) ⊕ tokens_spec r (2 + (at + length ts)) s (omega arith) (omega arith))
      (tokens_formatted r (3 + (at + (length ts + length us))) c (omega arith) (omega arith))

  pub tokens_spec : {lo hi : ℕ} {row : Stretch} {u : Bool} {ts : List Terminal} {e : OptionalExpr} → IsWithin lo hi row
      → (at : ℕ) (d : G.Spec u ts e) → lo ≤ at → at + length ts ≤ hi → Within lo hi (spec_places row at d)
  tokens_spec r at G.no_spec g h = none
  tokens_spec r at (G.spec {ps = ps} c) g h =
      strings_within (merged ps) r (tokens_formatted r (1 + at) c (omega arith) (omega arith)) ⊕ more r none

  pub tokens_listing : {lo hi : ℕ} {i : Item} {ts : List Terminal} {es : List Entry} (at : ℕ) (d : G.Listing i ts es) → lo ≤ at
      → at + length ts ≤ hi → EntriesWithin lo hi (listing_places at d)
  tokens_listing at G.no_item g h = no_entry
  tokens_listing at (G.last_item p) g h = an_entry (tokens_piece at p g h) no_entry
  tokens_listing at (G.item {ts = ts} p c) g h =
      let k = simp length-append at h in
      an_entry (tokens_piece at p (omega arith) (omega arith)) (tokens_listing (at + (length ts + 1)) c (omega arith) (omega arith))

  pub tokens_piece : {lo hi : ℕ} {i : Item} {ts : List Terminal} {e : Entry} (at : ℕ) (d : G.Piece i ts e) → lo ≤ at → at + length ts ≤ hi
      → EntryWithin lo hi (piece_places at d)
  tokens_piece at (G.single p) g h = single (tokens at p g h)
  tokens_piece at (G.pair {ts = ts} p q) g h =
      let k = simp length-append at h in
      paired (tokens at p (omega arith) (omega arith)) (tokens (1 + (at + length ts)) q (omega arith) (omega arith))
  tokens_piece at (G.pairs_of p) g h =
      doubled (tokens (1 + at) p (omega arith) (omega arith)) (is_within (omega arith) (omega arith) (omega arith))
  tokens_piece at (G.argument p) g h = single (tokens at p g h)
  tokens_piece at (G.star_argument p) g h =
      spread (tokens (1 + at) p (omega arith) (omega arith)) (is_within (omega arith) (omega arith) (omega arith))
  tokens_piece at (G.keyword_argument p) g h =
      keyed (tokens (2 + at) p (omega arith) (omega arith)) (is_within (omega arith) (omega arith) (omega arith))
  tokens_piece at (G.double_argument p) g h =
      doubled (tokens (1 + at) p (omega arith) (omega arith)) (is_within (omega arith) (omega arith) (omega arith))
  tokens_piece at (G.parameter {ts = ts} a d) g h =
      let k = simp length-append at h in
      plain (tokens_suffix (1 + at) a (omega arith) (omega arith) ⊕ own (omega arith) (omega arith) (omega arith))
      (tokens_suffix (1 + (at + length ts)) d (omega arith) (omega arith))
  tokens_piece at G.slash g h = slashed
  tokens_piece at G.bare_star g h = bare
  tokens_piece at (G.star_parameter a) g h =
      gathered (tokens_suffix (2 + at) a (omega arith) (omega arith) ⊕ own (omega arith) (omega arith) (omega arith))
  tokens_piece at (G.star_annotation p) g h =
      gathered ((tokens (4 + at) p (omega arith) (omega arith)) ⊕ (own (omega arith) (omega arith) (omega arith) ⊕ own (omega arith)
      (omega arith) (omega arith)))
  tokens_piece at (G.double_parameter a) g h =
      collected (tokens_suffix (2 + at) a (omega arith) (omega arith) ⊕ own (omega arith) (omega arith) (omega arith))

  pub tokens_comps : {lo hi : ℕ} {ts : List Terminal} {gs : List Comprehension} (at : ℕ) (d : G.Comps ts gs) → lo ≤ at → at + length ts ≤ hi
      → Within lo hi (comps_places at d)
  tokens_comps at (G.one_comp p) g h = tokens_comp at p g h
  tokens_comps at (G.comps {ts = ts} p c) g h =
      let k = simp length-append at h in
      tokens_comp at p (omega arith) (omega arith) ⊕ tokens_comps (at + length ts) c (omega arith) (omega arith)

  pub tokens_comp : {lo hi : ℕ} {ts : List Terminal} {g : Comprehension} (at : ℕ) (d : G.Comp ts g) → lo ≤ at → at + length ts ≤ hi
      → Within lo hi (comp_places at d)
  tokens_comp at (G.for_in p) g h = tokens_for (1 + at) p (omega arith) (omega arith)
  tokens_comp at (G.async_for_in p) g h = tokens_for (2 + at) p (omega arith) (omega arith)

  pub tokens_for : {lo hi : ℕ} {b : Bool} {ts : List Terminal} {g : Comprehension} (at : ℕ) (d : G.ForIn b ts g) → lo ≤ at
      → at + length ts ≤ hi → Within lo hi (for_places at d)
  tokens_for at (G.target_in {ts = ts} {us = us} p f q c) g h =
      let k = simp length-append at h in
      tokens at p (omega arith) (omega arith) ⊕ (tokens (1 + (at + length ts)) q (omega arith) (omega arith) ⊕ tokens_ifs
      (1 + (at + (length ts + length us))) c (omega arith) (omega arith))

  pub tokens_ifs : {lo hi : ℕ} {ts : List Terminal} {es : List Expr} (at : ℕ) (d : G.Ifs ts es) → lo ≤ at → at + length ts ≤ hi
      → Within lo hi (ifs_places at d)
  tokens_ifs at G.no_if g h = none
  tokens_ifs at (G.if_one {ts = ts} p c) g h =
      let k = simp length-append at h in
      tokens (1 + at) p (omega arith) (omega arith) ⊕ tokens_ifs (1 + (at + length ts)) c (omega arith) (omega arith)
