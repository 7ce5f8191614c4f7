-- The places of an expression: by recursion on the derivation of its terminals, in the order in which the dump writes the nodes. Those of a
-- node's
-- fields come first, field by field, then its own: the terminals of the alternative that gave it.
use Rattle.std.specs.Prelude.{ℕ, ◌+◌, Bool, Option, List, [], ◌∷◌, ◌++◌, length}
use Rattle.pylex_lexeme.specs.declared.kinds.Exact.{Exact}
use Rattle.pytree_node.specs.declared.operators.BoolOperator.{BoolOperator}
use Rattle.pytree_node.specs.declared.operators.Comparison.{Comparison}
use Rattle.pygrammar.specs.declared.levels.Level.{Level}
use Rattle.pytree_node.specs.Trees.{Expr, OptionalExpr, Comprehension}
use Rattle.pytoken.specs.Terminals.{Terminal}
use Rattle.pygrammar.specs.FormattedStrings.{StringPart, Text, Field, merged}
use Rattle.pygrammar.specs.Entries.{Item, Entry}
use Rattle.pygrammar.specs.Grammar as G
use Rattle.pyplaces.specs.Stretches.{Stretch, stretch, over}
use Rattle.pyplaces.specs.EntryPlaces as E
use Rattle.pyplaces.specs.EntryPlaces.{EntryPlaces, arranged, singles}

-- The values of a JoinedStr: texts and fields stand where the whole row of literals does; the places within a field are given for each.
abbrev pub string_places : Stretch → List StringPart → List (List Stretch) → List Stretch
string_places row [] fields = []
string_places row (Text t ∷ ps) fields = row ∷ string_places row ps fields
string_places row (Field e ∷ ps) [] = []
string_places row (Field e ∷ ps) (f ∷ fields) = f ++ (row ∷ string_places row ps fields)

-- `at` is the number of the line's terminals before those of the derivation
abbrev mutual
  pub places : {l : Level} {ts : List Terminal} {e : Expr} → ℕ → G.Derives l ts e → List Stretch
  places at (G.next p) = places at p
  places at (G.yields {ts = ts} p) = yield_places (1 + at) p ++ over at (1 + length ts)
  places at (G.star_tuple {ts = ts} {us = us} p c) =
      places at p ++ (singles (listing_places (at + (length ts + 1)) c) ++ over at (length ts + (1 + length us)))
  places at (G.star_item {ts = ts} p) = places (1 + at) p ++ over at (1 + length ts)
  places at (G.named {ts = ts} p) = over at 1 ++ (places (2 + at) p ++ over at (2 + length ts))
  places at (G.lambda {ts = ts} {us = us} c h p) =
      arranged (listing_places (1 + at) c) ++ (places (2 + (at + length ts)) p ++ over at (2 + (length ts + length us)))
  -- test, body, orelse
  places at (G.if_else {ts = ts} {us = us} {vs = vs} p q r) =
      places (1 + (at + length ts)) q ++
      (places at p ++ (places (2 + (at + (length ts + length us))) r ++ over at (2 + (length ts + (length us + length vs)))))
  places at (G.chain {ts = ts} {us = us} p c) =
      places at p ++ (chain_places (1 + (at + length ts)) c ++ over at (1 + (length ts + length us)))
  places at (G.unary {ts = ts} h p) = places (1 + at) p ++ over at (1 + length ts)
  places at (G.compare {ts = ts} {us = us} p c) = places at p ++ (compares_places (at + length ts) c ++ over at (length ts + length us))
  places at (G.binary {ts = ts} {us = us} t h p q) =
      places at p ++ (places (1 + (at + length ts)) q ++ over at (1 + (length ts + length us)))
  places at (G.power {ts = ts} {us = us} p q) = places at p ++ (places (1 + (at + length ts)) q ++ over at (1 + (length ts + length us)))
  places at (G.await {ts = ts} p) = places (1 + at) p ++ over at (1 + length ts)
  places at (G.attribute {ts = ts} x p) = places at p ++ over at (2 + length ts)
  places at (G.call {ts = ts} {us = us} p c h) =
      let es = listing_places (1 + (at + length ts)) c in
      places at p ++ (E.positional es ++ (E.keywords es ++ over at (2 + (length ts + length us))))
  -- the generator has the brackets of the call
  places at (G.call_generator {ts = ts} {us = us} {vs = vs} p q c) =
      places at p ++ (places (1 + (at + length ts)) q ++ (comps_places (1 + (at + (length ts + length us))) c ++
      (over (at + length ts) (2 + (length us + length vs)) ++ over at (2 + (length ts + (length us + length vs))))))
  places at (G.subscript {ts = ts} {us = us} p q) =
      places at p ++ (places (1 + (at + length ts)) q ++ over at (2 + (length ts + length us)))
  places at G.name = over at 1
  places at (G.constant h) = over at 1
  places at G.number = over at 1
  places at (G.strings vs h) = over at (1 + length vs)
  places at (G.joined_string {ts = ts} {ps = ps} c b h) =
      let row = stretch at (at + length ts) in
      string_places row (merged ps) (literals_places row at c) ++ (row ∷ [])
  -- no node of its own
  places at (G.group p) = places (1 + at) p
  places at (G.yield_group {ts = ts} p) = yield_places (2 + at) p ++ over (1 + at) (1 + length ts)
  places at G.empty_tuple = over at 2
  places at (G.tuple {ts = ts} {us = us} p c) =
      places (1 + at) p ++ (singles (listing_places (2 + (at + length ts)) c) ++ over at (3 + (length ts + length us)))
  places at (G.generator_group {ts = ts} {us = us} p c) =
      places (1 + at) p ++ (comps_places (1 + (at + length ts)) c ++ over at (2 + (length ts + length us)))
  places at (G.list {ts = ts} c) = singles (listing_places (1 + at) c) ++ over at (2 + length ts)
  places at (G.list_comp {ts = ts} {us = us} p c) =
      places (1 + at) p ++ (comps_places (1 + (at + length ts)) c ++ over at (2 + (length ts + length us)))
  -- keys, values
  places at (G.dict {ts = ts} c) = let es = listing_places (1 + at) c in E.keys es ++ (E.values es ++ over at (2 + length ts))
  places at (G.dict_comp {ts = ts} {us = us} {vs = vs} p q c) =
      places (1 + at) p ++ (places (2 + (at + length ts)) q ++ (comps_places (2 + (at + (length ts + length us))) c ++
      over at (3 + (length ts + (length us + length vs)))))
  places at (G.set {ts = ts} c) = singles (listing_places (1 + at) c) ++ over at (2 + length ts)
  places at (G.set_comp {ts = ts} {us = us} p c) =
      places (1 + at) p ++ (comps_places (1 + (at + length ts)) c ++ over at (2 + (length ts + length us)))
  places at (G.subject_tuple {ts = ts} {us = us} p c) =
      places at p ++ (singles (listing_places (at + (length ts + 1)) c) ++ over at (length ts + (1 + length us)))
  places at (G.star_elem {ts = ts} p) = places (1 + at) p ++ over at (1 + length ts)
  -- the Starred, and the Tuple of it alone
  places at (G.star_slices {ts = ts} p) = places (1 + at) p ++ (over at (1 + length ts) ++ over at (1 + length ts))
  places at (G.parts {ts = ts} {us = us} p c) =
      places at p ++ (singles (listing_places (at + (length ts + 1)) c) ++ over at (length ts + (1 + length us)))
  places at (G.star_part {ts = ts} p) = places (1 + at) p ++ over at (1 + length ts)
  places at (G.slice {ts = ts} {us = us} p q) =
      perhaps_places at p ++ (perhaps_places (1 + (at + length ts)) q ++ over at (1 + (length ts + length us)))
  places at (G.slice_step {ts = ts} {us = us} {vs = vs} p q r) =
      perhaps_places at p ++ (perhaps_places (1 + (at + length ts)) q ++ (perhaps_places (2 + (at + (length ts + length us))) r ++
      over at (2 + (length ts + (length us + length vs)))))

  -- those of the fields of a Yield or a YieldFrom
  pub yield_places : {ts : List Terminal} {e : Expr} → ℕ → G.Yields ts e → List Stretch
  yield_places at (G.yield_from p) = places (1 + at) p
  yield_places at (G.yield_some p) = perhaps_places at p

  pub perhaps_places : {l : Level} {ts : List Terminal} {e : OptionalExpr} → ℕ → G.Perhaps l ts e → List Stretch
  perhaps_places at G.nothing = []
  perhaps_places at (G.something p) = places at p

  pub suffix_places : {s : Option Exact} {ts : List Terminal} {e : OptionalExpr} → ℕ → G.Suffix s ts e → List Stretch
  suffix_places at G.no_suffix = []
  suffix_places at (G.suffix p) = places (1 + at) p

  pub chain_places : {o : BoolOperator} {ts : List Terminal} {es : List Expr} → ℕ → G.Chain o ts es → List Stretch
  chain_places at (G.last_link p) = places at p
  chain_places at (G.link {ts = ts} p c) = places at p ++ chain_places (1 + (at + length ts)) c

  pub compares_places : {ts : List Terminal} {os : List Comparison} {es : List Expr} → ℕ → G.Compares ts os es → List Stretch
  compares_places at (G.last_compare {ss = ss} o p) = places (at + length ss) p
  compares_places at (G.compares {ss = ss} {ts = ts} o p c) = places (at + length ss) p ++ compares_places (at + (length ss + length ts)) c

  -- for each field the places within it
  pub literals_places : {u : Bool} {ts : List Terminal} {ps : List StringPart} → Stretch → ℕ → G.Literals u ts ps → List (List Stretch)
  literals_places row at G.no_literal = []
  literals_places row at (G.text_literal c) = literals_places row (1 + at) c
  literals_places row at (G.formatted_literal {ts = ts} p c) = formatted_places row (1 + at) p ++ literals_places row
      (2 + (at + length ts)) c

  pub formatted_places : {u : Bool} {ts : List Terminal} {ps : List StringPart} → Stretch → ℕ → G.Formatted u ts ps → List (List Stretch)
  formatted_places row at G.no_part = []
  formatted_places row at (G.text_part c) = formatted_places row (1 + at) c
  formatted_places row at (G.field_part {ts = ts} {us = us} p s c) =
      (places (1 + at) p ++ spec_places row (2 + (at + length ts)) s) ∷ formatted_places row (3 + (at + (length ts + length us))) c

  pub spec_places : {u : Bool} {ts : List Terminal} {e : OptionalExpr} → Stretch → ℕ → G.Spec u ts e → List Stretch
  spec_places row at G.no_spec = []
  spec_places row at (G.spec {ps = ps} c) = string_places row (merged ps) (formatted_places row (1 + at) c) ++ (row ∷ [])

  pub listing_places : {i : Item} {ts : List Terminal} {es : List Entry} → ℕ → G.Listing i ts es → List EntryPlaces
  listing_places at G.no_item = []
  listing_places at (G.last_item p) = piece_places at p ∷ []
  listing_places at (G.item {ts = ts} p c) = piece_places at p ∷ listing_places (at + (length ts + 1)) c

  pub piece_places : {i : Item} {ts : List Terminal} {e : Entry} → ℕ → G.Piece i ts e → EntryPlaces
  piece_places at (G.single p) = E.Single (places at p)
  piece_places at (G.pair {ts = ts} p q) = E.Paired (places at p) (places (1 + (at + length ts)) q)
  piece_places at (G.pairs_of {ts = ts} p) = E.Doubled (places (1 + at) p) (stretch at (1 + (at + length ts)))
  piece_places at (G.argument p) = E.Single (places at p)
  piece_places at (G.star_argument {ts = ts} p) = E.Spread (places (1 + at) p) (stretch at (1 + (at + length ts)))
  piece_places at (G.keyword_argument {ts = ts} p) = E.Keyed (places (2 + at) p) (stretch at (2 + (at + length ts)))
  piece_places at (G.double_argument {ts = ts} p) = E.Doubled (places (1 + at) p) (stretch at (1 + (at + length ts)))
  -- the default isn't part of the arg, nor is a star
  piece_places at (G.parameter {ts = ts} a d) = E.Plain (suffix_places (1 + at) a ++ over at (1 + length ts))
      (suffix_places (1 + (at + length ts)) d)
  piece_places at G.slash = E.Slashed
  piece_places at G.bare_star = E.Bare
  piece_places at (G.star_parameter {ts = ts} a) = E.Gathered (suffix_places (2 + at) a ++ over (1 + at) (1 + length ts))
  piece_places at (G.star_annotation {ts = ts} p) =
      E.Gathered (places (4 + at) p ++ (over (3 + at) (1 + length ts) ++ over (1 + at) (3 + length ts)))
  piece_places at (G.double_parameter {ts = ts} a) = E.Collected (suffix_places (2 + at) a ++ over (1 + at) (1 + length ts))

  pub comps_places : {ts : List Terminal} {gs : List Comprehension} → ℕ → G.Comps ts gs → List Stretch
  comps_places at (G.one_comp p) = comp_places at p
  comps_places at (G.comps {ts = ts} p c) = comp_places at p ++ comps_places (at + length ts) c

  pub comp_places : {ts : List Terminal} {g : Comprehension} → ℕ → G.Comp ts g → List Stretch
  comp_places at (G.for_in p) = for_places (1 + at) p
  comp_places at (G.async_for_in p) = for_places (2 + at) p

  pub for_places : {b : Bool} {ts : List Terminal} {g : Comprehension} → ℕ → G.ForIn b ts g → List Stretch
  for_places at (G.target_in {ts = ts} {us = us} p h q c) =
      places at p ++ (places (1 + (at + length ts)) q ++ ifs_places (1 + (at + (length ts + length us))) c)

  pub ifs_places : {ts : List Terminal} {es : List Expr} → ℕ → G.Ifs ts es → List Stretch
  ifs_places at G.no_if = []
  ifs_places at (G.if_one {ts = ts} p c) = places (1 + at) p ++ ifs_places (1 + (at + length ts)) c

-- a target has the places of the expression that it was read as
abbrev pub target_places : {ts : List Terminal} {e : Expr} → ℕ → G.Target ts e → List Stretch
target_places at (G.target p h) = places at p

abbrev pub single_target_places : {ts : List Terminal} {e : Expr} → ℕ → G.SingleTarget ts e → List Stretch
single_target_places at (G.single_target p h) = places at p

abbrev pub del_target_places : {ts : List Terminal} {e : Expr} → ℕ → G.DelTarget ts e → List Stretch
del_target_places at (G.del_target p h) = places at p

abbrev pub item_target_places : {ts : List Terminal} {e : Expr} → ℕ → G.ItemTarget ts e → List Stretch
item_target_places at (G.item_target p h) = places at p
item_target_places at (G.star_target {ts = ts} p h) = places (1 + at) p ++ over at (1 + length ts)
