-- In an expression each colon, `;` and bracket has its place, but for the colon of a slice, which wants a bracket round it.
--
-- Carries: expression, strings, listing, comps, for Patterns, Trailers, Statements, Law. On: Machine, Signs.
use Rattle.std.proofs.Common.{◌≡◌, refl, ap, ◌∙◌, List, ◌∷◌, Option, Some, None, Bool, true, false, cond}
use Rattle.pylex_lexeme.specs.declared.kinds.Exact.{Exact}
use Rattle.pylex_lexeme.specs.declared.kinds.Exact.TheVariants.{LPar, LSqb, LBrace, Colon, Comma, Star, Slash, Equal, Dot, DoubleStar}
use Rattle.pylex_lexeme.specs.declared.kinds.Exact.TheVariants.{ColonEqual}
use Rattle.pytoken.specs.declared.keywords.Keyword.TheVariants as Key
use Rattle.pytree_node.specs.declared.operators.BoolOperator.{BoolOperator}
use Rattle.pytree_node.specs.declared.operators.Comparison.{Comparison}
use Rattle.pygrammar.specs.declared.levels.Level.{Level}
use Rattle.pygrammar.specs.declared.levels.Level.TheVariants.{Value, Slices, Part, Slice}
use Rattle.pytree_node.specs.Trees.{Expr, OptionalExpr, Comprehension}
use Rattle.pytree_node.specs.Values
use Rattle.pytoken.specs.Terminals.{Terminal, Op, Word, Ident, Number, Literal, FormattedBegin, FormattedEnd, FormattedText, FieldBegin}
use Rattle.pytoken.specs.Terminals.{SpecBegin, FieldEnd}
use Rattle.pygrammar.specs.Operators.{below, chain_level, chain_word}
use Rattle.pygrammar.specs.FormattedStrings.{StringPart}
use Rattle.pygrammar.specs.Entries.{Item, Of, Pair, Parameter, Entry}
use Rattle.pygrammar.specs.Grammar as G
use Rattle.pyparse_block.proofs.CaseLines.Machine.{Open, bracket, lambda, act, after, Takes, none, one, join, neutral, between, colon_inside}
use Rattle.pyparse_block.proofs.CaseLines.Machine.{round_end, square_end, curly_end}
use Rattle.pyparse_block.proofs.CaseLines.Signs.{left_plain, prefix_plain, chain_plain, compared, constant_plain, literals}

-- what stands open at an expression of a level: round a slice a bracket
abbrev pub at : Level → List Open → List Open
at Slices s = bracket ∷ s
at Part s = bracket ∷ s
at Slice s = bracket ∷ s
at _ s = s

-- and at an item: round a pair and round a parameter that may have an annotation too
abbrev pub within : Item → List Open → List Open
within (Of l) s = at l s
within Pair s = bracket ∷ s
within (Parameter true) s = bracket ∷ s
within _ s = s

-- from the next level
lowered : {ts : List Terminal} (l : Level) (s : List Open) → ((r : List Open) → Takes (at (below l) r) (at (below l) r) ts) →
    Takes (at l s) (at l s) ts
lowered Slice s h = h (bracket ∷ s)
lowered Value s h = h s
lowered _ s h = h s

-- the sign in front of an annotation or a default has its place
record IsTaken (s : List Open) (o : Option Exact) : Type 0 where
  taken : (x : Exact) → o ≡ Some x → after (act (Op x)) s ≡ Some s

only : (s : List Open) (y : Exact) → after (act (Op y)) s ≡ Some s → IsTaken s (Some y)
only s y h = record { taken = λ x e. ap (λ z. after (act (Op z)) s) (same x e) ∙ h }
  where
    same : (x : Exact) → ◌≡◌ {A = Option Exact} (Some y) (Some x) → x ≡ y
    same x e = cc

colon_taken : (b : Bool) (s : List Open) → IsTaken (within (Parameter b) s) (cond b (Some Colon) None)
colon_taken true s = only (bracket ∷ s) Colon refl
colon_taken false s = record { taken = λ x e. absurd (cc) }

mutual
  pub expression : {l : Level} {ts : List Terminal} {e : Expr} (s : List Open) → G.Derives l ts e → Takes (at l s) (at l s) ts
  expression s (G.next {l = l} p) = lowered l s (λ r. expression r p)
  expression s (G.yields p) = neutral (Word Key.Yield) refl (yields s p)
  expression s (G.star_tuple p c) = between (Op Comma) refl (expression s p) (listing s c)
  expression s (G.star_item p) = neutral (Op Star) refl (expression s p)
  expression s (G.named {x = x} p) = neutral (Ident x) refl (neutral (Op ColonEqual) refl (expression s p))
  expression s (G.lambda c a p) = one (Word Key.Lambda) refl (join (listing (lambda ∷ s) c) (one (Op Colon) refl (expression s p)))
  expression s (G.if_else p q r) =
      between (Word Key.If) refl (expression s p) (between (Word Key.Else) refl (expression s q) (expression s r))
  expression s (G.chain {o = o} p c) =
      between (Word (chain_word o)) (chain_plain o) (lowered (chain_level o) s (λ r. expression r p)) (chain s c)
  expression s (G.unary {l = l} {t = t} h p) = neutral t (prefix_plain l t h) (expression s p)
  expression s (G.compare p c) = join (expression s p) (compares s c)
  expression s (G.binary {l = l} t h p q) = between t (left_plain l t h) (expression s p) (lowered l s (λ r. expression r q))
  expression s (G.power p q) = between (Op DoubleStar) refl (expression s p) (expression s q)
  expression s (G.await p) = neutral (Word Key.Await) refl (expression s p)
  expression s (G.attribute x p) = between (Op Dot) refl (expression s p) (neutral (Ident x) refl none)
  expression s (G.call p c k) = join (expression s p) (one (Op LPar) refl (join (listing (bracket ∷ s) c) round_end))
  expression s (G.call_generator p q c) =
      join (expression s p) (one (Op LPar) refl (join (expression (bracket ∷ s) q) (join (comps (bracket ∷ s) c) round_end)))
  expression s (G.subscript p q) = join (expression s p) (one (Op LSqb) refl (join (expression s q) square_end))
  expression s (G.name {x = x}) = neutral (Ident x) refl none
  expression s (G.constant {t = t} h) = neutral t (constant_plain t h) none
  expression s (G.number {v = v}) = neutral (Number v) refl none
  expression s (G.strings {v = v} vs h) = neutral (Literal v) refl (literals vs)
  expression s (G.joined_string p h k) = strings s p
  expression s (G.group p) = one (Op LPar) refl (join (expression (bracket ∷ s) p) round_end)
  expression s (G.yield_group p) = one (Op LPar) refl (neutral (Word Key.Yield) refl (join (yields (bracket ∷ s) p) round_end))
  expression s G.empty_tuple = one (Op LPar) refl round_end
  expression s (G.tuple p c) =
      one (Op LPar) refl (between (Op Comma) refl (expression (bracket ∷ s) p) (join (listing (bracket ∷ s) c) round_end))
  expression s (G.generator_group p c) = one (Op LPar) refl (join (expression (bracket ∷ s) p) (join (comps (bracket ∷ s) c) round_end))
  expression s (G.list c) = one (Op LSqb) refl (join (listing (bracket ∷ s) c) square_end)
  expression s (G.list_comp p c) = one (Op LSqb) refl (join (expression (bracket ∷ s) p) (join (comps (bracket ∷ s) c) square_end))
  expression s (G.dict c) = one (Op LBrace) refl (join (listing s c) curly_end)
  expression s (G.dict_comp p q c) =
      let value = join (expression (bracket ∷ s) q) (join (comps (bracket ∷ s) c) curly_end) in
      one (Op LBrace) refl (join (expression (bracket ∷ s) p) (colon_inside value))
  expression s (G.set c) = one (Op LBrace) refl (join (listing (bracket ∷ s) c) curly_end)
  expression s (G.set_comp p c) = one (Op LBrace) refl (join (expression (bracket ∷ s) p) (join (comps (bracket ∷ s) c) curly_end))
  expression s (G.subject_tuple p c) = between (Op Comma) refl (expression s p) (listing s c)
  expression s (G.star_elem p) = neutral (Op Star) refl (expression s p)
  expression s (G.star_slices p) = neutral (Op Star) refl (expression (bracket ∷ s) p)
  expression s (G.parts p c) = between (Op Comma) refl (expression s p) (listing s c)
  expression s (G.star_part p) = neutral (Op Star) refl (expression (bracket ∷ s) p)
  expression s (G.slice p q) = join (perhaps (bracket ∷ s) p) (colon_inside (perhaps (bracket ∷ s) q))
  expression s (G.slice_step p q r) =
      let more = colon_inside (perhaps (bracket ∷ s) r) in
      join (perhaps (bracket ∷ s) p) (colon_inside (join (perhaps (bracket ∷ s) q) more))

  pub strings : {u : Bool} {ts : List Terminal} {ps : List StringPart} (s : List Open) → G.Literals u ts ps → Takes s s ts
  strings s G.no_literal = none
  strings s (G.text_literal {t = t} {k = k} p) = neutral (Literal (Values.Str t k)) refl (strings s p)
  strings s (G.formatted_literal p q) = neutral FormattedBegin refl (between FormattedEnd refl (formatted s p) (strings s q))

  formatted : {u : Bool} {ts : List Terminal} {ps : List StringPart} (s : List Open) → G.Formatted u ts ps → Takes s s ts
  formatted s G.no_part = none
  formatted s (G.text_part {t = t} p) = neutral (FormattedText t) refl (formatted s p)
  formatted s (G.field_part {c = c} p q r) =
      neutral (FieldBegin c) refl (join (expression s p) (between FieldEnd refl (spec s q) (formatted s r)))

  spec : {u : Bool} {ts : List Terminal} {e : OptionalExpr} (s : List Open) → G.Spec u ts e → Takes s s ts
  spec s G.no_spec = none
  spec s (G.spec p) = neutral SpecBegin refl (formatted s p)

  yields : {ts : List Terminal} {e : Expr} (s : List Open) → G.Yields ts e → Takes s s ts
  yields s (G.yield_from p) = neutral (Word Key.From) refl (expression s p)
  yields s (G.yield_some p) = perhaps s p

  perhaps : {l : Level} {ts : List Terminal} {e : OptionalExpr} (s : List Open) → G.Perhaps l ts e → Takes (at l s) (at l s) ts
  perhaps s G.nothing = none
  perhaps s (G.something p) = expression s p

  suffix : {o : Option Exact} {ts : List Terminal} {e : OptionalExpr} (s : List Open) → IsTaken s o → G.Suffix o ts e → Takes s s ts
  suffix s h G.no_suffix = none
  suffix s h (G.suffix {x = x} p) = one (Op x) (h.taken x refl) (expression s p)

  chain : {o : BoolOperator} {us : List Terminal} {es : List Expr} (s : List Open) → G.Chain o us es →
      Takes (at (chain_level o) s) (at (chain_level o) s) us
  chain s (G.last_link {o = o} p) = lowered (chain_level o) s (λ r. expression r p)
  chain s (G.link {o = o} p c) =
      between (Word (chain_word o)) (chain_plain o) (lowered (chain_level o) s (λ r. expression r p)) (chain s c)

  compares : {us : List Terminal} {os : List Comparison} {es : List Expr} (s : List Open) → G.Compares us os es → Takes s s us
  compares s (G.last_compare c p) = join (compared c) (expression s p)
  compares s (G.compares c p w) = join (compared c) (join (expression s p) (compares s w))

  pub listing : {i : Item} {us : List Terminal} {es : List Entry} (s : List Open) → G.Listing i us es → Takes (within i s) (within i s) us
  listing s G.no_item = none
  listing s (G.last_item p) = piece s p
  listing s (G.item p c) = between (Op Comma) refl (piece s p) (listing s c)

  piece : {i : Item} {us : List Terminal} {e : Entry} (s : List Open) → G.Piece i us e → Takes (within i s) (within i s) us
  piece s (G.single p) = expression s p
  piece s (G.pair p q) = join (expression (bracket ∷ s) p) (colon_inside (expression (bracket ∷ s) q))
  piece s (G.pairs_of p) = neutral (Op DoubleStar) refl (expression (bracket ∷ s) p)
  piece s (G.argument p) = expression s p
  piece s (G.star_argument p) = neutral (Op Star) refl (expression s p)
  piece s (G.keyword_argument {x = x} p) = neutral (Ident x) refl (neutral (Op Equal) refl (expression s p))
  piece s (G.double_argument p) = neutral (Op DoubleStar) refl (expression s p)
  piece s (G.parameter {b = b} {x = x} p q) =
      let r = within (Parameter b) s in
      neutral (Ident x) refl (join (suffix r (colon_taken b s) p) (suffix r (only r Equal refl) q))
  piece s G.slash = neutral (Op Slash) refl none
  piece s G.bare_star = neutral (Op Star) refl none
  piece s (G.star_parameter {b = b} {x = x} p) =
      neutral (Op Star) refl (neutral (Ident x) refl (suffix (within (Parameter b) s) (colon_taken b s) p))
  piece s (G.star_annotation {x = x} p) =
      let annotation = colon_inside (neutral (Op Star) refl (expression (bracket ∷ s) p)) in
      neutral (Op Star) refl (neutral (Ident x) refl annotation)
  piece s (G.double_parameter {b = b} {x = x} p) =
      neutral (Op DoubleStar) refl (neutral (Ident x) refl (suffix (within (Parameter b) s) (colon_taken b s) p))

  pub comps : {us : List Terminal} {gs : List Comprehension} (s : List Open) → G.Comps us gs → Takes s s us
  comps s (G.one_comp p) = comp s p
  comps s (G.comps p c) = join (comp s p) (comps s c)

  comp : {us : List Terminal} {g : Comprehension} (s : List Open) → G.Comp us g → Takes s s us
  comp s (G.for_in p) = neutral (Word Key.For) refl (for_in s p)
  comp s (G.async_for_in p) = neutral (Word Key.Async) refl (neutral (Word Key.For) refl (for_in s p))

  for_in : {b : Bool} {us : List Terminal} {g : Comprehension} (s : List Open) → G.ForIn b us g → Takes s s us
  for_in s (G.target_in p h q c) = between (Word Key.In) refl (expression s p) (join (expression s q) (ifs s c))

  ifs : {us : List Terminal} {es : List Expr} (s : List Open) → G.Ifs us es → Takes s s us
  ifs s G.no_if = none
  ifs s (G.if_one p c) = neutral (Word Key.If) refl (join (expression s p) (ifs s c))
