-- What a list ends in: no expression but a slice ends in a colon, and no simple statement does.
--
-- Carries: NotColon, last, simples_end, for MatchLines, Law. On: LookLemmas, LevelLemmas.
use Rattle.std.proofs.Common.{◌≡◌, refl, sym, ap, ◌∙◌, ◌<◌, arith, List, [], ◌∷◌, ◌++◌, map, Option, Some, Bool, true, false, append_assoc}
use Rattle.pylex_lexeme.specs.declared.kinds.Exact.TheVariants as Sign
use Rattle.pytoken.specs.declared.keywords.Keyword.TheVariants as Key
use Rattle.pytree_node.specs.declared.operators.BoolOperator.{BoolOperator}
use Rattle.pytree_node.specs.declared.operators.BoolOperator.TheVariants as Join
use Rattle.pytree_node.specs.declared.operators.Comparison.{Comparison}
use Rattle.pytree_node.specs.declared.profiles.Profile.{Profile}
use Rattle.pygrammar.specs.declared.levels.Level.{Level}
use Rattle.pygrammar.specs.declared.levels.Level.TheVariants.{Value, Slices, Part, Slice}
use Rattle.pytree_node.specs.Trees.{Expr, Identifier, Stmt, Alias}
use Rattle.pytree_node.specs.Values
use Rattle.pytoken.specs.Terminals.{Terminal, Op, Word, Ident, Literal, FormattedBegin, FormattedEnd}
use Rattle.pygrammar.specs.FormattedStrings.{StringPart}
use Rattle.pygrammar.specs.Operators.{below, chain_level, chain_word}
use Rattle.pygrammar.specs.Constants.{constant_word}
use Rattle.pygrammar.specs.Entries.{Of, Entry}
use Rattle.pygrammar.specs.Grammar as G
use Rattle.pygrammar.specs.Forms as F
use Rattle.pygrammar.specs.Forms.{type_word}
use Rattle.pygrammar.specs.LineReader.{is_colon, ends_in_colon}
use Rattle.pygrammar.proofs.Completeness.LookLemmas.{lead_of, lead_front}
use Rattle.pygrammar.proofs.Completeness.LevelLemmas.{led, first_pos}

abbrev pub NotColon : List Terminal → Type 0
NotColon ts = ends_in_colon ts ≡ false

-- ---- The end of a list that is joined from parts.

pub last : (ts us : List Terminal) (t : Terminal) → ends_in_colon (ts ++ (t ∷ us)) ≡ ends_in_colon (t ∷ us)
last [] us t = refl
last (s ∷ []) us t = refl
last (s ∷ (u ∷ ts)) us t = last (u ∷ ts) us t

joined : (ts us : List Terminal) → NotColon ts → NotColon us → NotColon (ts ++ us)
joined [] us h k = k
joined (t ∷ []) [] h k = h
joined (t ∷ []) (u ∷ us) h k = k
joined (t ∷ (s ∷ ts)) us h k = joined (s ∷ ts) us h k

-- after a terminal that is no colon
headed : (t : Terminal) (us : List Terminal) → is_colon t ≡ false → NotColon us → NotColon (t ∷ us)
headed t us h k = joined (t ∷ []) us h k

following : (ts us : List Terminal) (t : Terminal) → is_colon t ≡ false → NotColon us → NotColon (ts ++ (t ∷ us))
following ts us t h k = last ts us t ∙ headed t us h k

-- a list that ends in a bracket
closed : (ts us : List Terminal) (t : Terminal) → is_colon t ≡ false → NotColon (ts ++ (us ++ (t ∷ [])))
closed ts us t h = ap ends_in_colon (sym (append_assoc ts us (t ∷ []))) ∙ (last (ts ++ us) [] t ∙ h)

-- after anything, where something stands last
full : (ts us : List Terminal) → 0 < lead_of us → NotColon us → NotColon (ts ++ us)
full ts [] w h = absurd (omega (arith, w))
full ts (u ∷ us) w h = last ts us u ∙ h

full_after : (ts us : List Terminal) (t : Terminal) → 0 < lead_of us → NotColon us → NotColon (ts ++ (t ∷ us))
full_after ts us t w h = last ts us t ∙ full (t ∷ []) us w h

-- ---- Expressions.

-- the levels at which none ends in a colon
abbrev closes : Level → Bool
closes Slices = false
closes Part = false
closes Slice = false
closes l = true

below_closes : (l : Level) → closes l ≡ true → closes (below l) ≡ true
below_closes Slices h = absurd (cc)
below_closes Part h = absurd (cc)
below_closes Slice h = absurd (cc)
below_closes Value h = refl
below_closes _ h = refl

chain_closes : (o : BoolOperator) → closes (below (chain_level o)) ≡ true
chain_closes Join.And = refl
chain_closes Join.Or = refl

constant_end : (t : Terminal) (v : Values.Value) → constant_word t ≡ Some v → is_colon t ≡ false
constant_end (Op Sign.Colon) v h = absurd (cc)
constant_end (Op _) v h = refl
constant_end _ v h = refl

strings_end : (v : Values.Value) (vs : List Values.Value) → NotColon (Literal v ∷ map Literal vs)
strings_end v [] = refl
strings_end v (w ∷ vs) = strings_end w vs

literals_end : {u : Bool} {ts : List Terminal} {ps : List StringPart} → G.Literals u ts ps → NotColon ts
literals_end G.no_literal = refl
literals_end (G.text_literal {ts = ts} {t = t} {k = k} l) = headed (Literal (Values.Str t k)) ts refl (literals_end l)
literals_end (G.formatted_literal {ts = ts} {us = us} p l) = following (FormattedBegin ∷ ts) us FormattedEnd refl (literals_end l)

some_lead : {l : Level} {ts : List Terminal} {e : Expr} → G.Derives l ts e → 0 < lead_of ts
some_lead {l} p = omega (arith, led p, first_pos l)

mutual
  ends : {l : Level} {ts : List Terminal} {e : Expr} → closes l ≡ true → G.Derives l ts e → NotColon ts
  ends h (G.next {l = l} p) = ends (below_closes l h) p
  ends h (G.yields {ts = ts} p) = headed (Word Key.Yield) ts refl (yields_end p)
  ends h (G.star_tuple {ts = ts} {us = us} p c) = following ts us (Op Sign.Comma) refl (listing_end refl c)
  ends h (G.star_item {ts = ts} p) = headed (Op Sign.Star) ts refl (ends refl p)
  ends h (G.named {x = x} {ts = ts} p) = following (Ident x ∷ []) ts (Op Sign.ColonEqual) refl (ends refl p)
  ends h (G.lambda {ts = ts} {us = us} c q p) = full_after (Word Key.Lambda ∷ ts) us (Op Sign.Colon) (some_lead p) (ends refl p)
  ends h (G.if_else {ts = ts} {us = us} {vs = vs} p q r) = following ts (us ++ (Word Key.Else ∷ vs)) (Word Key.If) refl
      (following us vs (Word Key.Else) refl (ends refl r))
  ends h (G.chain {o = o} {ts = ts} {us = us} p c) = following ts us (Word (chain_word o)) refl (chain_end c)
  ends h (G.unary {t = t} {ts = ts} q p) = full (t ∷ []) ts (some_lead p) (ends h p)
  ends h (G.compare {ts = ts} {us = us} p c) = joined ts us (ends refl p) (compares_end c)
  ends h (G.binary {l = l} {ts = ts} {us = us} t k p q) = full_after ts us t (some_lead q) (ends (below_closes l h) q)
  ends h (G.power {ts = ts} {us = us} p q) = following ts us (Op Sign.DoubleStar) refl (ends refl q)
  ends h (G.await {ts = ts} p) = headed (Word Key.Await) ts refl (ends refl p)
  ends h (G.attribute {ts = ts} x p) = last ts (Ident x ∷ []) (Op Sign.Dot)
  ends h (G.call {ts = ts} {us = us} p c k) = closed ts (Op Sign.LPar ∷ us) (Op Sign.RPar) refl
  ends h (G.call_generator {ts = ts} {us = us} {vs = vs} p q c) = last ts (us ++ (vs ++ (Op Sign.RPar ∷ []))) (Op Sign.LPar)
      ∙ closed (Op Sign.LPar ∷ us) vs (Op Sign.RPar) refl
  ends h (G.subscript {ts = ts} {us = us} p q) = closed ts (Op Sign.LSqb ∷ us) (Op Sign.RSqb) refl
  ends h G.name = refl
  ends h (G.constant {t = t} {v = v} k) = constant_end t v k
  ends h G.number = refl
  ends h (G.strings {v = v} vs k) = strings_end v vs
  ends h (G.joined_string l b k) = literals_end l
  ends h (G.group {ts = ts} p) = last (Op Sign.LPar ∷ ts) [] (Op Sign.RPar)
  ends h (G.yield_group {ts = ts} p) = last (Op Sign.LPar ∷ (Word Key.Yield ∷ ts)) [] (Op Sign.RPar)
  ends h G.empty_tuple = refl
  ends h (G.tuple {ts = ts} {us = us} p c) = closed (Op Sign.LPar ∷ ts) (Op Sign.Comma ∷ us) (Op Sign.RPar) refl
  ends h (G.generator_group {ts = ts} {us = us} p c) = closed (Op Sign.LPar ∷ ts) us (Op Sign.RPar) refl
  ends h (G.list {ts = ts} c) = last (Op Sign.LSqb ∷ ts) [] (Op Sign.RSqb)
  ends h (G.list_comp {ts = ts} {us = us} p c) = closed (Op Sign.LSqb ∷ ts) us (Op Sign.RSqb) refl
  ends h (G.dict {ts = ts} c) = last (Op Sign.LBrace ∷ ts) [] (Op Sign.RBrace)
  ends h (G.dict_comp {ts = ts} {us = us} {vs = vs} p q c) = last (Op Sign.LBrace ∷ ts) (us ++ (vs ++ (Op Sign.RBrace ∷ [])))
      (Op Sign.Colon) ∙ closed (Op Sign.Colon ∷ us) vs (Op Sign.RBrace) refl
  ends h (G.set {ts = ts} c) = last (Op Sign.LBrace ∷ ts) [] (Op Sign.RBrace)
  ends h (G.set_comp {ts = ts} {us = us} p c) = closed (Op Sign.LBrace ∷ ts) us (Op Sign.RBrace) refl
  ends h (G.subject_tuple {ts = ts} {us = us} p c) = following ts us (Op Sign.Comma) refl (listing_end refl c)
  ends h (G.star_elem {ts = ts} p) = headed (Op Sign.Star) ts refl (ends refl p)
  ends h (G.star_slices p) = absurd (cc)
  ends h (G.parts p c) = absurd (cc)
  ends h (G.star_part p) = absurd (cc)
  ends h (G.slice p q) = absurd (cc)
  ends h (G.slice_step p q r) = absurd (cc)

  yields_end : {ts : List Terminal} {e : Expr} → G.Yields ts e → NotColon ts
  yields_end (G.yield_from {ts = ts} p) = headed (Word Key.From) ts refl (ends refl p)
  yields_end (G.yield_some G.nothing) = refl
  yields_end (G.yield_some (G.something p)) = ends refl p

  chain_end : {o : BoolOperator} {us : List Terminal} {es : List Expr} → G.Chain o us es → NotColon us
  chain_end (G.last_link {o = o} p) = ends (chain_closes o) p
  chain_end (G.link {o = o} {ts = ts} {us = us} p c) = following ts us (Word (chain_word o)) refl (chain_end c)

  compares_end : {us : List Terminal} {os : List Comparison} {es : List Expr} → G.Compares us os es → NotColon us
  compares_end (G.last_compare {ss = ss} {ts = ts} c p) = full ss ts (some_lead p) (ends refl p)
  compares_end (G.compares {ss = ss} {ts = ts} {us = us} c p w) = full ss (ts ++ us) (lead_front ts us 1 (omega arith) (some_lead p))
      (joined ts us (ends refl p) (compares_end w))

  listing_end : {l : Level} {us : List Terminal} {es : List Entry} → closes l ≡ true → G.Listing (Of l) us es → NotColon us
  listing_end h G.no_item = refl
  listing_end h (G.last_item (G.single p)) = ends h p
  listing_end h (G.item {ts = ts} {us = us} (G.single p) c) = following ts us (Op Sign.Comma) refl (listing_end h c)

-- ---- Simple statements.

after_end : {t : Terminal} {l : Level} {ts : List Terminal} {e : Option Expr} → is_colon t ≡ false → closes l ≡ true
    → F.Following t l ts e → NotColon ts
after_end k h F.none_after = refl
after_end k h (F.following {t = t} {ts = ts} p) = headed t ts k (ends h p)

-- an expression and what stands after it
with_after : {l m : Level} {t : Terminal} {ts us : List Terminal} {e : Expr} {v : Option Expr} → closes l ≡ true → G.Derives l ts e
    → is_colon t ≡ false → closes m ≡ true → F.Following t m us v → NotColon (ts ++ us)
with_after {ts = ts} {us = us} h p k g q = joined ts us (ends h p) (after_end k g q)

front_lead : {l : Level} {ts : List Terminal} {e : Expr} (us : List Terminal) → G.Derives l ts e → 0 < lead_of (ts ++ us)
front_lead {ts = ts} us p = lead_front ts us 1 (omega arith) (some_lead p)

module _ (A : Type 0) (X : List Terminal → A → Type 0) (one : (ts : List Terminal) (a : A) → X ts a → NotColon ts) where
  commas_end : {ts : List Terminal} {as_ : List A} → F.Commas A X ts as_ → NotColon ts
  commas_end (F.alone p) = one _ _ p
  commas_end (F.comma {ts = ts} {us = us} p c) = following ts us (Op Sign.Comma) refl (commas_end c)

  commas?_end : {ts : List Terminal} {as_ : List A} → F.Commas? A X ts as_ → NotColon ts
  commas?_end (F.ends_bare c) = commas_end c
  commas?_end (F.ends_comma {ts = ts} c) = last ts [] (Op Sign.Comma)

deleted_end : (ts : List Terminal) (e : Expr) → G.DelTarget ts e → NotColon ts
deleted_end _ _ (G.del_target p q) = ends refl p

name_end : (ts : List Terminal) (x : Identifier) → F.Name ts x → NotColon ts
name_end _ _ F.name = refl

as_end : {ts : List Terminal} {x : Option Identifier} → F.As ts x → NotColon ts
as_end F.no_as = refl
as_end F.as_name = refl

dotted_end : {ts : List Terminal} {x : Identifier} → F.Dotted ts x → NotColon ts
dotted_end F.one_name = refl
dotted_end (F.dot_name {x = x} {ts = ts} d) = following (Ident x ∷ []) ts (Op Sign.Dot) refl (dotted_end d)

module_end : (ts : List Terminal) (a : Alias) → F.DottedAlias ts a → NotColon ts
module_end _ _ (F.dotted_as {ts = ts} {us = us} d a) = joined ts us (dotted_end d) (as_end a)

alias_end : (ts : List Terminal) (a : Alias) → F.NameAlias ts a → NotColon ts
alias_end _ _ (F.name_as {us = us} {x = x} a) = headed (Ident x) us refl (as_end a)

names_end : {ts : List Terminal} {as_ : List Alias} → F.Names ts as_ → NotColon ts
names_end F.all_names = refl
names_end (F.names c) = commas_end Alias F.NameAlias alias_end c
names_end (F.bracketed_names {ts = ts} c) = last (Op Sign.LPar ∷ ts) [] (Op Sign.RPar)

simple_end : {profile : Profile} {ts : List Terminal} {s : Stmt} → F.Simple profile ts s → NotColon ts
simple_end (F.value p) = ends refl p
simple_end (F.assign {ts = ts} {us = us} c p) = full ts us (some_lead p) (ends refl p)
simple_end (F.augmented_assign {ts = ts} {us = us} x p h q) = full_after ts us (Op x) (some_lead q) (ends refl q)
simple_end (F.annotated_name {x = x} {ts = ts} {us = us} p q) = full_after (Ident x ∷ []) (ts ++ us) (Op Sign.Colon) (front_lead us p)
    (with_after refl p refl refl q)
simple_end (F.annotated_group {ts = ts} {us = us} {vs = vs} t p q) = last (Op Sign.LPar ∷ ts) (Op Sign.Colon ∷ (us ++ vs)) (Op Sign.RPar)
    ∙ full_after [] (us ++ vs) (Op Sign.Colon) (front_lead vs p) (with_after refl p refl refl q)
simple_end (F.annotated_part {ts = ts} {us = us} {vs = vs} t n p q) = full_after ts (us ++ vs) (Op Sign.Colon) (front_lead vs p)
    (with_after refl p refl refl q)
simple_end (F.type_alias {form = form} {x = x} {ts = ts} {us = us} h c p) =
    following (type_word form ∷ (Ident x ∷ ts)) us (Op Sign.Equal) refl (ends refl p)
simple_end (F.return_of F.left_out) = refl
simple_end (F.return_of (F.given {ts = ts} p)) = headed (Word Key.Return) ts refl (ends refl p)
simple_end F.raise_alone = refl
simple_end (F.raise_of {ts = ts} {us = us} p q) = headed (Word Key.Raise) (ts ++ us) refl (with_after refl p refl refl q)
simple_end (F.assert_of {ts = ts} {us = us} p q) = headed (Word Key.Assert) (ts ++ us) refl (with_after refl p refl refl q)
simple_end (F.delete {ts = ts} c) = headed (Word Key.Del) ts refl (commas?_end Expr G.DelTarget deleted_end c)
simple_end (F.global {ts = ts} c) = headed (Word Key.Global) ts refl (commas_end Identifier F.Name name_end c)
simple_end (F.nonlocal {ts = ts} c) = headed (Word Key.Nonlocal) ts refl (commas_end Identifier F.Name name_end c)
simple_end F.pass = refl
simple_end F.break = refl
simple_end F.continue = refl
simple_end (F.import_names {ts = ts} c) = headed (Word Key.Import) ts refl (commas_end Alias F.DottedAlias module_end c)
simple_end (F.from_module {ts = ts} {us = us} {vs = vs} d m c) =
    ap (λ z. ends_in_colon (Word Key.From ∷ z)) (sym (append_assoc ts us (Word Key.Import ∷ vs)))
    ∙ following (Word Key.From ∷ (ts ++ us)) vs (Word Key.Import) refl (names_end c)
simple_end (F.from_dots {ts = ts} {vs = vs} d w c) = following (Word Key.From ∷ ts) vs (Word Key.Import) refl (names_end c)

pub simples_end : {profile : Profile} {ts : List Terminal} {ss : List Stmt} → F.Simples profile ts ss → NotColon ts
simples_end (F.last_simple p) = simple_end p
simples_end (F.ended_simple {ts = ts} p) = last ts [] (Op Sign.Semi)
simples_end (F.more_simples {ts = ts} {us = us} p c) = following ts us (Op Sign.Semi) refl (simples_end c)
