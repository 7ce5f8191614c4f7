-- Nested: the place of an expression is the last of its places, and holds the others.
--
-- On: Within, Tokens.
use Rattle.std.proofs.Common.{◌≡◌, refl, sym, ◌∙◌, ℕ, ◌+◌, ◌<◌, ◌≤◌, arith, List, [], ◌∷◌, ◌++◌, append_assoc, length, length-append}
use Rattle.std.proofs.lemmas.List.{length-map}
use Rattle.pytree_node.specs.Trees.{Expr}
use Rattle.pytoken.specs.Terminals.{Terminal, Literal}
use Rattle.pygrammar.specs.declared.levels.Level.{Level}
use Rattle.pygrammar.specs.FormattedStrings.{merged}
use Rattle.pygrammar.specs.Grammar as G
use Rattle.pyplaces.specs.Stretches.{Stretch, stretch}
use Rattle.pyplaces.specs.ExpressionPlaces.{places}
use Rattle.pyplaces.specs.Laws.{IsWithin, IsRooted}
use Rattle.pyplaces.proofs.Laws.Within.{Within, own, is_within, ◌⊕◌, singles_within, keys_within, values_within, positional_within}
use Rattle.pyplaces.proofs.Laws.Within.{keywords_within, arranged_within, strings_within}
use Rattle.pyplaces.proofs.Laws.Tokens.{tokens, tokens_yields, tokens_perhaps, tokens_chain, tokens_compares, tokens_literals}
use Rattle.pyplaces.proofs.Laws.Tokens.{tokens_listing}
use Rattle.pyplaces.proofs.Laws.Tokens.{tokens_comps, formatted_some, some_terminal}

-- a place after others, which it holds
pub rooted1 : {lo hi begin end : ℕ} {ps : List Stretch} → Within begin end ps → begin < end → lo ≤ begin → end ≤ hi
    → IsRooted lo hi (ps ++ (stretch begin end ∷ []))
rooted1 {begin = begin} {end = end} {ps = ps} p a b c = record {
  fields = ps;
  own = stretch begin end;
  are = refl;
  within = record { begins = b; some = a; ends = c };
  holds = p.are;
}

pub rooted0 : {lo hi begin end : ℕ} → begin < end → lo ≤ begin → end ≤ hi → IsRooted lo hi (stretch begin end ∷ [])
rooted0 {begin = begin} {end = end} a b c = record {
  fields = [];
  own = stretch begin end;
  are = refl;
  within = record { begins = b; some = a; ends = c };
  holds = tt;
}

-- after several parts
as_list : {lo hi : ℕ} {ps qs : List Stretch} → ps ≡ qs → IsRooted lo hi qs → IsRooted lo hi ps
as_list h r = record { fields = r.fields; own = r.own; are = h ∙ r.are; within = r.within; holds = r.holds }

pub rooted2 : {lo hi begin end : ℕ} {ps qs : List Stretch} → Within begin end ps → Within begin end qs → begin < end → lo ≤ begin
    → end ≤ hi → IsRooted lo hi (ps ++ (qs ++ (stretch begin end ∷ [])))
rooted2 {begin = begin} {end = end} {ps = ps} {qs = qs} p q a b c =
    as_list (sym (append_assoc ps qs (stretch begin end ∷ []))) (rooted1 (p ⊕ q) a b c)

pub rooted3 : {lo hi begin end : ℕ} {ps qs rs : List Stretch} → Within begin end ps → Within begin end qs → Within begin end rs
    → begin < end → lo ≤ begin → end ≤ hi → IsRooted lo hi (ps ++ (qs ++ (rs ++ (stretch begin end ∷ []))))
rooted3 {begin = begin} {end = end} {ps = ps} {qs = qs} {rs = rs} p q r a b c =
    as_list (sym (append_assoc ps qs (rs ++ (stretch begin end ∷ [])))) (rooted2 (p ⊕ q) r a b c)

pub rooted4 : {lo hi begin end : ℕ} {ps qs rs us : List Stretch} → Within begin end ps → Within begin end qs → Within begin end rs
    → Within begin end us → begin < end → lo ≤ begin → end ≤ hi
    → IsRooted lo hi (ps ++ (qs ++ (rs ++ (us ++ (stretch begin end ∷ [])))))
rooted4 {begin = begin} {end = end} {ps = ps} {qs = qs} {rs = rs} {us = us} p q r u a b c =
    as_list (sym (append_assoc ps qs (rs ++ (us ++ (stretch begin end ∷ []))))) (rooted3 (p ⊕ q) r u a b c)

pub rooted_in : {lo hi low high : ℕ} {ps : List Stretch} → IsRooted lo hi ps → low ≤ lo → hi ≤ high → IsRooted low high ps
rooted_in r a b = record {
  fields = r.fields;
  own = r.own;
  are = r.are;
  within = record { begins = omega (arith, r.within.begins); some = r.within.some; ends = omega (arith, r.within.ends) };
  holds = r.holds;
}

-- an expression's place is the last, and holds those of its fields
pub rooted : {l : Level} {ts : List Terminal} {e : Expr} (at : ℕ) (d : G.Derives l ts e) → IsRooted at (at + length ts) (places at d)
rooted at (G.next p) = rooted at p
rooted at (G.yields p) =
    rooted1 (tokens_yields (1 + at) p (omega arith) (omega arith)) (omega arith) (omega arith) (omega arith)
rooted at (G.star_tuple {ts = ts} p c) =
    rooted2 (tokens at p (omega arith) (omega arith)) (singles_within (tokens_listing (at + (length ts + 1)) c (omega arith) (omega arith)))
    (omega arith) (omega arith) (simp length-append (omega arith))
rooted at (G.star_item p) =
    rooted1 (tokens (1 + at) p (omega arith) (omega arith)) (omega arith) (omega arith) (omega arith)
rooted at (G.named p) =
    rooted2 (own (omega arith) (omega arith) (omega arith)) (tokens (2 + at) p (omega arith) (omega arith)) (omega arith)
    (omega arith) (omega arith)
rooted at (G.lambda {ts = ts} c f p) =
    rooted2 (arranged_within (tokens_listing (1 + at) c (omega arith) (omega arith)))
    (tokens (2 + (at + length ts)) p (omega arith) (omega arith)) (omega arith) (omega arith) (simp length-append (omega arith))
rooted at (G.if_else {ts = ts} {us = us} p q r) =
    rooted3 (tokens (1 + (at + length ts)) q (omega arith) (omega arith)) (tokens at p (omega arith) (omega arith))
    (tokens (2 + (at + (length ts + length us))) r (omega arith) (omega arith)) (omega arith) (omega arith)
    (simp length-append (omega arith))
rooted at (G.chain {ts = ts} p c) =
    rooted2 (tokens at p (omega arith) (omega arith)) (tokens_chain (1 + (at + length ts)) c (omega arith) (omega arith)) (omega arith)
    (omega arith) (simp length-append (omega arith))
rooted at (G.unary f p) =
    rooted1 (tokens (1 + at) p (omega arith) (omega arith)) (omega arith) (omega arith) (omega arith)
rooted at (G.compare {ts = ts} p c) =
    let some = some_terminal p in
    rooted2 (tokens at p (omega arith) (omega arith)) (tokens_compares (at + length ts) c (omega arith) (omega arith)) (omega arith)
    (omega arith) (simp length-append (omega arith))
rooted at (G.binary {ts = ts} t f p q) =
    rooted2 (tokens at p (omega arith) (omega arith)) (tokens (1 + (at + length ts)) q (omega arith) (omega arith)) (omega arith)
    (omega arith) (simp length-append (omega arith))
rooted at (G.power {ts = ts} p q) =
    rooted2 (tokens at p (omega arith) (omega arith)) (tokens (1 + (at + length ts)) q (omega arith) (omega arith)) (omega arith)
    (omega arith) (simp length-append (omega arith))
rooted at (G.await p) =
    rooted1 (tokens (1 + at) p (omega arith) (omega arith)) (omega arith) (omega arith) (omega arith)
rooted at (G.attribute x p) =
    rooted1 (tokens at p (omega arith) (omega arith)) (omega arith) (omega arith) (simp length-append (omega arith))
rooted at (G.call {ts = ts} p c f) =
    rooted3 (tokens at p (omega arith) (omega arith))
    (positional_within (tokens_listing (1 + (at + length ts)) c (omega arith) (omega arith)))
    (keywords_within (tokens_listing (1 + (at + length ts)) c (omega arith) (omega arith))) (omega arith) (omega arith)
    (simp length-append (omega arith))
rooted at (G.call_generator {ts = ts} {us = us} p q c) =
    rooted4 (tokens at p (omega arith) (omega arith)) (tokens (1 + (at + length ts)) q (omega arith) (omega arith))
    (tokens_comps (1 + (at + (length ts + length us))) c (omega arith) (omega arith)) (own (omega arith) (omega arith) (omega arith))
    (omega arith) (omega arith) (simp length-append (omega arith))
rooted at (G.subscript {ts = ts} p q) =
    rooted2 (tokens at p (omega arith) (omega arith)) (tokens (1 + (at + length ts)) q (omega arith) (omega arith)) (omega arith)
    (omega arith) (simp length-append (omega arith))
rooted at G.name =
    rooted0 (omega arith) (omega arith) (omega arith)
rooted at (G.constant f) =
    rooted0 (omega arith) (omega arith) (omega arith)
rooted at G.number =
    rooted0 (omega arith) (omega arith) (omega arith)
rooted at (G.strings vs f) =
    let k = length-map vs Literal in rooted0 (omega arith) (omega arith) (omega arith)
rooted at (G.joined_string {ts = ts} {ps = ps} c b f) =
    let some : 0 < length ts = formatted_some ts f in
    let row : IsWithin at (at + length ts) (stretch at (at + length ts)) = is_within (omega arith) (omega arith) (omega arith) in
    rooted1 (strings_within (merged ps) row (tokens_literals row at c (omega arith) (omega arith))) (omega arith)
    (omega arith) (omega arith)
rooted at (G.group p) = rooted_in (rooted (1 + at) p) (omega arith) (simp length-append (omega arith))
rooted at (G.yield_group p) =
    rooted1 (tokens_yields (2 + at) p (omega arith) (omega arith)) (omega arith) (omega arith) (simp length-append (omega arith))
rooted at G.empty_tuple =
    rooted0 (omega arith) (omega arith) (omega arith)
rooted at (G.tuple {ts = ts} p c) =
    rooted2 (tokens (1 + at) p (omega arith) (omega arith))
    (singles_within (tokens_listing (2 + (at + length ts)) c (omega arith) (omega arith))) (omega arith) (omega arith)
    (simp length-append (omega arith))
rooted at (G.generator_group {ts = ts} p c) =
    rooted2 (tokens (1 + at) p (omega arith) (omega arith)) (tokens_comps (1 + (at + length ts)) c (omega arith) (omega arith))
    (omega arith) (omega arith) (simp length-append (omega arith))
rooted at (G.list c) =
    rooted1 (singles_within (tokens_listing (1 + at) c (omega arith) (omega arith))) (omega arith) (omega arith)
    (simp length-append (omega arith))
rooted at (G.list_comp {ts = ts} p c) =
    rooted2 (tokens (1 + at) p (omega arith) (omega arith)) (tokens_comps (1 + (at + length ts)) c (omega arith) (omega arith))
    (omega arith) (omega arith) (simp length-append (omega arith))
rooted at (G.dict c) =
    rooted2 (keys_within (tokens_listing (1 + at) c (omega arith) (omega arith)))
    (values_within (tokens_listing (1 + at) c (omega arith) (omega arith))) (omega arith) (omega arith)
    (simp length-append (omega arith))
rooted at (G.dict_comp {ts = ts} {us = us} p q c) =
    rooted3 (tokens (1 + at) p (omega arith) (omega arith)) (tokens (2 + (at + length ts)) q (omega arith) (omega arith))
    (tokens_comps (2 + (at + (length ts + length us))) c (omega arith) (omega arith)) (omega arith) (omega arith)
    (simp length-append (omega arith))
rooted at (G.set c) =
    rooted1 (singles_within (tokens_listing (1 + at) c (omega arith) (omega arith))) (omega arith) (omega arith)
    (simp length-append (omega arith))
rooted at (G.set_comp {ts = ts} p c) =
    rooted2 (tokens (1 + at) p (omega arith) (omega arith)) (tokens_comps (1 + (at + length ts)) c (omega arith) (omega arith))
    (omega arith) (omega arith) (simp length-append (omega arith))
rooted at (G.subject_tuple {ts = ts} p c) =
    rooted2 (tokens at p (omega arith) (omega arith)) (singles_within (tokens_listing (at + (length ts + 1)) c (omega arith) (omega arith)))
    (omega arith) (omega arith) (simp length-append (omega arith))
rooted at (G.star_elem p) =
    rooted1 (tokens (1 + at) p (omega arith) (omega arith)) (omega arith) (omega arith) (omega arith)
rooted at (G.star_slices p) =
    rooted2 (tokens (1 + at) p (omega arith) (omega arith)) (own (omega arith) (omega arith) (omega arith)) (omega arith)
    (omega arith) (omega arith)
rooted at (G.parts {ts = ts} p c) =
    rooted2 (tokens at p (omega arith) (omega arith)) (singles_within (tokens_listing (at + (length ts + 1)) c (omega arith) (omega arith)))
    (omega arith) (omega arith) (simp length-append (omega arith))
rooted at (G.star_part p) =
    rooted1 (tokens (1 + at) p (omega arith) (omega arith)) (omega arith) (omega arith) (omega arith)
rooted at (G.slice {ts = ts} p q) =
    rooted2 (tokens_perhaps at p (omega arith) (omega arith)) (tokens_perhaps (1 + (at + length ts)) q (omega arith) (omega arith))
    (omega arith) (omega arith) (simp length-append (omega arith))
rooted at (G.slice_step {ts = ts} {us = us} p q r) =
    rooted3 (tokens_perhaps at p (omega arith) (omega arith)) (tokens_perhaps (1 + (at + length ts)) q (omega arith) (omega arith))
    (tokens_perhaps (2 + (at + (length ts + length us))) r (omega arith) (omega arith)) (omega arith) (omega arith)
    (simp length-append (omega arith))
