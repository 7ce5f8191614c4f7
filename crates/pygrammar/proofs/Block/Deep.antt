-- Some line is the first that begins a statement too deep exactly where the module is too high.
--
-- Carries: formed_flat, formed_proper, deep_is_high, deep_within, for Blocks. On: Heights.
use Rattle.std.proofs.Common.{◌≡◌, ◌↔◌, ◌⊎◌, inl, inr, ℕ, suc, ◌<◌, ◌≤◌, max, List, [], ◌∷◌, length, ◌+◌, Option, Some, None, Bool, true}
use Rattle.std.proofs.Common.{false, ◌&&◌, refl, ap, ◌∙◌, arith}
use Rattle.std.specs.Prelude.{nat_lt}
use borrow.Author.Tests.{ltb-true, ltb-false}
use Rattle.pytree_node.specs.declared.profiles.Profile.{Profile}
use Rattle.pytree_node.specs.Trees.{Stmt, Module}
use Rattle.pytree_height.specs.Heights.{stmt_height, statement_height}
use Rattle.pytoken.specs.Terminals.{Terminal}
use Rattle.pytoken.specs.Tokens as Tokens
use Rattle.pygrammar.specs.Lines.{Line, Form, header_form, Header, match_header, is_proper, are_proper}
use Rattle.pygrammar.specs.Forms as F
use Rattle.pygrammar.specs.Blocks.{Block}
use Rattle.pygrammar.specs.Refusals.{Formed, formed_end, formed_line, beginning, IsDeep, FirstDeep, deep, deep_after}
use Rattle.pygrammar.proofs.Block.Heights.{high, IsFlat, AreFlat, top, deepest, block_depth}

-- ---- Simple statements have none inside, and the header of a `match` has no inline suite.

simple_flat : {profile : Profile} {ts : List Terminal} {s : Stmt} → F.Simple profile ts s → stmt_height s ≡ 1
simple_flat (F.value p) = refl
simple_flat _ = refl

simples_flat : {profile : Profile} {ts : List Terminal} {ss : List Stmt} → F.Simples profile ts ss → high ss ≡ 1
simples_flat (F.last_simple p) = let a = simple_flat p in omega arith
simples_flat (F.ended_simple p) = let a = simple_flat p in omega arith
simples_flat (F.more_simples p q) = let a = simple_flat p in let b = simples_flat q in omega arith

form_flat : {profile : Profile} {ts : List Terminal} {f : Form} → F.FormOf profile ts f → IsFlat f
form_flat (F.simple_statements p) = simples_flat p
form_flat (F.decorator_line p) = tt
form_flat (F.header_line p) = tt
form_flat (F.header_suite p q) = simples_flat q
form_flat (F.match_line form w p) = tt

place_flat : {profile : Profile} {inside : Bool} {ts : List Terminal} {f : Form} → F.FormAt profile inside ts f → IsFlat f
place_flat (F.other_line n p) = form_flat p
place_flat (F.case_alone w p) = tt
place_flat (F.case_suite w p q) = simples_flat q

pub formed_flat : {profile : Profile} {earlier : List Line} {xs : List Tokens.Line} {ys : List Line}
    → Formed profile earlier xs ys → AreFlat ys
formed_flat formed_end = tt
formed_flat (formed_line h p) = (place_flat h.is, formed_flat p)

header_proper : {profile : Profile} {ts : List Terminal} {h : Header} → F.HeaderOf profile ts h → (ss : List Stmt)
    → is_proper (header_form h (Some ss)) ≡ true
header_proper (F.if_line p) ss = refl
header_proper _ ss = refl

alone_proper : (h : Header) → is_proper (header_form h None) ≡ true
alone_proper (match_header subject) = refl
alone_proper _ = refl

form_proper : {profile : Profile} {ts : List Terminal} {f : Form} → F.FormOf profile ts f → is_proper f ≡ true
form_proper (F.simple_statements p) = refl
form_proper (F.decorator_line p) = refl
form_proper (F.header_line {h = h} p) = alone_proper h
form_proper (F.header_suite {ss = ss} p q) = header_proper p ss
form_proper (F.match_line form w p) = refl

place_proper : {profile : Profile} {inside : Bool} {ts : List Terminal} {f : Form} → F.FormAt profile inside ts f → is_proper f ≡ true
place_proper (F.other_line n p) = form_proper p
place_proper (F.case_alone {h = h} w p) = alone_proper h
place_proper (F.case_suite w (F.case_line form p g) q) = refl

pub formed_proper : {profile : Profile} {earlier : List Line} {xs : List Tokens.Line} {ys : List Line}
    → Formed profile earlier xs ys → are_proper ys ≡ true
formed_proper formed_end = refl
formed_proper (formed_line {ys = ys} h p) = ap (λ z. z && are_proper ys) (place_proper h.is) ∙ formed_proper p

-- ---- The first deep line.

deep_or_not : (o : Option ℕ) → IsDeep o ⊎ ((IsDeep o → ⊥) × (top o ≤ 500))
deep_or_not None = inr (λ h. h, omega arith)
deep_or_not (Some n) = elim (nat_lt n 500) as (λ b. nat_lt n 500 ≡ b → IsDeep (Some n) ⊎ ((IsDeep (Some n) → ⊥) × (top (Some n) ≤ 500))) [
  | true ↦ λ e. let l : n < 500 = ltb-true n 500 e in inr (λ (h : 500 ≤ n). omega (arith, h, l), l)
  | false ↦ λ e. inl (ltb-false n 500 e)
] refl

deep_top : (o : Option ℕ) → IsDeep o → 500 < top o
deep_top None h = absurd h
deep_top (Some n) h = omega (arith, h)

less_left : (a b : ℕ) → 500 < a → 500 < max a b
less_left a b h = omega arith

less_right : (a b : ℕ) → 500 < b → 500 < max a b
less_right a b h = omega arith

less_later : (a b : ℕ) → 500 < max a b → a ≤ 500 → 500 < b
less_later a b h k = omega arith

find_deep : (earlier xs : List Line) → 500 < deepest earlier xs → (n : ℕ) × FirstDeep earlier xs n
find_deep earlier [] h = absurd (omega (arith, h))
find_deep earlier (x ∷ xs) h = elim (deep_or_not (beginning x earlier)) [
  | inl d ↦ (0, deep d)
  | inr d ↦ let r = find_deep (x ∷ earlier) xs (less_later (top (beginning x earlier)) (deepest (x ∷ earlier) xs) h d.1) in
      (suc r.0, deep_after d.0 r.1)
]

deep_found : {earlier xs : List Line} {n : ℕ} → FirstDeep earlier xs n → 500 < deepest earlier xs
deep_found (deep {earlier = earlier} {x = x} {xs = xs} d) = less_left (top (beginning x earlier)) (deepest (x ∷ earlier) xs)
    (deep_top (beginning x earlier) d)
deep_found (deep_after {earlier = earlier} {x = x} {xs = xs} d p) =
    less_right (top (beginning x earlier)) (deepest (x ∷ earlier) xs) (deep_found p)

pub deep_within : {earlier xs : List Line} {n : ℕ} → FirstDeep earlier xs n → n < length xs
deep_within (deep d) = omega arith
deep_within (deep_after d p) = let h = deep_within p in omega arith

pub deep_is_high : {forms : List Line} {m : Module} → Block 0 forms m.body → AreFlat forms
    → ((n : ℕ) × FirstDeep [] forms n) ↔ (500 < statement_height m)
deep_is_high {forms} {m} b f =
    let e : max 0 (deepest [] forms) ≡ 0 + statement_height m = (block_depth b [] 0 refl f).is in
    (λ p. omega (arith, e, deep_found p.1), λ h. find_deep [] forms (omega (arith, e, h)))
