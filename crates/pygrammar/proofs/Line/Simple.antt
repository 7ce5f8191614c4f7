-- Completeness for simple statements.
--
-- Carries: Full, simples_full, statements_goes, for Law. On: Tools, Values,
-- Imports, LookLemmas and 3 more.
use Rattle.std.proofs.Common.{◌≡◌, refl, sym, ap, ◌∙◌, ℕ, zero, suc, ◌≤◌, ◌<◌, arith, List, [], ◌∷◌, ◌++◌, length, true, false}
use Rattle.std.proofs.Common.{append_assoc, length-append}
use Rattle.std.proofs.lemmas.List.{append-nil}
use Rattle.pylex_lexeme.specs.declared.kinds.Exact.TheVariants as Sign
use Rattle.pytoken.specs.declared.keywords.Keyword.TheVariants as Key
use Rattle.pytree_node.specs.declared.profiles.Profile.{Profile}
use Rattle.pygrammar.specs.declared.levels.Level.TheVariants.{Expression}
use Rattle.pytree_node.specs.Trees.{Expr, Stmt}
use Rattle.pytoken.specs.Terminals.{Terminal, Op, Word}
use Rattle.pygrammar.specs.Looks.{is_op, is_word}
use Rattle.pygrammar.specs.Entries.{Of}
use Rattle.pygrammar.specs.Grammar as G
use Rattle.pygrammar.specs.Reader.{Found, made}
use Rattle.pygrammar.specs.Precedence.{starts}
use Rattle.pygrammar.proofs.Answers.{none_found}
use Rattle.pygrammar.proofs.Completeness.LookLemmas.{grip_of}
use Rattle.pygrammar.proofs.Completeness.Climb.{Stops}
use Rattle.pygrammar.proofs.Completeness.Comps.{starts_low}
use Rattle.pygrammar.specs.Forms as F
use Rattle.pygrammar.specs.LineReader.{plain, deleted_one, statement, statements, on_none}
use Rattle.pygrammar.proofs.Line.Tools.{thus, when, unless, Ends, at_end, at_semi, ends_grip, ends_lead, ends_miss, front, started}
use Rattle.pygrammar.proofs.Line.Tools.{if_any_goes, after_goes, after_grip, commas?_goes}
use Rattle.pygrammar.proofs.Line.Imports.{identifiers_goes, modules_goes, from_module_goes, from_dots_goes}
use Rattle.pygrammar.proofs.Line.Types.{alias_goes}
use Rattle.pygrammar.proofs.Line.Values.{expression_goes, assign_goes, augmented_goes, name_annotated_goes, part_annotated_goes}
use Rattle.pygrammar.proofs.Line.Values.{group_annotated_goes}

deleted_goes : (ts : List Terminal) (e : Expr) → G.DelTarget ts e → (r : List Terminal) → Stops Expression r
    → deleted_one plain (ts ++ r) ≡ Found e r
deleted_goes ts e (G.del_target p q) r s = thus _ _ (front p r s) (ap (λ o. made o r) q)

deleted_starts : (ts : List Terminal) (e : Expr) → G.DelTarget ts e → (r : List Terminal) → starts (Of Expression) (ts ++ r) ≡ true
deleted_starts ts e (G.del_target p q) r = started p r

module _ {r : List Terminal} (w : Ends r) where
  low : grip_of r ≤ 8
  low = omega (arith, ends_grip w)

  not_begun : starts (Of Expression) r ≡ false
  not_begun = starts_low Expression r (omega (arith, ends_lead w))

pub simple_goes : (profile : Profile) {ts : List Terminal} {s : Stmt} → F.Simple profile ts s → (r : List Terminal) → Ends r
    → statement profile plain (ts ++ r) ≡ Found s r
simple_goes profile (F.value p) r w = expression_goes profile p r w
simple_goes profile (F.assign c p) r w = assign_goes profile c p r w
simple_goes profile (F.augmented_assign x p q v) r w = augmented_goes profile x p q v r w
simple_goes profile (F.annotated_name {x = x} p q) r w = name_annotated_goes profile x p q r w
simple_goes profile (F.annotated_group p q v) r w = group_annotated_goes profile p q v r w
simple_goes profile (F.annotated_part p n q v) r w = part_annotated_goes profile p n q v r w
simple_goes profile (F.type_alias {form = form} {x = x} h c p) r w = alias_goes profile form x h c p r w
simple_goes profile (F.return_of p) r w =
    thus _ _ (if_any_goes p r (omega (arith, ends_grip w), omega (arith, ends_lead w)) (omega (arith, ends_lead w))) refl
simple_goes profile F.raise_alone r w = unless _ _ _ (not_begun w) refl
simple_goes profile (F.raise_of {ts = ts} {us = us} p q) r w = ap (λ z. statement profile plain (Word Key.Raise ∷ z)) (append_assoc ts us r)
    ∙ when _ _ _ (started p (us ++ r)) (thus _ _ (front p (us ++ r) (after_grip q r (omega arith) (low w)))
    (thus _ _ (after_goes q refl r (low w) (ends_miss (is_word Key.From) refl w)) refl))
simple_goes profile (F.assert_of {ts = ts} {us = us} p q) r w = ap (λ z. statement profile plain (Word Key.Assert ∷ z))
    (append_assoc ts us r) ∙ thus _ _ (front p (us ++ r) (after_grip q r (omega arith) (low w)))
    (thus _ _ (after_goes q refl r (low w) (ends_miss (is_op Sign.Comma) refl w)) refl)
simple_goes profile (F.delete c) r w =
    thus _ _ (commas?_goes Expr G.DelTarget (deleted_one plain) (starts (Of Expression)) (Stops Expression) deleted_goes deleted_starts
    (λ r. omega arith) c r (ends_miss (is_op Sign.Comma) refl w) (not_begun w) (low w)) refl
simple_goes profile (F.global c) r w = thus _ _ (identifiers_goes c r (ends_miss (is_op Sign.Comma) refl w)) refl
simple_goes profile (F.nonlocal c) r w = thus _ _ (identifiers_goes c r (ends_miss (is_op Sign.Comma) refl w)) refl
simple_goes profile F.pass r w = refl
simple_goes profile F.break r w = refl
simple_goes profile F.continue r w = refl
simple_goes profile (F.import_names c) r w =
    thus _ _ (modules_goes c r (ends_miss (is_op Sign.Comma) refl w) (ends_miss (is_op Sign.Dot) refl w, ends_miss (is_word Key.As) refl w))
    refl
simple_goes profile (F.from_module d p q) r w = from_module_goes d p q r (ends_miss (is_op Sign.Comma) refl w)
    (ends_miss (is_op Sign.Dot) refl w, ends_miss (is_word Key.As) refl w)
simple_goes profile (F.from_dots d h q) r w = from_dots_goes d h q r (ends_miss (is_op Sign.Comma) refl w)
    (ends_miss (is_op Sign.Dot) refl w, ends_miss (is_word Key.As) refl w)

-- no statement is empty
pub filled : (profile : Profile) {ts : List Terminal} {s : Stmt} → F.Simple profile ts s → ts ≡ [] → ⊥
filled profile {ts} {s} p q = none_found s [] (ap (λ z. statement profile plain (z ++ [])) (sym q) ∙ simple_goes profile p [] at_end)

-- whether a list has a first
abbrev pub Full : List Terminal → Type 0
Full ts = (t : Terminal) × (us : List Terminal) × (ts ≡ t ∷ us)

pub full_of : (ts : List Terminal) → (ts ≡ [] → ⊥) → Full ts
full_of [] h = absurd (h refl)
full_of (t ∷ ts) h = (t, ts, refl)

pub full_front : (ts us : List Terminal) → Full ts → Full (ts ++ us)
full_front ts us f = (f.0, f.1 ++ us, ap (λ z. z ++ us) f.2)

pub simples_full : (profile : Profile) {ts : List Terminal} {ss : List Stmt} → F.Simples profile ts ss → Full ts
simples_full profile (F.last_simple {ts = ts} p) = full_of ts (filled profile p)
simples_full profile (F.ended_simple {ts = ts} p) = full_front ts _ (full_of ts (filled profile p))
simples_full profile (F.more_simples {ts = ts} p c) = full_front ts _ (full_of ts (filled profile p))

on_full : {A : Type 0} (r : List Terminal) (x y : A) → Full r → on_none r x y ≡ y
on_full r x y f = ap (λ z. on_none z x y) f.2

statements_loop : (profile : Profile) (n : ℕ) {ts : List Terminal} {ss : List Stmt} → F.Simples profile ts ss → length ts < n
    → statements profile plain n ts ≡ Found ss []
statements_loop profile zero c l = absurd (omega (arith, l))
statements_loop profile (suc n) (F.last_simple {ts = ts} p) l = ap (statements profile plain (suc n)) (sym (append-nil ts))
    ∙ thus _ _ (simple_goes profile p [] at_end) refl
statements_loop profile (suc n) (F.ended_simple {ts = ts} p) l = thus _ _ (simple_goes profile p (Op Sign.Semi ∷ []) at_semi) refl
statements_loop profile (suc n) (F.more_simples {ts = ts} {us = us} p c) l = thus _ _ (simple_goes profile p (Op Sign.Semi ∷ us) at_semi)
    (on_full us _ _ (simples_full profile c)
    ∙ thus _ _ (statements_loop profile n c (omega (arith, l, length-append ts (Op Sign.Semi ∷ us)))) refl)

pub statements_goes : (profile : Profile) {ts : List Terminal} {ss : List Stmt} → F.Simples profile ts ss
    → statements profile plain (suc (length ts)) ts ≡ Found ss []
statements_goes profile {ts} c = statements_loop profile (suc (length ts)) c (omega arith)
