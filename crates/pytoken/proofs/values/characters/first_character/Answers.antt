use Rattle.std.proofs.Common.{ℕ, List, Some, drop, slice_get, sym, ap, ◌∙◌}
use Rattle.std.specs.Str.{chars}
use Rattle.pytoken.specs.StringValues.{with_line_feeds}
use Rattle.pytoken.proofs.values.OwnLemmas.{own_first, own_boundary, own_none}
use Rattle.pytoken.proofs.values.characters.first_character.Goals as goal

pub range_from-requires : goal.range_from-requires
range_from-requires c = λ _.
    let here = ap (λ (t : List ℕ). slice_get t 0) (sym c.as_bytes.ensures.value) ∙ sym c.in-Some.ensures.value in
    own_boundary c.args.text.now c.in-Some.byte.now c.utf8.text here (sym c.if-is_own.ensures)

pub returns-in-Some-clause-first : goal.returns-in-Some-clause-first
returns-in-Some-clause-first c =
    let here = ap (λ (t : List ℕ). slice_get t 0) (sym c.as_bytes.ensures.value) ∙ sym c.in-Some.ensures.value in
    let first = own_first c.args.text.now c.in-Some.byte.now c.utf8.text here (sym c.if-is_own.ensures) in
    ap (λ (k : ℕ). Some k) c.from.ensures ∙ ap (λ (t : List ℕ). slice_get t 0) (sym first)

pub returns-in-Some-clause-rest : goal.returns-in-Some-clause-rest
returns-in-Some-clause-rest c =
    let here = ap (λ (t : List ℕ). slice_get t 0) (sym c.as_bytes.ensures.value) ∙ sym c.in-Some.ensures.value in
    let first = own_first c.args.text.now c.in-Some.byte.now c.utf8.text here (sym c.if-is_own.ensures) in
    ap (λ (bs : List ℕ). with_line_feeds (chars bs)) c.range_from.ensures.value ∙ ap (drop 1) (sym first)

pub returns-in-None-clause-first : goal.returns-in-None-clause-first
returns-in-None-clause-first c =
    let none = own_none c.args.text.now (ap (λ (t : List ℕ). slice_get t 0) (sym c.as_bytes.ensures.value) ∙ sym c.in-None.ensures.value) in
    ap (λ (t : List ℕ). slice_get t 0) (sym none)

pub returns-in-None-clause-rest : goal.returns-in-None-clause-rest
returns-in-None-clause-rest c =
    let none = own_none c.args.text.now (ap (λ (t : List ℕ). slice_get t 0) (sym c.as_bytes.ensures.value) ∙ sym c.in-None.ensures.value) in
    none ∙ ap (drop 1) (sym none)
