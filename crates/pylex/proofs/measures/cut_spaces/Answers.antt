use Rattle.std.proofs.Common.{◌≡◌, ℕ, ◌<◌, false, List, take, drop, ap, sym, subst, ◌∙◌, arith}
use Rattle.std.specs.Str.{chars}
use Rattle.pylex_lexeme.specs.declared.lexeme.Class.TheVariants.{Blanks}
use Rattle.pylex_lexeme.specs.Chars.{begins, is_blank_char}
use Rattle.pylex_lexeme.specs.Cuts.{Cuts}
use Rattle.pylex.specs.Inner.Plain.{AreSpaces}
use Rattle.pylex.proofs.Texts.Spaces.{spaced}
use Rattle.pylex.proofs.measures.cut_spaces.Goals as goal

pub split_at-requires : goal.split_at-requires
split_at-requires c = (spaced c.args.text.now c.space_count-count.result c.utf8.text c.space_count-count.ensures).boundary

pub returns-clause-spaces : goal.returns-clause-spaces
returns-clause-spaces c = subst AreSpaces (sym c.split_at.ensures.front)
    (spaced c.args.text.now c.space_count-count.result c.utf8.text c.space_count-count.ensures).front

pub returns-clause-cuts : goal.returns-clause-cuts
returns-clause-cuts c =
    let text = c.args.text.now in
    let n = c.space_count-count.result in
    let some : 0 < n = omega arith in
    let other : begins is_blank_char (chars (drop n text)) ≡ false =
    ap (λ (t : List ℕ). begins is_blank_char (chars t)) (sym c.split_at.ensures.back) ∙ sym c.if-begins_blank.ensures in
    subst (λ (t : List ℕ). Cuts text Blanks t c.split_at.result.1.now) (sym c.split_at.ensures.front)
    (subst (λ (t : List ℕ). Cuts text Blanks (take n text) t) (sym c.split_at.ensures.back)
    ((spaced text n c.utf8.text c.space_count-count.ensures).cuts some other))
