use Rattle.std.proofs.Common.{◌≡◌, ◌∙◌, [], ◌∷◌, ap, sym, true, false}
use Rattle.std.specs.Prelude.{◌&&◌, Bool}
use Rattle.std.specs.Str.{chars, bytes_eq}
use Rattle.pytoken.proofs.Callers.Said.{same_word}
use Rattle.pyparse_tokens.proofs.EndLemmas.{match_is_ascii, colon_is_ascii}
use Rattle.pyparse_tokens.proofs.open_line.spell_match.Goals as goal

pub returns-then-eq : goal.returns-then-eq
returns-then-eq c =
    let first : bytes_eq (chars c.args.first.now) (109 ∷ 97 ∷ 116 ∷ 99 ∷ 104 ∷ []) ≡ true =
    same_word c.args.first.now (109 ∷ 97 ∷ 116 ∷ 99 ∷ 104 ∷ []) c.utf8.first match_is_ascii ∙ sym c.eq.ensures ∙ c.if-eq.true in
    let last = same_word c.args.last.now (58 ∷ []) c.utf8.last colon_is_ascii in
    c.eq-then-eq.ensures ∙ sym last ∙ ap (λ (b : Bool). b && bytes_eq (chars c.args.last.now) (58 ∷ [])) (sym first)

pub returns-else-eq : goal.returns-else-eq
returns-else-eq c =
    let first : bytes_eq (chars c.args.first.now) (109 ∷ 97 ∷ 116 ∷ 99 ∷ 104 ∷ []) ≡ false =
    same_word c.args.first.now (109 ∷ 97 ∷ 116 ∷ 99 ∷ 104 ∷ []) c.utf8.first match_is_ascii ∙ sym c.eq.ensures ∙ c.if-eq.false in
    c.if-eq.false ∙ ap (λ (b : Bool). b && bytes_eq (chars c.args.last.now) (58 ∷ [])) (sym first)
