use Rattle.std.proofs.Common.{sym, ◌∙◌, ◌≡◌, ◌<◌, ap, length, inl, inr, ◌⊎◌, true, false, Ok}
use Rattle.pysource.specs.Cookies.{cookie_of, leads_on, has_mark, without_mark, named_by}
use Rattle.pysource.proofs.LineReading.CookiesLemmas.{second_counts, neither_counts, not_empty, empty}
use Rattle.pysource.proofs.encodings.encoding_of.Goals as goal
use Rattle.pysource.proofs.encodings.encoding_of.Goals.{then-leads_on+else-not-is_empty-2, else-leads_on}

pub returns-then-not-is_empty-2 : goal.returns-then-not-is_empty-2
returns-then-not-is_empty-2 c =
    let line = without_mark c.args.first.now in
    let cookie : c.cookie_of-cookie.result.now ≡ cookie_of line = c.cookie_of-cookie.ensures ∙ ap cookie_of c.without_mark-line.ensures in
    let none : length (cookie_of line) ≡ 0 = rw (← cookie) (empty _ _ c.is_empty.ensures c.if-not-is_empty.false) in
    let leads : leads_on line ≡ true = rw (← c.without_mark-line.ensures) (sym c.leads_on.ensures ∙ c.if-leads_on.true) in
    let some : 0 < length (cookie_of c.args.second.now) =
    rw (← c.cookie_of-cookie-then-leads_on.ensures) (not_empty _ _ c.is_empty-then-leads_on.ensures c.if-not-is_empty-2.true) in
    c.named_by-then-not-is_empty-2.ensures ∙ ap (λ m. named_by m 2 c.cookie_of-cookie-then-leads_on.result.now)
    c.has_mark-marked.ensures.value
    ∙ ap (named_by (has_mark c.args.first.now) 2) c.cookie_of-cookie-then-leads_on.ensures
    ∙ sym (second_counts (length (cookie_of line)) (length (cookie_of c.args.second.now)) (leads_on line) _ _ _ none leads some)

pub returns : goal.returns
returns c =
    let line = without_mark c.args.first.now in
    let cookie : c.cookie_of-cookie.result.now ≡ cookie_of line = c.cookie_of-cookie.ensures ∙ ap cookie_of c.without_mark-line.ensures in
    let none : length (cookie_of line) ≡ 0 = rw (← cookie) (empty _ _ c.is_empty.ensures c.if-not-is_empty.false) in
    let out : (leads_on line ≡ false) ⊎ (length (cookie_of c.args.second.now) ≡ 0) = elim c.if-leads_on.branch [
      | then-leads_on+else-not-is_empty-2 w ↦ inr
          (rw (← w.cookie_of-cookie-then-leads_on.ensures) (empty _ _ w.is_empty-then-leads_on.ensures w.if-not-is_empty-2.false))
      | else-leads_on w ↦ inl (rw (← c.without_mark-line.ensures) (sym c.leads_on.ensures ∙ w.if-leads_on.false))
    ] in
    ap Ok c.plain.ensures
    ∙ sym (neither_counts (length (cookie_of line)) (length (cookie_of c.args.second.now)) (leads_on line) _ _ _ none out)
