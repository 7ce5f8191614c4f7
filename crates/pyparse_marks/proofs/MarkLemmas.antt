-- Carries: push_token. On: the spans of a token.
use Rattle.std.proofs.Common.{◌≡◌, ℕ, ◌+◌, Bool, false, List, [], ◌∷◌, ap, if◌then◌else◌}
use Rattle.pylex_listing.specs.declared.kind.Kind.{Kind}
use Rattle.pylex_lexeme.specs.Chars.{bytes_in}
use Rattle.pytoken.specs.FormattedStrings.{is_fstring}
use Rattle.pyparse_marks.specs.Spans.{span}
use Rattle.pyparse_marks.specs.TokenSpans.{Walk, past_formatted, past_nested, past_single, token_spans}

-- one that is no f-string
pub single_spans : (at : ℕ) (k : Kind) (t : List ℕ) → is_fstring k t ≡ false → token_spans at k t ≡ span at (at + bytes_in t) ∷ []
unfolding token_spans
single_spans at k t none =
    let w : Walk = record { at = at; spans = [] } in
    ap (λ (b : Bool). (if b then past_formatted false past_nested t w else past_single k t w).spans) none
