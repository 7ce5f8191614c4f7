-- On: a line of tokens of a source has a span for each of its terminals.
--
-- Carries: what a reader of trees with places cites.
use Rattle.std.proofs.Common.{◌≡◌, ℕ, zero, suc, ◌+◌, List, [], ◌∷◌, length, refl, arith, length-append}
use Rattle.std.specs.Prelude.{All}
use Rattle.std.specs.List.{flat_map}
use Rattle.pytoken.specs.SourceTokens.{IsOfSource}
use Rattle.pytoken.specs.Terminals.{Terminal, terminals_of}
use Rattle.pytoken.specs.Tokens.{Token}
use Rattle.pyparse_marks.specs.LineSpans.{offset, spans_of}
use Rattle.pyparse_marks.proofs.FittingTokens.{each_has_span}

abbrev own : Token → List Terminal
own t = terminals_of t.kind t.text

pub tokens_have_spans : (text : List ℕ) (ts : List Token) → All IsOfSource ts
    → length (flat_map (spans_of text) ts) ≡ length (flat_map (λ t. terminals_of t.kind t.text) ts)
tokens_have_spans text [] all = refl
tokens_have_spans text (t ∷ ts) all =
    let here = all zero t (omega arith) in
    let one : length (spans_of text t) ≡ length (own t) =
    each_has_span (offset t.start.row t.start.column text) t.kind t.text here.0 here.1.faultless in
    let rest = tokens_have_spans text ts (λ k d within. all (suc k) d (omega (arith, within))) in
    let left : length (flat_map (spans_of text) (t ∷ ts)) ≡ length (spans_of text t) + length (flat_map (spans_of text) ts) =
    length-append (spans_of text t) (flat_map (spans_of text) ts) in
    let right : length (flat_map own (t ∷ ts)) ≡ length (own t) + length (flat_map own ts) = length-append (own t) (flat_map own ts) in
    omega (arith, one, rest, left, right)
