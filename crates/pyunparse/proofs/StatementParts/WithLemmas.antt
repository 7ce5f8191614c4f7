-- Carries: write_with_header. The items of a `with`.
use Rattle.std.proofs.Common.{◌≡◌, ◌∙◌, Bool, true, false, not, if◌then◌else◌, List, [], ◌∷◌, ◌++◌, map, refl, ap, sym, append-nil}
use Rattle.std.proofs.Common.{append_assoc}
use Rattle.pylex_lexeme.specs.declared.kinds.Exact.TheVariants.{Colon}
use Rattle.pytoken.specs.declared.keywords.Keyword.TheVariants as Key
use Rattle.pygrammar.specs.Lines.{with_header}
use Rattle.pytree_node.specs.Trees as plain
use Rattle.pyunparse_text.specs.Pieces.{Sited, piece}
use Rattle.pyunparse_text.specs.Statements.{async, item, items, need_brackets}
use Rattle.pyunparse_text.specs.Written.{bracketed, listed, trailing, word}
use Rattle.pyunparse_text.specs.Folds.{closed, opened, puts}
use Rattle.pyunparse.specs.Inner.Lines.{with_colon}
use Rattle.pyunparse.proofs.Sequences.FoldLemmas.{six}

-- in brackets or not
pub items_parts : (is : List plain.Item)
    → opened (not (need_brackets is)) ++ (listed piece (map (item piece) is) ++ closed (not (need_brackets is))) ≡ items piece is
items_parts is = by (need_brackets is)
  where
    by : (b : Bool) → opened (not b) ++ (listed piece (map (item piece) is) ++ closed (not b)) ≡
        (if b then bracketed piece (listed piece (map (item piece) is)) else listed piece (map (item piece) is))
    by true = refl
    by false = append-nil (listed piece (map (item piece) is))

pub with_on : {S : Type 0} (after : S → Sited → S) (s : S) (b : Bool) (is : List plain.Item) (r : Bool) (s1 s2 s3 s4 s5 : S)
    → r ≡ need_brackets is →
    s1 ≡ puts after s (async piece b) → s2 ≡ puts after s1 (word piece Key.With ∷ []) → s3 ≡ puts after s2 (opened (not r)) →
    s4 ≡ puts after s3 (listed piece (map (item piece) is)) → s5 ≡ puts after s4 (closed (not r)) →
    puts after s5 (trailing piece Colon ∷ []) ≡ puts after s (with_colon (with_header b is))
with_on after s b is r s1 s2 s3 s4 s5 h e1 e2 e3 e4 e5 =
    let colon : List Sited = trailing piece Colon ∷ [] in
    let L : List Sited = listed piece (map (item piece) is) in
    six after s (async piece b) (word piece Key.With ∷ []) (opened (not r)) L (closed (not r)) colon s1 s2 s3 s4 s5 e1 e2 e3 e4 e5
    ∙ ap (λ z. puts after s (async piece b ++ (word piece Key.With ∷ z)))
    (ap (λ z. opened (not r) ++ z) (sym (append_assoc L (closed (not r)) colon))
    ∙ sym (append_assoc (opened (not r)) (L ++ closed (not r)) colon)
    ∙ ap (λ z. (opened (not z) ++ (L ++ closed (not z))) ++ colon) h
    ∙ ap (λ z. z ++ colon) (items_parts is))
    ∙ ap (puts after s) (sym (append_assoc (async piece b) (word piece Key.With ∷ items piece is) colon))
