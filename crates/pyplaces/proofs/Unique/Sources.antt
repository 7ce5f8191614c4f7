-- Two derivations of a source have the same places.
--
-- Carries: of_sources, for Law. On: Blocks.
use Rattle.std.proofs.Common.{◌≡◌, refl, ap, ◌∙◌, subst, Bool, List, ◌∷◌}
use Rattle.pytree_node.specs.declared.profiles.Profile.{Profile}
use Rattle.pytoken.specs.Terminals.{Terminal}
use Rattle.pytoken.specs.Tokens as Tokens
use Rattle.pyparse_marks.specs.LineSpans.{line_spans}
use Rattle.pygrammar.specs.Lines.{Line, line, Form}
use Rattle.pygrammar.specs.Forms.{FormAt}
use Rattle.pygrammar.specs.Blocks.{stands_in_match}
use Rattle.pygrammar.specs.Refusals.{Formed, formed_end, formed_line}
use Rattle.pygrammar.proofs.Callers.SourceLaw.{forms_are_lawful}
use Rattle.pyplaces.specs.Stretches.{Span}
use Rattle.pyplaces.specs.FormPlaces.{places_at}
use Rattle.pyplaces.specs.BlockPlaces.{line_of, block_places}
use Rattle.pyplaces.specs.ModulePlaces.{formed_places}
use Rattle.pyplaces.specs.Unique.{OfLines, OfSources}
use Rattle.pyplaces.proofs.Unique.Blocks.{blocks_alike}

-- a line, where both derivations have it in a `match`, or neither
line_alike : OfLines → {profile : Profile} {i j : Bool} {ts : List Terminal} {f g : Form} → i ≡ j → (p : FormAt profile i ts f)
    (q : FormAt profile j ts g) → (f ≡ g) × (places_at p ≡ places_at q)
line_alike lines {profile} {i} {ts = ts} {f = f} {g = g} e p q =
    let P : Bool → Type 0 = λ k. (q : FormAt profile k ts g) → (f ≡ g) × (places_at p ≡ places_at q) in
    subst P e (λ q. (forms_are_lawful.unique profile i ts f g p q, lines profile i ts f g p q)) q

-- lines, after the same ones
lines_alike : OfLines → (spans : Tokens.Line → List Span) {profile : Profile} {earlier : List Line} {xs : List Tokens.Line}
    {ys before zs : List Line} (p : Formed profile earlier xs ys) (q : Formed profile before xs zs) → earlier ≡ before
    → (ys ≡ zs) × (formed_places spans p ≡ formed_places spans q)
lines_alike lines spans formed_end formed_end e = (refl, refl)
lines_alike lines spans {before = before} (formed_line {x = x} {f = f} {ys = ys} h p) (formed_line {f = g} k q) e =
    let m = line_alike lines (ap (stands_in_match x.level) e) h.is k.is in
    let n = lines_alike lines spans p q (ap (λ z. line x.level f ∷ z) e ∙ ap (λ y. line x.level y ∷ before) m.0) in (
      ap (λ y. line x.level y ∷ ys) m.0 ∙ ap (λ z. line x.level g ∷ z) n.0,
      ap (λ z. line_of (spans x) z ∷ formed_places spans p) m.1 ∙ ap (λ zs. line_of (spans x) (places_at k.is) ∷ zs) n.1,
    )

pub of_sources : OfLines → OfSources
of_sources lines profile s m n a b =
    let spans = line_spans s.text in
    let e = lines_alike lines spans a.formed b.formed refl in
    blocks_alike e.0 a.block b.block (formed_places spans a.formed) ∙ ap (λ zs. block_places zs b.block) e.1
