-- The header of a `match` is told by the ends of its line: it begins with the word `match` and ends
-- in a colon, and no line of another form does both.
--
-- Carries: has_match_ends, header_ends, simples_ends, match_by_ends, for Law, Callers/Lines. On:
-- Colons.
use Rattle.std.proofs.Common.{◌≡◌, refl, sym, ◌∙◌, List, [], ◌∷◌, ◌++◌, Bool, false}
use Rattle.std.specs.Prelude.{◌&&◌}
use Rattle.std.proofs.lemmas.Bool.{and_right}
use Rattle.pylex_lexeme.specs.declared.kinds.Exact.TheVariants as Sign
use Rattle.pytree_node.specs.declared.profiles.Profile.{Profile}
use Rattle.pytree_node.specs.Trees.{Stmt}
use Rattle.pytoken.specs.Terminals.{Terminal, Op}
use Rattle.pygrammar.specs.Lines.{Form, Header}
use Rattle.pygrammar.specs.Forms as F
use Rattle.pygrammar.specs.Blocks.{kind_of, header_kind}
use Rattle.pygrammar.specs.Blocks as Blocks
use Rattle.pygrammar.specs.LineReader.{is_match, ends_in_colon}
use Rattle.pygrammar.proofs.Line.Colons.{NotColon, last, simples_end}

-- a list has both ends of the header of a `match`
abbrev pub has_match_ends : List Terminal → Bool
has_match_ends [] = false
has_match_ends (t ∷ ts) = is_match t && ends_in_colon ts

-- a list that ends in no colon
unmatched : (ts : List Terminal) → NotColon ts → has_match_ends ts ≡ false
unmatched [] h = refl
unmatched (t ∷ ts) h = and_right (is_match t) (ends_in_colon ts) (rest ts h)
  where
    rest : (ts : List Terminal) → NotColon (t ∷ ts) → NotColon ts
    rest [] h = refl
    rest (u ∷ ts) h = h

pub simples_ends : {profile : Profile} {ts : List Terminal} {ss : List Stmt} → F.Simples profile ts ss → has_match_ends ts ≡ false
simples_ends {ts = ts} c = unmatched ts (simples_end c)

-- a header of another statement begins with another word
pub header_ends : {profile : Profile} {ts : List Terminal} {h : Header} → F.HeaderOf profile ts h → (r : List Terminal)
    → (Blocks.is_match (header_kind h) ≡ false) × (has_match_ends (ts ++ r) ≡ false)
header_ends (F.for_line F.no_async p q) r = (refl, refl)
header_ends (F.for_line F.async p q) r = (refl, refl)
header_ends (F.with_line F.no_async p) r = (refl, refl)
header_ends (F.with_line F.async p) r = (refl, refl)
header_ends (F.def_line x F.no_async g c q k) r = (refl, refl)
header_ends (F.def_line x F.async g c q k) r = (refl, refl)
header_ends _ r = (refl, refl)

form_by_ends : {profile : Profile} {ts : List Terminal} {f : Form} → F.FormOf profile ts f → Blocks.is_match (kind_of f) ≡ has_match_ends ts
form_by_ends (F.simple_statements c) = sym (simples_ends c)
form_by_ends (F.decorator_line p) = refl
form_by_ends (F.header_line p) = let h = header_ends p (Op Sign.Colon ∷ []) in h.0 ∙ sym h.1
form_by_ends (F.header_suite {us = us} p c) = let h = header_ends p (Op Sign.Colon ∷ us) in h.0 ∙ sym h.1
form_by_ends (F.match_line {ts = ts} form w p) = sym (last ts [] (Op Sign.Colon))

-- the law
pub match_by_ends : {profile : Profile} {inside : Bool} {ts : List Terminal} {f : Form} → F.FormAt profile inside ts f
    → Blocks.is_match (kind_of f) ≡ has_match_ends ts
match_by_ends (F.other_line n p) = form_by_ends p
match_by_ends (F.case_alone w (F.case_line form p g)) = refl
match_by_ends (F.case_suite w (F.case_line form p g) c) = refl
