-- What the place of a line decides of its form.
--
-- Carries: places_are_lawful, for parse. On: Machine, Expressions, Patterns, Trailers, Statements.
use Rattle.std.proofs.Common.{◌≡◌, inl, inr, refl, sym, ap, ◌∙◌, subst, List, [], ◌∷◌, ◌++◌, Option, Bool, true, false, append_assoc}
use Rattle.std.specs.Prelude.{◌&&◌}
use Rattle.pylex_lexeme.specs.declared.kinds.Exact.TheVariants.{Colon, Semi}
use Rattle.pytoken.specs.declared.keywords.Keyword.TheVariants as Key
use Rattle.pytree_node.specs.declared.profiles.Profile.{Profile}
use Rattle.pygrammar.specs.declared.levels.Level.TheVariants.{Named}
use Rattle.pygrammar.specs.declared.pattern_levels.PatternLevel.TheVariants.{Patterns}
use Rattle.pytree_node.specs.Trees.{Expr, Identifier, Pattern}
use Rattle.pytoken.specs.Terminals.{Terminal, Op, Word}
use Rattle.pygrammar.specs.PatternGrammar.{DerivesPattern}
use Rattle.pygrammar.specs.Lines.{Form, Header}
use Rattle.pygrammar.specs.Forms as F
use Rattle.pygrammar.specs.Forms.{case_word, begins_case, is_whole, is_case_line}
use Rattle.pygrammar.specs.Blocks.{kind_of, header_kind, is_match}
use Rattle.pygrammar.proofs.Callers.Lines.{match_by_ends}
use Rattle.pygrammar.proofs.Callers.SourceLaw.{forms_are_lawful}
use Rattle.pyparse_block.specs.Places.{MatchesAreToldByTheirEnds, BeginsCaseBracket, case_bracket, FormsDifferAfterCaseBracket, PlacesAreLawful}
use Rattle.pyparse_block.proofs.CaseLines.Machine.{left_of, Takes, none, join, neutral}
use Rattle.pyparse_block.proofs.CaseLines.Expressions.{expression}
use Rattle.pyparse_block.proofs.CaseLines.Patterns.{one_pattern}
use Rattle.pyparse_block.proofs.CaseLines.Trailers.{Trailed, GoesOn, Begun, stops, target_goes, pattern_begun, apart}
use Rattle.pyparse_block.proofs.CaseLines.Statements.{Stated, placed, after_name, after_part, other_word, parts, FirstStatement, first_statement}

-- ---- The header of a `match`.

header_no_match : {profile : Profile} {ts : List Terminal} {h : Header} → F.HeaderOf profile ts h → is_match (header_kind h) ≡ false
header_no_match F.else_line = refl
header_no_match _ = refl

form_no_match : {profile : Profile} {ts : List Terminal} {f : Form} → is_whole profile.extent ≡ false → F.FormOf profile ts f →
    is_match (kind_of f) ≡ false
form_no_match e (F.simple_statements c) = refl
form_no_match e (F.decorator_line p) = refl
form_no_match e (F.header_line p) = header_no_match p
form_no_match e (F.header_suite p c) = header_no_match p
form_no_match e (F.match_line form w p) = absurd (cc)

-- in the plain extent no line is one
no_match : {profile : Profile} {inside : Bool} {ts : List Terminal} {f : Form} → is_whole profile.extent ≡ false →
    F.FormAt profile inside ts f → is_match (kind_of f) ≡ false
no_match e (F.other_line n p) = form_no_match e p
no_match e (F.case_alone w (F.case_line form p g)) = refl
no_match e (F.case_suite w (F.case_line form p g) c) = refl

told_by_ends : MatchesAreToldByTheirEnds
told_by_ends profile inside [] f p = match_by_ends profile inside [] f p
told_by_ends profile inside (t ∷ ts) f p = by_extent (is_whole profile.extent) refl (match_by_ends profile inside (t ∷ ts) f p)
  where
    by_extent : (w : Bool) → is_whole profile.extent ≡ w → {b : Bool} → is_match (kind_of f) ≡ b →
        is_match (kind_of f) ≡ (is_whole profile.extent && b)
    by_extent true e {b} h = h ∙ ap (λ w. w && b) (sym e)
    by_extent false e {b} h = no_match e p ∙ ap (λ w. w && b) (sym e)

-- ---- A line that begins with `case`.

header_begins : {profile : Profile} {ts : List Terminal} {h : Header} → F.HeaderOf profile ts h →
    (us : List Terminal) → begins_case (ts ++ us) ≡ false
header_begins (F.for_line F.no_async p q) us = refl
header_begins (F.for_line F.async p q) us = refl
header_begins (F.with_line F.no_async p) us = refl
header_begins (F.with_line F.async p) us = refl
header_begins (F.def_line x F.no_async g c q k) us = refl
header_begins (F.def_line x F.async g c q k) us = refl
header_begins _ us = refl

not_both : {C : Type 0} (b : Bool) → b ≡ true → b ≡ false → C
not_both b h k = absurd (cc)

-- where it is no header of a case it is simple statements
statements : {profile : Profile} {ts : List Terminal} {f : Form} → begins_case ts ≡ true → F.FormOf profile ts f → FirstStatement ts
statements h (F.simple_statements c) = first_statement c
statements h (F.decorator_line p) = absurd (cc)
statements h (F.header_line p) = not_both _ h (header_begins p _)
statements h (F.header_suite p c) = not_both _ h (header_begins p _)
statements h (F.match_line form w p) = absurd (cc)

no_colon : {C : Type 0} (rest us : List Terminal) → parts rest ≡ true → left_of [] rest ≡ Op Colon ∷ us → C
no_colon [] us h k = absurd (cc)
no_colon (Op Semi ∷ rest) us h k = absurd (cc)
no_colon _ us h k = absurd (cc)

-- As the header of a case it has a pattern after `case`, and its first colon without a place ends the header. As a simple statement it
-- has such a colon after a target alone.
two_ways : (form : Identifier) (ts us : List Terminal) → Takes [] [] ts → Begun (ts ++ (Op Colon ∷ us)) →
    FirstStatement (case_word form ∷ (ts ++ (Op Colon ∷ us))) → BeginsCaseBracket (case_word form ∷ (ts ++ (Op Colon ∷ us)))
two_ways form ts us p b q = by_stated q.stated q.rest q.parted q.whole
  where
    line : List Terminal
    line = ts ++ (Op Colon ∷ us)

    bracketed : Trailed line → BeginsCaseBracket (case_word form ∷ line)
    bracketed k = let e = apart k b in subst (λ z. BeginsCaseBracket (case_word form ∷ z)) (sym e.1) (case_bracket form)

    by_stated : {front : List Terminal} → Stated front → (rest : List Terminal) → parts rest ≡ true →
        case_word form ∷ line ≡ front ++ rest → BeginsCaseBracket (case_word form ∷ line)
    by_stated (placed k) rest h e = no_colon rest us h (sym (k.goes rest) ∙ (ap (left_of []) (sym e) ∙ p.goes (Op Colon ∷ us)))
    by_stated (after_name {us = vs}) rest h e =
        let same : line ≡ Op Colon ∷ (vs ++ rest) = cc in
        absurd (subst Begun same b)
    by_stated (after_part {ts = vs} ws k n) rest h e =
        bracketed (subst GoesOn (sym (e ∙ append_assoc vs (Op Colon ∷ ws) rest)) (target_goes k n (Op Colon ∷ (ws ++ rest))))
    by_stated (other_word k) rest h e = not_both _ (ap begins_case (sym e)) (k rest)

guard : {ts : List Terminal} {g : Option Expr} → F.Following (Word Key.If) Named ts g → Takes [] [] ts
guard F.none_after = none
guard (F.following p) = neutral (Word Key.If) refl (expression [] p)

guard_stops : {ts : List Terminal} {g : Option Expr} → F.Following (Word Key.If) Named ts g →
    (us : List Terminal) → stops (ts ++ (Op Colon ∷ us)) ≡ true
guard_stops F.none_after us = refl
guard_stops (F.following p) us = refl

-- the header of a case that has a form elsewhere too
case_elsewhere : {profile : Profile} {ts us : List Terminal} {p : Pattern} {g : Option Expr} {f : Form} →
    (form : Identifier) (vs : List Terminal) → DerivesPattern Patterns ts p → F.Following (Word Key.If) Named us g →
    F.FormAt profile false (case_word form ∷ ((ts ++ us) ++ (Op Colon ∷ vs))) f →
    BeginsCaseBracket (case_word form ∷ ((ts ++ us) ++ (Op Colon ∷ vs)))
case_elsewhere {ts = ts} {us = us} form vs p g (F.other_line n q) =
    let begun = pattern_begun p (us ++ (Op Colon ∷ vs)) (guard_stops g vs) in
    let whole = subst Begun (sym (append_assoc ts us (Op Colon ∷ vs))) begun in
    two_ways form (ts ++ us) vs (join (one_pattern [] p) (guard g)) whole (statements refl q)

-- elsewhere no line is the header of a case
no_case : (profile : Profile) (ts : List Terminal) → is_case_line profile false ts ≡ false
no_case profile ts = nothing (is_whole profile.extent)
  where
    nothing : (b : Bool) → (b && false) ≡ false
    nothing true = refl
    nothing false = refl

differ : FormsDifferAfterCaseBracket
differ profile ts f g (F.other_line n p) q = inl (forms_are_lawful.unique profile false ts f g (F.other_line (no_case profile ts) p) q)
differ profile _ _ g (F.case_alone w (F.case_line form p k)) q = inr (case_elsewhere form [] p k q)
differ profile _ _ g (F.case_suite {us = us} w (F.case_line form p k) c) q = inr (case_elsewhere form us p k q)

pub places_are_lawful : PlacesAreLawful
places_are_lawful = record { ends = told_by_ends; differ = differ }
