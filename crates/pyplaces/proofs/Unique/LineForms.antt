-- Whole lines.
--
-- Carries: FitsForm, FitsLine, line_told, for Law, WithForms. On: SimpleForms, HeaderForms.
use Rattle.std.proofs.Common.{◌≡◌, refl, sym, ap, ◌∙◌, ℕ, ◌+◌, ◌<◌, arith, List, [], ◌∷◌, ◌++◌, length}
use Rattle.std.proofs.Common.{Bool, true, false, append-nil, subst}
use Rattle.std.specs.Prelude.{◌&&◌}
use Rattle.pylex_lexeme.specs.declared.kinds.Exact.TheVariants as Sign
use Rattle.pytoken.specs.declared.keywords.Keyword.TheVariants as Key
use Rattle.pytree_node.specs.declared.profiles.Profile.{Profile}
use Rattle.pytree_node.specs.Trees.{Stmt}
use Rattle.pytoken.specs.Terminals.{Terminal, Op, Word}
use Rattle.pygrammar.specs.declared.levels.Level.TheVariants.{Named}
use Rattle.pygrammar.specs.Blocks.{is_match, kind_of, header_kind}
use Rattle.pygrammar.specs.Forms as F
use Rattle.pygrammar.specs.Forms.{is_case_line}
use Rattle.pygrammar.specs.Lines.{Form, Header}
use Rattle.pygrammar.proofs.Callers.Lines.{match_by_ends}
use Rattle.pyplaces.specs.FormPlaces.{FormPlaces, form_places, places_at, header_places, case_places, simples_places}
use Rattle.pyplaces.specs.Inner.Looks.{lead_of}
use Rattle.pyplaces.specs.Inner.LineSteps.{header_read, suite_read, front_read, line_read, has_match_ends}
use Rattle.pyplaces.specs.Inner.Questions.{An, Statements, Done, Ask}
use Rattle.pyplaces.specs.Inner.Steps.{here}
use Rattle.pyplaces.proofs.Unique.Leading.{Comes, via, from, untrue, is_true}
use Rattle.pyplaces.proofs.Unique.LookLemmas.{lead_front}
use Rattle.pyplaces.proofs.Unique.Led.{led}
use Rattle.pyplaces.proofs.Unique.Answered.{shaped}
use Rattle.pyplaces.proofs.Unique.Expressions.{goes}
use Rattle.pyplaces.proofs.Unique.ValueForms.{targets_led}
use Rattle.pyplaces.proofs.Unique.SimpleForms.{single_led, statements_filled, statements_goes}
use Rattle.pyplaces.proofs.Unique.HeaderForms.{Fits, header_goes, case_goes}

-- ---- The first terminal.

abbrev AsStatements : Bool → List Terminal → Type 0
AsStatements b i = front_read b i ≡ Ask Statements 0 i (λ ps n r. Done (form_places [] [] ps) [])

states : (b : Bool) (i : List Terminal) → 0 < lead_of i → AsStatements b i
states b [] h = absurd (omega (arith, h))
states b (Op Sign.At ∷ r) h = absurd (omega (arith, h))
states b (Word Key.If ∷ r) h = absurd (omega (arith, h))
states b (Word Key.Elif ∷ r) h = absurd (omega (arith, h))
states b (Word Key.Else ∷ r) h = absurd (omega (arith, h))
states b (Word Key.While ∷ r) h = absurd (omega (arith, h))
states b (Word Key.For ∷ r) h = absurd (omega (arith, h))
states b (Word Key.With ∷ r) h = absurd (omega (arith, h))
states b (Word Key.Try ∷ r) h = absurd (omega (arith, h))
states b (Word Key.Finally ∷ r) h = absurd (omega (arith, h))
states b (Word Key.Except ∷ r) h = absurd (omega (arith, h))
states b (Word Key.Def ∷ r) h = absurd (omega (arith, h))
states b (Word Key.Class ∷ r) h = absurd (omega (arith, h))
states b (Word Key.Async ∷ r) h = absurd (omega (arith, h))
states b (Op _ ∷ r) h = refl
states b (Word _ ∷ r) h = refl
states b (_ ∷ r) h = refl

simple_states : {profile : Profile} {ts : List Terminal} {y : Stmt} (b : Bool) → F.Simple profile ts y → (r : List Terminal)
    → AsStatements b (ts ++ r)
simple_states b (F.value {ts = ts} p) r = states b (ts ++ r) (omega (arith, lead_front ts r 1 (omega arith) (led p)))
simple_states b (F.assign {ts = ts} {us = us} t p) r =
    states b ((ts ++ us) ++ r) (omega (
      arith,
      lead_front (ts ++ us) r 1 (omega arith) (lead_front ts us 1 (omega arith)
          (omega (arith, targets_led t))),
    ))
simple_states b (F.augmented_assign {ts = ts} {us = us} x t h p) r =
    states b ((ts ++ (Op x ∷ us)) ++ r) (omega (
      arith,
      lead_front (ts ++ (Op x ∷ us)) r 1 (omega arith)
          (lead_front ts (Op x ∷ us) 1 (omega arith) (omega (arith, single_led t))),
    ))
simple_states b (F.annotated_part {ts = ts} {us = us} {vs = vs} t h p v) r =
    states b ((ts ++ (Op Sign.Colon ∷ (us ++ vs))) ++ r) (omega (
      arith,
      lead_front (ts ++ (Op Sign.Colon ∷ (us ++ vs))) r 1 (omega arith)
          (lead_front ts (Op Sign.Colon ∷ (us ++ vs)) 1 (omega arith) (omega (arith, single_led t))),
    ))
simple_states b _ r = refl

statements_state : {profile : Profile} {ts : List Terminal} {ys : List Stmt} (b : Bool) → F.Simples profile ts ys → AsStatements b ts
statements_state b (F.last_simple {ts = ts} p) = subst (AsStatements b) (append-nil ts) (simple_states b p [])
statements_state b (F.ended_simple p) = simple_states b p _
statements_state b (F.more_simples p c) = simple_states b p _

header_front : {profile : Profile} {ts : List Terminal} {y : Header} (b : Bool) → F.HeaderOf profile ts y → (r : List Terminal)
    → front_read b (ts ++ r) ≡ header_read b 0 (ts ++ r) suite_read
header_front b (F.for_line F.no_async t p) r = refl
header_front b (F.for_line F.async t p) r = refl
header_front b (F.with_line F.no_async i) r = refl
header_front b (F.with_line F.async i) r = refl
header_front b (F.def_line x F.no_async c l h q) r = refl
header_front b (F.def_line x F.async c l h q) r = refl
header_front b _ r = refl

header_no_match : {profile : Profile} {ts : List Terminal} {y : Header} → F.HeaderOf profile ts y → is_match (header_kind y) ≡ false
header_no_match (F.for_line a t p) = refl
header_no_match _ = refl

-- ---- Lines.

-- the reading is told how the items of a `with` stand
abbrev pub FitsForm : Bool → {profile : Profile} {ts : List Terminal} {f : Form} → F.FormOf profile ts f → Type 0
FitsForm b (F.header_line h) = Fits b h
FitsForm b (F.header_suite h c) = Fits b h
FitsForm b _ = Unit {0}

abbrev pub FitsLine : Bool → {profile : Profile} {inside : Bool} {ts : List Terminal} {f : Form} → F.FormAt profile inside ts f → Type 0
FitsLine b (F.other_line h d) = FitsForm b d
FitsLine b _ = Unit {0}

case_begins : (profile : Profile) (form : List ℕ) (r : List Terminal) → F.is_whole profile.extent ≡ true
    → is_case_line profile true (F.case_word form ∷ r) ≡ true
case_begins profile form r h = ap (λ z. z && true) h

case_test : (profile : Profile) {ts : List Terminal} {y : Header} → F.CaseOf ts y → F.is_whole profile.extent ≡ true → (r : List Terminal)
    → is_case_line profile true (ts ++ r) ≡ true
case_test profile (F.case_line {ts = ts} {us = us} form p g) h r = case_begins profile form ((ts ++ us) ++ r) h

-- in front of the statements of a suite
suite_goes : {profile : Profile} {us : List Terminal} {ys : List Stmt} (f : FormPlaces) (n : ℕ) (c : F.Simples profile us ys)
    → Comes (suite_read f n (Op Sign.Colon ∷ us)) (Done (form_places f.before f.following (simples_places (1 + n) c)) [])
suite_goes f n c = untrue _ (statements_filled c) (via (statements_goes c (1 + n) _) here)

form_told : {profile : Profile} (inside : Bool) {ts : List Terminal} {f : Form} (b : Bool) (h : is_case_line profile inside ts ≡ false)
    (d : F.FormOf profile ts f) → FitsForm b d → is_match (kind_of f) ≡ has_match_ends ts
    → Comes (line_read profile inside b ts) (Done (places_at (F.other_line {inside = inside} h d)) [])
form_told inside b h (F.simple_statements c) w m =
    untrue _ h (untrue _ (sym m) (from (statements_state b c) (via (statements_goes c 0 _) here)))
form_told inside b h (F.decorator_line {ts = ts} p) w m = untrue _ h
    (shaped (An Named) 1 _ (sym (append-nil ts)) (via ((goes p).0 1 [] _ (omega arith)) here))
form_told inside b h (F.header_line {ts = ts} d) w m = untrue _ h (untrue _ (sym m ∙ header_no_match d)
    (from (header_front b d (Op Sign.Colon ∷ [])) (via (header_goes b d w 0 [] suite_read) here)))
form_told inside b h (F.header_suite {ts = ts} {us = us} d c) w m = untrue _ h (untrue _ (sym m ∙ header_no_match d)
    (from (header_front b d (Op Sign.Colon ∷ us)) (via (header_goes b d w 0 us suite_read) (suite_goes (header_places 0 d) (length ts) c))))
form_told inside b h (F.match_line {ts = ts} form g p) w m = untrue _ h (is_true _ (sym m)
    (via ((goes p).0 1 (Op Sign.Colon ∷ []) _ (omega arith, λ e. absurd (omega (arith, e)), omega arith)) here))

pub line_told : {profile : Profile} {inside : Bool} {ts : List Terminal} {f : Form} (b : Bool) (d : F.FormAt profile inside ts f)
    → FitsLine b d → Comes (line_read profile inside b ts) (Done (places_at d) [])
line_told {profile} {inside} {ts} {f} b (F.other_line h d) w =
    form_told inside b h d w (match_by_ends profile inside ts f (F.other_line h d))
line_told {profile} b (F.case_alone h c) w = is_true _ (case_test profile c h (Op Sign.Colon ∷ [])) (via (case_goes c [] suite_read) here)
line_told {profile} b (F.case_suite {ts = ts} {us = us} h c s) w = is_true _ (case_test profile c h (Op Sign.Colon ∷ us))
    (via (case_goes c us suite_read) (suite_goes (case_places 0 c) (length ts) s))
