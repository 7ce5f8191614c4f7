-- Completeness for lines: each form is read at its place, so a line has one form there alone.
--
-- Carries: read_goes, one_form, for Answer, Answered, Limit, SoundLines and 1 more. On: Simple,
-- LookLemmas, Tools, LevelLemmas, MatchLines, Patterns and 3 more.
use Rattle.std.proofs.Common.{◌≡◌, refl, sym, ap, ◌∙◌, ℕ, suc, ◌≤◌, ◌<◌, arith, List, [], ◌∷◌, ◌++◌, length, Option, Some, None, Bool, true}
use Rattle.std.proofs.Common.{false, append_assoc}
use Rattle.std.specs.Prelude.{◌&&◌}
use Rattle.std.proofs.lemmas.List.{append-nil}
use Rattle.std.proofs.lemmas.Bool.{and_right}
use Rattle.pylex_lexeme.specs.declared.kinds.Exact.TheVariants as Sign
use Rattle.pytoken.specs.declared.keywords.Keyword.TheVariants as Key
use Rattle.pytree_node.specs.declared.profiles.Profile.{Profile}
use Rattle.pygrammar.specs.declared.levels.Level.TheVariants.{Named, Subject}
use Rattle.pygrammar.specs.declared.pattern_levels.PatternLevel.TheVariants.{Patterns}
use Rattle.pytree_node.specs.Trees.{Expr, Identifier, Pattern, Stmt}
use Rattle.pytoken.specs.Terminals.{Terminal, Op, Word}
use Rattle.pygrammar.specs.Grammar as G
use Rattle.pygrammar.specs.PatternGrammar.{DerivesPattern}
use Rattle.pygrammar.specs.Reader.{Found}
use Rattle.pygrammar.specs.Precedence.{lead}
use Rattle.pygrammar.proofs.Answers.{found_one}
use Rattle.pygrammar.proofs.Completeness.LookLemmas.{lead_of, lead_front}
use Rattle.pygrammar.proofs.Completeness.LevelLemmas.{led}
use Rattle.pygrammar.proofs.Pattern.Ends.{EndsPattern}
use Rattle.pygrammar.specs.Lines.{Form, simple_form, decorator_form, Header, header_form, match_header, case_header}
use Rattle.pygrammar.specs.Forms as F
use Rattle.pygrammar.specs.Forms.{is_whole, match_word}
use Rattle.pygrammar.specs.LineReader.{plain, plain_pattern, Opening, Heads, States, opening, statements, suite, ends_in_colon}
use Rattle.pygrammar.specs.LineReader.{is_match_line, line_of, line_front, line, case_rest, read_line, read_header}
use Rattle.pygrammar.proofs.Line.Tools.{thus, when, unless, front, after_goes}
use Rattle.pygrammar.proofs.Line.Simple.{Full, simples_full, statements_goes}
use Rattle.pygrammar.proofs.Line.Headers.{header_by}
use Rattle.pygrammar.proofs.Line.With.{with_goes}
use Rattle.pygrammar.proofs.Line.Colons.{last}
use Rattle.pygrammar.proofs.Line.MatchLines.{has_match_ends, simples_ends, header_ends}
use Rattle.pygrammar.proofs.Line.Patterns.{plain_pattern_goes}

header_goes : (profile : Profile) {ts : List Terminal} {h : Header} → F.HeaderOf profile ts h → (r : List Terminal)
    → read_header profile plain (ts ++ (Op Sign.Colon ∷ r)) ≡ Found h (Op Sign.Colon ∷ r)
header_goes profile p r = header_by with_goes profile p r

-- the opening of a line by its first terminal
abbrev opening_of : List Terminal → Opening
opening_of [] = States
opening_of (t ∷ r) = opening t

led_kind : (ts : List Terminal) → 0 < lead_of ts → opening_of ts ≡ States
led_kind [] h = refl
led_kind (t ∷ ts) h = one t h
  where
    one : (t : Terminal) → 0 < lead t → opening t ≡ States
    one (Op Sign.At) h = absurd (omega (arith, h))
    one (Op _) h = refl
    one (Word Key.If) h = absurd (omega (arith, h))
    one (Word Key.Elif) h = absurd (omega (arith, h))
    one (Word Key.Else) h = absurd (omega (arith, h))
    one (Word Key.While) h = absurd (omega (arith, h))
    one (Word Key.For) h = absurd (omega (arith, h))
    one (Word Key.With) h = absurd (omega (arith, h))
    one (Word Key.Try) h = absurd (omega (arith, h))
    one (Word Key.Finally) h = absurd (omega (arith, h))
    one (Word Key.Except) h = absurd (omega (arith, h))
    one (Word Key.Def) h = absurd (omega (arith, h))
    one (Word Key.Class) h = absurd (omega (arith, h))
    one (Word Key.Async) h = absurd (omega (arith, h))
    one (Word _) h = refl
    one _ h = refl

-- a list that begins with an expression
begun : (ts us : List Terminal) (n : ℕ) → 0 < n → n ≤ lead_of ts → opening_of (ts ++ us) ≡ States
begun ts us n p h = led_kind (ts ++ us) (omega (arith, p, lead_front ts us n p h))

targets_kind : {ts : List Terminal} {es : List Expr} → F.Targets ts es → (us : List Terminal) → opening_of (ts ++ us) ≡ States
targets_kind (F.last_target {ts = ts} (G.target p q)) us = ap opening_of (append_assoc ts (Op Sign.Equal ∷ []) us)
    ∙ begun ts (Op Sign.Equal ∷ us) 7 (omega arith) (led p)
targets_kind (F.more_targets {ts = ts} {us = vs} (G.target p q) c) us = ap opening_of (append_assoc ts (Op Sign.Equal ∷ vs) us)
    ∙ begun ts (Op Sign.Equal ∷ (vs ++ us)) 7 (omega arith) (led p)

simple_kind : {profile : Profile} {ts : List Terminal} {s : Stmt} → F.Simple profile ts s → (r : List Terminal)
    → opening_of (ts ++ r) ≡ States
simple_kind (F.value {ts = ts} p) r = begun ts r 1 (omega arith) (led p)
simple_kind (F.assign {ts = ts} {us = us} c p) r = ap opening_of (append_assoc ts us r) ∙ targets_kind c (us ++ r)
simple_kind (F.augmented_assign {ts = ts} {us = us} x (G.single_target p q) h v) r = ap opening_of (append_assoc ts (Op x ∷ us) r)
    ∙ begun ts (Op x ∷ (us ++ r)) 23 (omega arith) (led p)
simple_kind (F.annotated_part {ts = ts} {us = us} {vs = vs} (G.single_target p q) n k b) r =
    ap opening_of (append_assoc ts (Op Sign.Colon ∷ (us ++ vs)) r) ∙ begun ts (Op Sign.Colon ∷ ((us ++ vs) ++ r)) 23 (omega arith) (led p)
simple_kind _ r = refl

simples_kind : {profile : Profile} {ts : List Terminal} {ss : List Stmt} → F.Simples profile ts ss → opening_of ts ≡ States
simples_kind (F.last_simple {ts = ts} p) = ap opening_of (sym (append-nil ts)) ∙ simple_kind p []
simples_kind (F.ended_simple p) = simple_kind p _
simples_kind (F.more_simples p c) = simple_kind p _

header_kind : {profile : Profile} {ts : List Terminal} {h : Header} → F.HeaderOf profile ts h → (r : List Terminal)
    → (opening_of (ts ++ r) ≡ Heads) × Full (ts ++ r)
header_kind (F.for_line F.no_async p q) r = (refl, (_, _, refl))
header_kind (F.for_line F.async p q) r = (refl, (_, _, refl))
header_kind (F.with_line F.no_async p) r = (refl, (_, _, refl))
header_kind (F.with_line F.async p) r = (refl, (_, _, refl))
header_kind (F.def_line x F.no_async g c q k) r = (refl, (_, _, refl))
header_kind (F.def_line x F.async g c q k) r = (refl, (_, _, refl))
header_kind _ r = (refl, (_, _, refl))

-- a line by its opening: without the ends of a `match` it is no header of one
line_by : (profile : Profile) (k : Opening) (i : List Terminal) → Full i → opening_of i ≡ k → has_match_ends i ≡ false → (f : Form)
    → ((t : Terminal) (r : List Terminal) → i ≡ t ∷ r → line_of profile plain k i r ≡ Found f []) → line profile plain i ≡ Found f []
line_by profile k [] g q m f h = absurd (empty g)
  where
    empty : Full [] → ⊥
    empty g = absurd (cc (g.2))
line_by profile k (t ∷ r) g q m f h =
    thus _ _ (unless _ _ _ (and_right (is_whole profile.extent) _ m) (ap (λ k. line_of profile plain k (t ∷ r) r) q ∙ h t r refl)) refl

suite_goes : (profile : Profile) {us : List Terminal} {ss : List Stmt} (h : Header) → F.Simples profile us ss
    → suite profile plain h us ≡ Found (header_form h (Some ss)) []
suite_goes profile {us} {ss} h c = full us (simples_full profile c) (statements_goes profile c)
  where
    full : (us : List Terminal) → Full us → statements profile plain (suc (length us)) us ≡ Found ss []
        → suite profile plain h us ≡ Found (header_form h (Some ss)) []
    full [] g k = absurd (cc (g.2))
    full (t ∷ r) g k = thus _ _ k refl

decorated : (profile : Profile) {ts : List Terminal} {e : Expr} → G.Derives Named ts e
    → line_front profile plain (Op Sign.At ∷ ts) ≡ Found (decorator_form e) []
decorated profile {ts} p = unless _ _ _ (and_right (is_whole profile.extent) false refl)
    (thus (plain Named ts) _ (ap (plain Named) (sym (append-nil ts)) ∙ front p [] (omega arith)) refl)

-- the header of a `match`
match_goes : (profile : Profile) (form : Identifier) {ts : List Terminal} {e : Expr} → is_whole profile.extent ≡ true
    → G.Derives Subject ts e → line profile plain (match_word form ∷ (ts ++ (Op Sign.Colon ∷ []))) ≡ Found
    (header_form (match_header e) None) []
match_goes profile form {ts} w p =
    let m : is_match_line profile (match_word form ∷ (ts ++ (Op Sign.Colon ∷ []))) ≡ true =
    ap (λ b. b && ends_in_colon (ts ++ (Op Sign.Colon ∷ []))) w ∙ last ts [] (Op Sign.Colon) in
    thus _ _ (when _ _ _ m (thus _ _ (front p (Op Sign.Colon ∷ []) (omega arith, (λ q. absurd (omega (arith, q))), omega arith)) refl)) refl

line_goes : (profile : Profile) {ts : List Terminal} {f : Form} → F.FormOf profile ts f → line profile plain ts ≡ Found f []
line_goes profile (F.simple_statements {ts = ts} {ss = ss} c) = line_by profile States ts (simples_full profile c) (simples_kind c)
    (simples_ends c) (simple_form ss) (λ t r q. thus _ _ (statements_goes profile c) refl)
line_goes profile (F.decorator_line {ts = ts} p) = thus (line_front profile plain (Op Sign.At ∷ ts)) _ (decorated profile p) refl
line_goes profile (F.header_line {ts = ts} {h = h} p) =
    let k = header_kind p (Op Sign.Colon ∷ []) in
    line_by profile Heads (ts ++ (Op Sign.Colon ∷ [])) k.1 k.0 (header_ends p (Op Sign.Colon ∷ [])).1 (header_form h None)
    (λ t r q. thus _ _ (header_goes profile p []) refl)
line_goes profile (F.header_suite {ts = ts} {us = us} {h = h} {ss = ss} p c) =
    let k = header_kind p (Op Sign.Colon ∷ us) in
    line_by profile Heads (ts ++ (Op Sign.Colon ∷ us)) k.1 k.0 (header_ends p (Op Sign.Colon ∷ us)).1 (header_form h (Some ss))
    (λ t r q. thus _ _ (header_goes profile p us) (suite_goes profile h c))
line_goes profile (F.match_line form w p) = match_goes profile form w p

-- ---- The header of a case.

guard_ends : {us : List Terminal} {g : Option Expr} → F.Following (Word Key.If) Named us g → (r : List Terminal)
    → EndsPattern Patterns (us ++ (Op Sign.Colon ∷ r))
guard_ends F.none_after r = omega arith
guard_ends (F.following p) r = omega arith

case_rest_goes : (profile : Profile) {ts us : List Terminal} {p : Pattern} {g : Option Expr} → DerivesPattern Patterns ts p
    → F.Following (Word Key.If) Named us g → (r : List Terminal) → case_rest profile plain plain_pattern ((ts ++ us) ++ (Op Sign.Colon ∷ r)) ≡
    suite profile plain (case_header p g) r
case_rest_goes profile {ts} {us} q k r =
    let z = Op Sign.Colon ∷ r in
    ap (case_rest profile plain plain_pattern) (append_assoc ts us z) ∙ thus _ _ (plain_pattern_goes q (us ++ z) (guard_ends k r))
    (thus _ _ (after_goes k refl z (omega arith) refl) refl)

case_goes : (profile : Profile) {ts : List Terminal} {h : Header} (f : Form) (r : List Terminal) → is_whole profile.extent ≡ true
    → F.CaseOf ts h → suite profile plain h r ≡ Found f [] → read_line profile true (ts ++ (Op Sign.Colon ∷ r)) ≡ Found f []
case_goes profile f r w (F.case_line form q k) s = when _ _ _ (ap (λ b. b && true) w) (thus _ _ (case_rest_goes profile q k r ∙ s) refl)

-- each form is read
pub read_goes : (profile : Profile) {inside : Bool} {ts : List Terminal} {f : Form} → F.FormAt profile inside ts f
    → read_line profile inside ts ≡ Found f []
read_goes profile (F.other_line n p) = unless _ _ _ n (line_goes profile p)
read_goes profile (F.case_alone {h = h} w c) = case_goes profile (header_form h None) [] w c refl
read_goes profile (F.case_suite {us = us} {h = h} {ss = ss} w c s) = case_goes profile (header_form h (Some ss)) us w c
    (suite_goes profile h s)

-- a line has one form alone
pub one_form : {profile : Profile} {inside : Bool} {ts : List Terminal} {f g : Form} → F.FormAt profile inside ts f
    → F.FormAt profile inside ts g → f ≡ g
one_form {profile} {inside} {ts} {f} {g} p q = found_one f g [] [] (sym (read_goes profile p) ∙ read_goes profile q)
