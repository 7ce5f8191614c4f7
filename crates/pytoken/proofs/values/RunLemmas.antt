-- Carries: begins_bare, escape_fault, push_text, text_in, push_bytes, bytes_in, string_value. On: runs of
-- characters that stand for themselves, and literals without a prefix.
use Rattle.std.proofs.Common.{◌≡◌, ℕ, ◌<◌, Bool, true, false, List, [], ◌∷◌, ◌++◌, length, refl, sym, ap, ◌∙◌, arith, Some, None, slice_get}
use Rattle.std.proofs.Common.{append_assoc, append-nil, length-append}
use Rattle.std.specs.Prelude.{◌==◌, ◌&&◌, not}
use Rattle.std.specs.List.{list_all, list_any}
use Rattle.std.proofs.lemmas.Bool.{and_parts, not-true}
use Rattle.std.proofs.lemmas.List.Folds.{list_all-append}
use Rattle.pylex_lexeme.proofs.Callers.Lexemes.{at_one}
use Rattle.pytoken.specs.declared.meanings.Meaning.{Meaning}
use Rattle.pytoken.specs.Escapes.{meanings}
use Rattle.pytoken.specs.StringValues.{is_quote, is_marked, inside, body_of}
use Rattle.pytoken.specs.Inner.Readings.{first_meaning, after_meaning, is_own, stands, is_bare, body_points}
use Rattle.pytoken.proofs.values.LiteralLemmas.{shorter, prefix_stops}

no_escape : (raw : Bool) (c : ℕ) → stands raw c ≡ true → (not raw && (c == 92)) ≡ false
no_escape true c is = refl
no_escape false c is = not-true (c == 92) (and_parts (is_own c) (not (c == 92)) is).1

run_points : (raw bytes : Bool) (run rest : List ℕ) → list_all (stands raw) run ≡ true
    → body_points raw bytes (run ++ rest) ≡ run ++ body_points raw bytes rest
unfolding meanings
run_points raw bytes [] rest all = refl
run_points raw bytes (c ∷ run) rest all =
    let parts = and_parts (stands raw c) (list_all (stands raw) run) all in
    let step = no_escape raw c parts.0 in
    rw step (ap (λ (t : List ℕ). c ∷ t) (run_points raw bytes run rest parts.1))

-- a run was taken off the front of a body
pub record Cut (raw : Bool) (t run rest : List ℕ) : Type 0 where
  pub whole : t ≡ run ++ rest
  pub plain : list_all (stands raw) run ≡ true

pub cut_points : (raw bytes : Bool) (t run rest : List ℕ) → Cut raw t run rest → body_points raw bytes t ≡ run ++ body_points raw bytes rest
cut_points raw bytes t run rest cut = ap (body_points raw bytes) cut.whole ∙ run_points raw bytes run rest cut.plain

-- in a run nothing passes a test that no character passes
run_any : (p : Meaning → Bool) → ((m : ℕ) → p (Meaning.Point m) ≡ false) → (raw bytes : Bool) (run rest : List ℕ)
    → list_all (stands raw) run ≡ true → list_any p (meanings raw bytes (run ++ rest)) ≡ list_any p (meanings raw bytes rest)
unfolding meanings
run_any p fails raw bytes [] rest all = refl
run_any p fails raw bytes (c ∷ run) rest all =
    let parts = and_parts (stands raw c) (list_all (stands raw) run) all in
    let step = no_escape raw c parts.0 in
    let here = fails c in
    rw (step, here) (run_any p fails raw bytes run rest parts.1)

pub cut_any : (p : Meaning → Bool) → ((m : ℕ) → p (Meaning.Point m) ≡ false) → (raw bytes : Bool) (t run rest : List ℕ)
    → Cut raw t run rest → list_any p (meanings raw bytes rest) ≡ list_any p (meanings raw bytes t)
cut_any p fails raw bytes t run rest cut =
    sym (ap (λ (x : List ℕ). list_any p (meanings raw bytes x)) cut.whole ∙ run_any p fails raw bytes run rest cut.plain)

-- the points so far, and those to come
pub cut_on : (raw bytes : Bool) (t run rest out more whole : List ℕ) → Cut raw t run rest → more ≡ out ++ run
    → out ++ body_points raw bytes t ≡ whole
    → more ++ body_points raw bytes rest ≡ whole
cut_on raw bytes t run rest out more whole cut grown so_far =
    ap (λ (x : List ℕ). x ++ body_points raw bytes rest) grown ∙ append_assoc out run (body_points raw bytes rest)
    ∙ sym (ap (λ (x : List ℕ). out ++ x) (cut_points raw bytes t run rest cut)) ∙ so_far

-- what all points of a body pass, those after the run do
pub cut_parts : (p : ℕ → Bool) (raw bytes : Bool) (t run rest : List ℕ) → Cut raw t run rest → list_all p (body_points raw bytes t) ≡ true
    → list_all p (body_points raw bytes rest) ≡ true
cut_parts p raw bytes t run rest cut all =
    let split = ap (list_all p) (cut_points raw bytes t run rest cut) ∙ list_all-append p run (body_points raw bytes rest) in
    (and_parts (list_all p run) (list_all p (body_points raw bytes rest)) (sym split ∙ all)).1

pub cut_shorter : (raw bytes : Bool) (t next run rest : List ℕ) (m : Meaning) → first_meaning raw bytes t ≡ Some m
    → next ≡ after_meaning raw bytes t
    → Cut raw next run rest → length rest < length t
cut_shorter raw bytes t next run rest m e following cut =
    omega (arith, shorter raw bytes t next m e following, ap length cut.whole, length-append run rest)

-- where nothing is left, the run is the whole
pub cut_whole : (raw bytes : Bool) (t run rest out : List ℕ) → Cut raw t run rest → rest ≡ [] → out ≡ run → out ≡ body_points raw bytes t
unfolding meanings
cut_whole raw bytes t run rest out cut none grown =
    grown ∙ sym (cut_points raw bytes t run rest cut ∙ ap (λ (x : List ℕ). run ++ body_points raw bytes x) none ∙ append-nil run)

-- a literal without a prefix

pub bare_some : (t : List ℕ) (c : ℕ) → slice_get t 0 ≡ Some c → is_quote c ≡ is_bare t
bare_some t c e = sym (ap is_bare (at_one t c e))

pub bare_none : (t : List ℕ) → slice_get t 0 ≡ None → false ≡ is_bare t
bare_none [] e = refl
bare_none (c ∷ t) e = absurd (cc)

pub bare_unmarked : (a b : ℕ) (t : List ℕ) → is_bare t ≡ true → false ≡ is_marked a b t
bare_unmarked a b [] is = refl
bare_unmarked a b (c ∷ t) is = rw is refl

pub bare_body : (t : List ℕ) → is_bare t ≡ true → inside t ≡ body_of t
bare_body [] is = absurd (cc)
bare_body (c ∷ t) is = ap inside (sym (prefix_stops (c ∷ t) c refl is))
