-- A reader of a literal goes past a run of plain characters as past each of them.
--
-- Carries: close_single, close_triple. On: Triples, Runs, Units and 1 more.
use Rattle.std.proofs.Common.{◌≡◌, ℕ, ◌≤◌, true, false, ◌==◌, not, List, [], ◌∷◌, length, drop, refl, sym, ◌∙◌, ap, arith, ⊎_elim}
use Rattle.std.proofs.Common.{nat_lt, length-drop, ◌-◌}
use Rattle.std.specs.List.{prefix_len}
use Rattle.std.proofs.lemmas.Bool.{not-true, cases_Bool, and_parts}
use Rattle.pylex_lexeme.specs.declared.string.Quote.{Quote}
use Rattle.pylex_lexeme.specs.declared.string.Quote.TheVariants.{Single, Double}
use Rattle.pylex_lexeme.specs.Chars.{is_comment_part}
use Rattle.pylex_lexeme.specs.Inner.Plain.{is_plain_char}
use Rattle.pylex_lexeme.specs.Strings.{quote_char}
use Rattle.pylex_lexeme.specs.Lengths.{single_len, triple_len, begins_quotes}
use Rattle.pylex_lexeme.proofs.Fronts.Texts.{after_run}
use Rattle.pylex_lexeme.proofs.Fronts.Runs.{run_on, run_off}
use Rattle.pylex_lexeme.proofs.Strings.Units.{left_of, mark_is}
use Rattle.pylex_lexeme.proofs.Strings.Triples.{single_step, triple_step, unit_plain}

-- what a plain character is not
record IsOther (q a : ℕ) : Type 0 where
  pub quote : (a == q) ≡ false
  pub slash : (a == 92) ≡ false
  pub part : is_comment_part a ≡ true

other_is : (m : Quote) (a : ℕ) → is_plain_char a ≡ true → IsOther (quote_char m) a
other_is m a h =
    let p = and_parts (nat_lt a 128) _ h in
    let d = and_parts (not (a == 34)) _ p.1 in
    let s = and_parts (not (a == 39)) _ d.1 in
    let l = and_parts (not (a == 92)) _ s.1 in
    record {
      quote = of m (not-true (a == 34) d.0) (not-true (a == 39) s.0);
      slash = not-true (a == 92) l.0;
      part = l.1;
    }
  where
    of : (m : Quote) → (a == 34) ≡ false → (a == 39) ≡ false → (a == quote_char m) ≡ false
    of Single h k = k
    of Double h k = h

pub run_shorter : (cs p : List ℕ) → p ≡ after_run is_plain_char cs → length p ≤ length cs
run_shorter cs p e = let l : length (after_run is_plain_char cs) ≡ length cs - prefix_len is_plain_char cs =
    length-drop (prefix_len is_plain_char cs) cs in let k : length p ≡ length (after_run is_plain_char cs) =
    ap length e in omega (arith, l, k)

single_run : (m : Quote) (cs : List ℕ) → left_of (single_len (quote_char m) (after_run is_plain_char cs)) (after_run is_plain_char cs) ≡
    left_of (single_len (quote_char m) cs) cs
single_run m [] = refl
single_run m (a ∷ t) =
    ⊎_elim
    (λ (h : is_plain_char a ≡ true).
    let o = other_is m a h in
    ap (λ u. left_of (single_len (quote_char m) u) u) (run_on is_plain_char a t h)
    ∙ single_run m t
    ∙ ap (λ n. left_of (single_len (quote_char m) (drop n (a ∷ t))) (drop n (a ∷ t))) (sym (unit_plain (a ∷ t) o.slash))
    ∙ single_step (quote_char m) (a ∷ t) (mark_is m) o.quote o.part)
    (λ (h : is_plain_char a ≡ false). ap (λ u. left_of (single_len (quote_char m) u) u) (run_off is_plain_char a t h))
    (cases_Bool (is_plain_char a))

triple_run : (m : Quote) (cs : List ℕ) → left_of (triple_len (quote_char m) (after_run is_plain_char cs)) (after_run is_plain_char cs) ≡
    left_of (triple_len (quote_char m) cs) cs
triple_run m [] = refl
triple_run m (a ∷ t) =
    ⊎_elim
    (λ (h : is_plain_char a ≡ true).
    let o = other_is m a h in
    let n : begins_quotes (quote_char m) (a ∷ t) ≡ false = rw o.quote refl in
    ap (λ u. left_of (triple_len (quote_char m) u) u) (run_on is_plain_char a t h)
    ∙ triple_run m t
    ∙ ap (λ n. left_of (triple_len (quote_char m) (drop n (a ∷ t))) (drop n (a ∷ t))) (sym (unit_plain (a ∷ t) o.slash))
    ∙ triple_step (quote_char m) (a ∷ t) (mark_is m) n refl)
    (λ (h : is_plain_char a ≡ false). ap (λ u. left_of (triple_len (quote_char m) u) u) (run_off is_plain_char a t h))
    (cases_Bool (is_plain_char a))

pub single_past : (m : Quote) (cs p : List ℕ) → p ≡ after_run is_plain_char cs → left_of (single_len (quote_char m) p) p ≡ left_of
    (single_len (quote_char m) cs) cs
single_past m cs p e = ap (λ u. left_of (single_len (quote_char m) u) u) e ∙ single_run m cs

pub triple_past : (m : Quote) (cs p : List ℕ) → p ≡ after_run is_plain_char cs → left_of (triple_len (quote_char m) p) p ≡ left_of
    (triple_len (quote_char m) cs) cs
triple_past m cs p e = ap (λ u. left_of (triple_len (quote_char m) u) u) e ∙ triple_run m cs
