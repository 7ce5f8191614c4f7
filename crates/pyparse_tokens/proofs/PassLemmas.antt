-- Carries: Pass, tokens_of. On: what one pass keeps, with one entry more and at the listing's end.
use Rattle.std.proofs.Common.{◌≡◌, ℕ, ◌+◌, ◌≤◌, Bool, true, false, List, [], ◌∷◌, ◌++◌, length, refl, sym, ap, ap₂, subst, append_assoc}
use Rattle.std.proofs.Common.{◌∙◌}
use Rattle.std.proofs.Common.{arith, Option, Some, None}
use Rattle.std.specs.Prelude.{count_by, if◌then◌else◌}
use Rattle.std.proofs.lemmas.List.Sums.{sum_by-cons, count_by-le-length}
use Rattle.pylex_listing.specs.declared.entries.Entry.{Entry}
use Rattle.pylex_listing.specs.declared.entries.ListingFault.{ListingFault}
use Rattle.pylex_listing.specs.Listing.{Source, listing}
use Rattle.pylex_listing.specs.Steps.{entries_of, fault_of}
use Rattle.pytree_node.specs.declared.profiles.Extent.{Extent}
use Rattle.pytoken.specs.declared.refusals.Refusal.{Refusal}
use Rattle.pytoken.specs.declared.refusals.Refusal.TheVariants as refusals
use Rattle.pytoken.specs.Brackets.{opens, closes}
use Rattle.pytoken.specs.Indentation.{Margin, margin_at, margins_from, margins}
use Rattle.pytoken.specs.Inner.Following.{following}
use Rattle.pytoken.specs.Tokens.{is_open}
use Rattle.pytoken.specs.Refusals.{most_brackets, entry_refusal, first_entry_refusal, first_too_deep, first_mixed, refusal_at, refusal}
use Rattle.pytoken.proofs.Callers.OnePass.{after_on, refusal_on, too_deep_on, mixed_on, margins_of_entry, margins_on}
use Rattle.pyparse_tokens.specs.declared.pass.Pass.{Pass}
use Rattle.pyparse_tokens.specs.Inner.Passing.{still_open, exceeding, counted, given_margins, kept_refusal, Gains, Passed}
use Rattle.pyparse_tokens.specs.Inner.Indenting.{Measures, Measured}
use Rattle.pyparse_tokens.proofs.IndentLemmas.{measures}
use Rattle.std.specs.Option.{option_or}

-- a count with one more
pub count_on : {X : Type 0} (p : X → Bool) (es : List X) (e : X) → counted (count_by p es) (p e) ≡ count_by p (e ∷ es)
count_on p es e = by (p e) ∙ sym (sum_by-cons (λ x. if p x then 1 else 0) e es)
  where
    by : (b : Bool) → counted (count_by p es) b ≡ (if b then 1 else 0) + count_by p es
    by true = omega arith
    by false = omega arith

margins_more : (text : List ℕ) (es : List Entry) (e : Entry) → margins text (es ++ e ∷ []) ≡ margins text es ++
    margins_of_entry text (following [] es) e
margins_more text es e =
    ap (λ (ms : List Margin). margin_at text 0 ++ ms) (margins_on text [] es e)
    ∙ sym (append_assoc (margin_at text 0) (margins_from text [] es) (margins_of_entry text (following [] es) e))

-- one entry more
pub passes : (text : List ℕ) (es : List Entry) (e : Entry) (old new : Pass) → Passed text es old
    → Gains text e (entry_refusal old.extent text e) old new →
    Passed text (es ++ e ∷ []) new
passes text es e old new had gains =
    let order = after_on [] es e in
    record {
      begun = gains.begun ∙ ap (still_open e.kind) had.begun ∙ sym (ap is_open order);
      opened = gains.opened ∙ ap (λ (n : ℕ). counted n (opens e)) had.opened ∙ count_on opens (following [] es) e
          ∙ sym (ap (count_by opens) order);
      closed = gains.closed ∙ ap (λ (n : ℕ). counted n (closes e)) had.closed ∙ count_on closes (following [] es) e
          ∙ sym (ap (count_by closes) order);
      faulty =
          gains.faulty
          ∙ ap (λ (r : Option Refusal). option_or r (entry_refusal old.extent text e)) had.faulty
          ∙ sym (refusal_on old.extent text es e)
          ∙ ap (λ (x : Extent). first_entry_refusal x text (es ++ e ∷ [])) (sym gains.extent);
      deep =
          gains.deep
          ∙ ap (λ (r : Option Refusal). option_or r (exceeding e old.opened old.closed)) had.deep
          ∙ ap₂ (λ (o c : ℕ). option_or (first_too_deep most_brackets [] es) (exceeding e o c)) had.opened had.closed
          ∙ sym (too_deep_on most_brackets [] es e);
      indents =
          subst (λ (ms : List Margin). Measured ms new.indents) (sym (margins_more text es e))
          (measures (margins text es) (margins_of_entry text (following [] es) e) old.indents new.indents had.indents
          (subst (λ (ms : List Margin). Measures ms old.indents new.indents)
          (ap₂ (given_margins text e) had.opened had.closed) gains.indents));
    }

-- where no refusal is kept, none was before, and the entry has none
pub kept_before : (text : List ℕ) (es : List Entry) (e : Entry) (own : Option Refusal) (old new : Pass) → Passed text es old
    → Gains text e own old new →
    kept_refusal new ≡ None → (kept_refusal old ≡ None) × (own ≡ None)
kept_before text es e own old new had gains none =
    let more = given_margins text e old.opened old.closed in
    let mixed = (gains.indents (margins text es) had.indents).mixed ∙ mixed_on [] (margins text es) more in
    let a = parts new.faulty (option_or new.deep new.indents.mixed) none in
    let b = parts new.deep new.indents.mixed a.1 in
    let faulty = parts old.faulty own (sym gains.faulty ∙ a.0) in
    let deep = parts old.deep (exceeding e old.opened old.closed) (sym gains.deep ∙ b.0) in
    let mix = parts (first_mixed [] (margins text es)) (first_mixed (following [] (margins text es)) more) (sym mixed ∙ b.1) in
    (rw (faulty.0, deep.0) (had.indents.mixed ∙ mix.0), faulty.1)
  where
    parts : (a b : Option Refusal) → option_or a b ≡ None → (a ≡ None) × (b ≡ None)
    parts None b is = (refl, is)
    parts (Some r) b is = absurd (cc)

-- no more are counted than entries were read

length_after : (before es : List Entry) → length (following before es) ≡ length before + length es
length_after before [] = omega arith
length_after before (e ∷ es) = let rest = length_after (e ∷ before) es in omega (arith, rest)

pub few : (text : List ℕ) (es : List Entry) (p : Pass) → Passed text es p → (p.opened ≤ length es) × (p.closed ≤ length es)
few text es p had =
    let size = length_after [] es in (
      omega (arith, had.opened, count_by-le-length opens (following [] es), size),
      omega (arith, had.closed, count_by-le-length closes (following [] es), size),
    )

-- after all entries

pub all_refusals : (extent : Extent) (s : Source) (es : List Entry) (p : Pass) → p.extent ≡ extent → Passed s.text es p
    → es ≡ entries_of (listing s) → fault_of (listing s) ≡ None →
    kept_refusal p ≡ refusal extent s
unfolding refusal_at
all_refusals extent s es p is had all none =
    ap₂ option_or (had.faulty ∙ ap₂ (λ (x : Extent) (read : List Entry). first_entry_refusal x s.text read) is all)
    (ap₂ option_or (had.deep ∙ ap (first_too_deep most_brackets []) all)
    (had.indents.mixed ∙ ap (λ (es : List Entry). first_mixed [] (margins s.text es)) all))
    ∙ sym (rw (none, refusal_at) refl)

pub refused_listing : (extent : Extent) (s : Source) (f : ListingFault) → fault_of (listing s) ≡ Some f
    → refusal extent s ≡ Some (refusals.Listing f)
unfolding refusal_at
refused_listing extent s f is = rw (is, refusal_at) refl
