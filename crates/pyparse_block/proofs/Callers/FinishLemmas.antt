-- Carries: line_error, finish_sound, finish_deep, Known::finish, parse. On: why a line has no
-- form, and what is known of a source at its end.
use Rattle.std.proofs.Common.{◌≡◌, inl, inr, ℕ, ◌≤◌, Bool, true, false, List, [], ◌++◌, length, take_all, refl, sym, subst, append-nil}
use Rattle.std.proofs.Common.{arith, None}
use Rattle.std.specs.Prelude.{nat_lt, Result, Err, IfErr}
use Rattle.std.proofs.lemmas.Bool.{ltb-true, ltb-false}
use Rattle.pysource.specs.declared.places.Place.{Place}
use Rattle.pysource.specs.Parts.{Parts}
use Rattle.pylex_listing.specs.Listing.{Source, in_characters}
use Rattle.pytree_node.specs.declared.profiles.Extent.{Extent}
use Rattle.pytree_node.specs.declared.profiles.Profile.{Profile}
use Rattle.pytree_node.specs.Trees.{Stmt, Module}
use Rattle.pytree_height.specs.Heights.{statement_height}
use Rattle.pytoken.specs.Tokens.{lines}
use Rattle.pytoken.specs.Tokens as Tokens
use Rattle.pytoken.specs.Refusals.{refusal}
use Rattle.pygrammar.specs.Lines.{Line, are_proper}
use Rattle.pygrammar.specs.Meets.{HighLine}
use Rattle.pygrammar.specs.Blocks.{Block, Fault, FirstFault}
use Rattle.pygrammar.specs.Refusals.{Code, Indentation, at, StartsAt, at_end, terminals, Formed, FirstUnread, Unread, too_high}
use Rattle.pygrammar.specs.Refusals.{too_long, Accepted, Refused, by_tokens, by_line, by_block, by_height}
use Rattle.pygrammar.specs.Refusals as code
use Rattle.pygrammar.specs.Reading.{Fine, run, start}
use Rattle.pygrammar.proofs.Callers.Blocks.{formed_flat, formed_proper, deep_is_high}
use Rattle.pygrammar.proofs.Callers.Lines.{lines_are_lawful}
use Rattle.pyparse_block.specs.declared.blocks.Blocks.{Blocks}
use Rattle.pyparse_block.specs.StateOf.{state_of}
use Rattle.pyparse_block.specs.declared.outline.outlines.Outline.{Outline}
use Rattle.pyparse_block.specs.Outlines.{Follows}
use Rattle.pyparse_block.specs.declared.outline.faults.BlockStop.{BlockStop}
use Rattle.pyparse_block.specs.declared.outline.faults.BlockStop.TheVariants as variant
use Rattle.pyparse_block.specs.Faults.{fault_of, Blames}
use Rattle.pyparse_tokens.specs.declared.faults.GrammarError.{GrammarError}
use Rattle.pyparse_tokens.specs.declared.faults.ParseFault.{ParseFault}
use Rattle.pyparse_tokens.specs.declared.faults.ParseFault.TheVariants as faults
use Rattle.pyparse_tokens.specs.Answers.{Tells}
use Rattle.pyparse_tokens.specs.LineReadings.{EndsAt}
use Rattle.pyparse_block.specs.Modules.{code_of, Refuses}
use Rattle.pyparse_block.proofs.Callers.ProgressLemmas.{formed_length}
use Rattle.pyparse_block.specs.Known.{first_lines, IsSound, IsDeepAt, IsFaultyAt, IsUnreadAt, Closes, TellsFault}

-- ---- A line without a form.

pub unread_high : {profile : Profile} (inside : Bool) (x : Tokens.Line) → HighLine profile inside 500 (terminals x)
    → Unread profile inside x code.TooDeep
unread_high {profile} inside x high = elim (lines_are_lawful.decided profile inside (terminals x)) [
  | inl formed ↦ too_high formed.2 (high.0 formed.0 formed.2)
  | inr none ↦ too_long none.1 (high.1 none.1)
]

-- ---- The end.

pub all_lines : {profile : Profile} {s : Source} {k : ℕ} {end : Place} → Closes profile s k end → first_lines s k ≡ lines s
all_lines {profile} {s} {k} closes = let all = closes.all in take_all k (lines s) (omega (arith, all))

starts_at_end : {profile : Profile} {s : Source} {k : ℕ} {end : Place} → Closes profile s k end → StartsAt s k end
starts_at_end {profile} {s} {k} closes =
    subst (StartsAt s k) closes.ends.start (at_end closes.ends.before closes.ends.last (sym closes.all) closes.ends.tokens)

module _ {profile : Profile} {s : Source} {k : ℕ} {end : Place} (closes : Closes profile s k end) where
  formed_to_end : {forms : List Line} → Formed profile [] (first_lines s k) forms → Formed profile [] (lines s) forms
  formed_to_end {forms} formed = subst (λ (xs : List Tokens.Line). Formed profile [] xs forms) (all_lines closes) formed

  -- no height of the tree is past 500 where no statement stands too deep
  pub sound_accepted : {forms : List Line} {o : Outline} {b : Blocks} (body : List Stmt) (was : IsSound profile s k forms o b)
      → Block 0 forms body → Accepted profile s (record { body = body })
  sound_accepted {forms} body was block =
      let m : Module = record { body = body } in
      record {
        clear = closes.clear;
        forms = forms;
        formed = formed_to_end was.formed;
        block = block;
        low = by m was block (nat_lt 500 (statement_height m)) refl;
      }
    where
      by : {forms : List Line} {o : Outline} {b : Blocks} (m : Module) (was : IsSound profile s k forms o b) → Block 0 forms m.body
          → (b : Bool) → nat_lt 500 (statement_height m) ≡ b → statement_height m ≤ 500
      by m was block true is = let found = (deep_is_high block (formed_flat was.formed)).1 (ltb-true 500 (statement_height m) is) in
          absurd (was.low found.0 found.1)
      by m was block false is = ltb-false 500 (statement_height m) is

  faulty_end : {forms : List Line} (e : GrammarError) (fault : Fault) → Formed profile [] (first_lines s k) forms
      → code_of e ≡ Indentation fault → FirstFault [] forms [] fault →
      Refused profile s (at end (code_of e))
  faulty_end {forms} e fault formed is first =
      let size : length forms ≡ length (lines s) = formed_length (formed_to_end formed) in
      let all = closes.all in
      subst (λ (c : Code). Refused profile s (at end c)) (sym is)
      (by_block {n = k} closes.clear (formed_to_end formed) first (omega (arith, size, all)) (starts_at_end closes))

  end_by : {forms : List Line} (e : GrammarError) (stop : BlockStop) → Formed profile [] (first_lines s k) forms → TellsFault stop e →
      Blames forms [] stop → Refused profile s (at end (code_of e))
  end_by e (variant.Faulty f) formed tells blames = faulty_end e (fault_of f) formed tells blames
  end_by e variant.Memory formed tells blames = absurd tells

  pub sound_refused : {forms : List Line} {o : Outline} {b : Blocks} (e : GrammarError) (stop : BlockStop)
      → IsSound profile s k forms o b → TellsFault stop e →
      ((xs : List Line) → run xs start ≡ Fine (state_of b) → Blames xs [] stop) → Refused profile s (at end (code_of e))
  sound_refused {forms} e stop was tells blames = end_by e stop was.formed tells (blames forms was.read)

  pub deep_refused : {forms : List Line} {o : Outline} {p : Place} (e : GrammarError) (stop : BlockStop)
      → IsDeepAt profile s k forms o p → TellsFault stop e →
      ((xs : List Line) → Follows xs o → Blames xs [] stop) → Refused profile s (at end (code_of e))
  deep_refused {forms} e stop was tells blames = end_by e stop was.formed tells (blames forms was.follows)

  -- a statement that stands too deep in a tree
  pub high_refused : {forms : List Line} {o : Outline} {p : Place} (was : IsDeepAt profile s k forms o p)
      → ((xs : List Line) → are_proper xs ≡ true → Follows xs o → (ss : List Stmt) × Block 0 xs ss) →
      Refused profile s (at p code.TooDeep)
  high_refused {forms} was tree =
      let body = tree forms (formed_proper was.formed) was.follows in
      let m : Module = record { body = body.0 } in
      by_height {m = m} closes.clear (formed_to_end was.formed) body.1 ((deep_is_high {m = m} body.1 (formed_flat was.formed)).0 (
        was.n,
        was.deep,
      )) was.deep was.starts

  pub faulty_refused : {forms : List Line} {e : GrammarError} {p : Place} → IsFaultyAt profile s k forms e p
      → Refused profile s (at p (code_of e))
  faulty_refused {forms} {e} {p} was =
      let first : FirstFault [] forms was.rest was.fault =
      subst (λ (xs : List Line). FirstFault [] xs was.rest was.fault) (append-nil forms)
      (subst (λ (xs : List Line). FirstFault [] (forms ++ []) xs was.fault) (append-nil was.rest) (was.first []))
      in
      subst (λ (c : Code). Refused profile s (at p c)) (sym was.code)
      (by_block {n = was.n} closes.clear (formed_to_end was.formed) first was.number was.starts)

  pub unread_refused : {e : GrammarError} {p : Place} → IsUnreadAt profile s k e p → Refused profile s (at p (code_of e))
  unread_refused {e} was =
      by_line closes.clear (subst (λ (xs : List Tokens.Line). FirstUnread profile [] xs was.n (code_of e)) (all_lines closes) was.first)
      was.starts

-- ---- The whole source.

-- a reason why a source has no tokens comes first
pub told : (profile : Profile) (s : Source) (fault : ParseFault) → Tells (refusal profile.extent s) fault → Refuses profile s fault
told profile s (faults.Refused r) is = by_tokens is
told profile s (faults.Grammar e p) is = absurd is
told profile s faults.Memory is = tt

-- and so does an answer that passes it on
pub told_on : {A : Type 0} (profile : Profile) (s : Source) (answer : Result A ParseFault) (fault : ParseFault)
    → Tells (refusal profile.extent s) fault →
    (x : ParseFault) × (answer ≡ Err x) × (x ≡ fault) → IfErr answer (Refuses profile s)
told_on {A} profile s answer fault tells passed =
    subst (λ (r : Result A ParseFault). IfErr r (Refuses profile s)) (sym passed.1)
    (subst (Refuses profile s) (sym passed.2) (told profile s fault tells))

-- no line comes more
pub closes_at : (profile : Profile) (s : Source) (extent : Extent) (given : ℕ) (p : Parts) (marker end : Place)
    → extent ≡ profile.extent → in_characters p ≡ s →
    given ≡ length (lines (in_characters p)) → refusal extent (in_characters p) ≡ None → EndsAt (in_characters p) marker → end ≡ marker
    → Closes profile s given end
closes_at profile s extent given p marker end read same all clear ends is =
    let unrefused : refusal profile.extent (in_characters p) ≡ None =
    subst (λ (x : Extent). refusal x (in_characters p) ≡ None) read clear in
    subst (λ (s : Source). Closes profile s given end) same
    (record { all = all; clear = unrefused; ends = subst (EndsAt (in_characters p)) (sym is) ends })
