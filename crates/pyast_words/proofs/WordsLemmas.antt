-- Carries: read_words, dump_form, files_of. What `clap` finds among the words gives the command, or refuses them.
use Rattle.std.proofs.Common.{◌≡◌, ◌≢◌, ◌⊎◌, ℕ, ◌≤◌, ◌<◌, Bool, true, false, not, ◌||◌, List, [], ◌∷◌, ◌++◌, codes, refl, sym, ap, ap₂}
use Rattle.std.proofs.Common.{subst, ◌∙◌, inl, inr, Option, Some, None, Result, Ok, Err, arith}
use Rattle.std.specs.Borrow.{Bor}
use Rattle.std.specs.Prelude.{IfOk, map, option_map, unwrap_or}
use Rattle.std.specs.Str.Parse.{ParsesUnsigned}
use Rattle.clap.specs.Built.{AddsArg}
use Rattle.clap.specs.Faults.{fault_of, is_simple_and_free}
use Rattle.clap.specs.Kinds.{FailsBy, HasKind, IsAmong}
use Rattle.clap.specs.Matches.{TriesOne}
use Rattle.clap.specs.Simple.{HasMatchesOf, Shape, app_of, is_simple, subcommand_of, subcommand_rows_of, with_rule}
use Rattle.clap.specs.Values.{kind_of}
use Rattle.clap.specs.Walk.{Row, Rule, first_of}
use Rattle.clap.specs.declared.builder.arg.Arg.{Arg}
use Rattle.clap.specs.declared.builder.command.Command.{Command as ClapCommand}
use Rattle.clap.specs.declared.error.Error.{Error}
use Rattle.clap.specs.declared.error.kind.ErrorKind.{ErrorKind}
use Rattle.clap.specs.declared.error.kind.ErrorKind.TheVariants.{DisplayHelp, DisplayVersion, OutOfMemory}
use Rattle.clap.specs.declared.parser.matches.ArgMatches.{ArgMatches}
use Rattle.pylex.specs.CursorTexts.{IsWellFormed}
use Rattle.pylex.specs.Cursors.{CursorParts, cursor_text}
use Rattle.pylex.specs.declared.cursor.CursorFault.{CursorFault}
use Rattle.pylex.specs.declared.cursor.CursorFault.TheVariants as cursor_faults
use Rattle.pyast_words.specs.Words.{grammar, of_cursor, IsCommand, IsFlag, IsNumber, Refuses}
use Rattle.pyast_words.specs.Inner.Matching.{Explains, IsForm, IsRule, MissesCommand, MissesCursor}
use Rattle.pyast_words.specs.declared.command.UsageFault.{UsageFault}
use Rattle.pyast_words.specs.declared.command.UsageFault.TheVariants as faults

grammar_is_simple : is_simple grammar ≡ true
grammar_is_simple = refl

grammar_is_free : is_simple_and_free grammar ≡ true
grammar_is_free = refl

-- an argument more of a subcommand
pub one_more : {shape : Shape} {old new : ClapCommand} {rule : Rule} {a : Arg} → IsForm shape old → IsRule rule a → AddsArg old a new
    → IsForm (record shape { rules = shape.rules ++ rule ∷ [] }) new
one_more form rule added = record {
  is = added.shape rule.local ∙ ap₂ with_rule form.is rule.is;
  local = added.globals ∙ ap₂ ◌||◌ form.local rule.local;
}

pub is_flag : (o : Option (List ℕ)) (set : Bool) → (o ≡ None → set ≡ false) → (o ≡ Some (codes "true") → set ≡ true)
    → (o ≡ Some (codes "false") → set ≡ false) → IsFlag o set
is_flag None set none set_by unset_by = none refl
is_flag (Some text) set none set_by unset_by = (λ e. set_by (ap (λ t. Some t) e), λ e. unset_by (ap (λ t. Some t) e))

-- two negations are none
pub not_not : (b : Bool) → not (not b) ≡ b
not_not true = refl
not_not false = refl

-- the texts of a list that may not be there
pub texts_or_none : (o : Option (Bor (List (Bor (List ℕ))))) (none : Bor (List (Bor (List ℕ)))) → none.now ≡ []
    → map (λ word. word.now) (unwrap_or o none).now ≡ unwrap_or (option_map (λ list. map (λ word. word.now) list.now) o) []
texts_or_none None none empty = ap (map (λ word. word.now)) empty
texts_or_none (Some list) none empty = refl

-- the number that was read of what was found for an option
module _ {E : Type 0} (gives : List ℕ → Result ℕ E → Type 0) (parses : (t : List ℕ) (r : Result ℕ E) → gives t r
    → ParsesUnsigned 64 10 t r) (largest : ℕ) where
  pub number_given : (o : Option (List ℕ)) (number : Option ℕ) → (o ≡ None → number ≡ None)
      → ((t : List ℕ) → o ≡ Some t → TriesOne gives t (Ok number)) → unwrap_or number 0 ≤ largest → IsNumber largest o number
  number_given None number none value small = none refl
  number_given (Some t) None none value small = absurd (value t refl)
  number_given (Some t) (Some n) none value small =
      let p = parses t (Ok n) (value t refl) in
      let is = p.1 in
      ((p.0.0, p.0.1, omega arith, rw (← is) small), ap (λ m. Some m) is)

  pub number_large : (o : Option (List ℕ)) (number : Option ℕ) → (o ≡ None → number ≡ None)
      → ((t : List ℕ) → o ≡ Some t → TriesOne gives t (Ok number)) → largest < unwrap_or number 0
      → (m : Option ℕ) → IsNumber largest o m → ⊥
  number_large o None none value large m is = absurd (omega arith)
  number_large None (Some n) none value large m is = let e = none refl in cc
  number_large (Some t) (Some n) none value large m is =
      let p = parses t (Ok n) (value t refl) in
      let same = p.1 in
      let small = is.0.3 in
      absurd (omega arith)

  pub number_missed : (o : Option (List ℕ)) (e : E) → (o ≢ None) → ((t : List ℕ) → o ≡ Some t → TriesOne gives t (Err e)) → (m : Option ℕ)
      → IsNumber largest o m → ⊥
  number_missed None e none value m is = none refl
  number_missed (Some t) e none value m is = parses t (Err e) (value t refl) (is.0.0, is.0.1)

pub misses_cursor : (found : List Row) (word : List ℕ) (fault : CursorFault) → Some word ≡ first_of (codes "resume") found
    → fault ≢ cursor_faults.AnotherSource
    → (fault ≡ cursor_faults.Text → (c : CursorParts) → IsWellFormed c → cursor_text c ≡ word → ⊥) → MissesCursor found (of_cursor fault)
misses_cursor found word cursor_faults.Text is n m = (word, sym is, m refl)
misses_cursor found word cursor_faults.AnotherSource is n m = absurd (n refl)
misses_cursor found word cursor_faults.Memory is n m = tt

-- what stands among the kinds of no fault
none_among : (kind : ErrorKind) (words : List (List ℕ)) → fault_of grammar words ≡ [] → IsAmong kind (fault_of grammar words) → ⊥
none_among kind words none among = rw none at among

only_one : (kind one : ErrorKind) (words : List (List ℕ)) → kind ≢ one → fault_of grammar words ≡ one ∷ []
    → IsAmong kind (fault_of grammar words) → ⊥
only_one kind one words other is among = by_first (rw is at among)
  where
    by_first : IsAmong kind (one ∷ []) → ⊥
    by_first (inl e) = other e
    by_first (inr n) = n

-- a refusal by the grammar
pub refuses_kind : (words : List (List ℕ)) (kind : ErrorKind) (fault : UsageFault) → Explains kind fault
    → (kind ≡ OutOfMemory) ⊎ IsAmong kind (fault_of grammar words) → Refuses words fault
refuses_kind words kind faults.BadArguments x (inl e) = absurd (x.2 e)
refuses_kind words kind faults.BadArguments x (inr among) = record {
  no_command = λ command given. none_among kind words given.0 among;
  not_by_cursor = λ malformed. none_among kind words malformed.0 among;
  not_help = λ help. only_one kind DisplayHelp words x.0 help among;
  not_version = λ version. only_one kind DisplayVersion words x.1 version among;
}
refuses_kind words kind (faults.BadWord word) x among = absurd x
refuses_kind words kind faults.WordMissing x among = absurd x
refuses_kind words kind (faults.HelpAsked text) x (inl e) = let same : DisplayHelp ≡ OutOfMemory = sym x ∙ e in cc
refuses_kind words kind (faults.HelpAsked text) x (inr among) = rw (← x) among
refuses_kind words kind (faults.VersionAsked text) x (inl e) = let same : DisplayVersion ≡ OutOfMemory = sym x ∙ e in cc
refuses_kind words kind (faults.VersionAsked text) x (inr among) = rw (← x) among
refuses_kind words kind faults.MalformedCursor x among = absurd x
refuses_kind words kind faults.Memory x among = tt

-- a refusal by what was found
pub refuses_found : (words : List (List ℕ)) (sub : Option (List ℕ × List Row)) (fault : UsageFault) → fault_of grammar words ≡ []
    → sub ≡ subcommand_of grammar words → MissesCommand sub fault → Refuses words fault
refuses_found words sub faults.BadArguments none is misses = record {
  no_command = λ command given. misses.0 command (subst (λ s. IsCommand s command) (sym is) given.1);
  not_by_cursor = λ malformed. misses.1 malformed.1.0 (is ∙ malformed.1.1) malformed.1.2;
  not_help = λ help. let e : [] ≡ DisplayHelp ∷ [] = sym none ∙ help in cc;
  not_version = λ version. let e : [] ≡ DisplayVersion ∷ [] = sym none ∙ version in cc;
}
refuses_found words sub (faults.BadWord word) none is misses = absurd misses
refuses_found words sub faults.WordMissing none is misses = absurd misses
refuses_found words sub (faults.HelpAsked text) none is misses = absurd misses
refuses_found words sub (faults.VersionAsked text) none is misses = absurd misses
refuses_found words sub faults.MalformedCursor none is misses = (none, (misses.0, sym is ∙ misses.1, misses.2))
refuses_found words sub faults.Memory none is misses = tt

-- what a parse by the grammar that succeeds has found
pub found_ok : (g : ClapCommand) (words : List (List ℕ)) (r : Result ArgMatches Error) (m : ArgMatches) → app_of g ≡ grammar → r ≡ Ok m
    → (is_simple_and_free (app_of g) ≡ true → FailsBy (fault_of (app_of g) words) r)
    → IfOk r (HasMatchesOf (app_of g) words) → (fault_of grammar words ≡ []) × (subcommand_rows_of m ≡ subcommand_of grammar words)
found_ok g words r m app ok kinds matches =
    let none : fault_of (app_of g) words ≡ [] =
    subst (FailsBy (fault_of (app_of g) words)) ok (kinds (ap is_simple_and_free app ∙ grammar_is_free)) in
    let has : HasMatchesOf (app_of g) words m =
    subst (λ (x : Result ArgMatches Error). IfOk x (HasMatchesOf (app_of g) words)) ok matches in
    (ap (λ a. fault_of a words) (sym app) ∙ none, (has (ap is_simple app ∙ grammar_is_simple)).1 ∙ ap (λ a. subcommand_of a words) app)

-- why one that fails does
pub failed_err : (g : ClapCommand) (words : List (List ℕ)) (r : Result ArgMatches Error) (e : Error) → app_of g ≡ grammar → r ≡ Err e
    → (is_simple_and_free (app_of g) ≡ true → FailsBy (fault_of (app_of g) words) r)
    → (kind_of e ≡ OutOfMemory) ⊎ IsAmong (kind_of e) (fault_of grammar words)
failed_err g words r e app is kinds =
    let has : HasKind (fault_of (app_of g) words) e =
    subst (FailsBy (fault_of (app_of g) words)) is (kinds (ap is_simple_and_free app ∙ grammar_is_free)) in
    subst (λ a. HasKind (fault_of a words) e) app has
