-- The form at the front of a line, part by part.
--
-- Carries: read_suite, read_front. On: Fronts.
use Rattle.std.proofs.Common.{◌≡◌, refl, sym, ap, ◌∙◌, arith, ℕ, suc, ◌+◌, ◌<◌, List, [], ◌∷◌, length, Option, Some, None, Bool, true}
use Rattle.std.proofs.Common.{false, cond, Result}
use Rattle.pylex_lexeme.specs.declared.kinds.Exact.TheVariants.{Colon}
use Rattle.pytree_node.specs.declared.profiles.Profile.{Profile}
use Rattle.pytree_node.specs.Trees.{Expr, Pattern, Stmt}
use Rattle.pytoken.specs.declared.keywords.Keyword.TheVariants.{If}
use Rattle.pytoken.specs.Terminals.{Terminal, Word}
use Rattle.pytoken.specs.declared.values.terminals.Terminal as given
use Rattle.pygrammar.specs.declared.levels.Level.TheVariants.{Named}
use Rattle.pygrammar.specs.declared.pattern_levels.PatternLevel.TheVariants.{Patterns}
use Rattle.pygrammar.specs.Forms.{is_case_line}
use Rattle.pygrammar.specs.FormOf.{form_of}
use Rattle.pygrammar.specs.LineReader as reader
use Rattle.pygrammar.specs.LineReader.{statements}
use Rattle.pygrammar.specs.Lines.{Header, case_header, header_form}
use Rattle.pygrammar.specs.Looks.{is_op}
use Rattle.pygrammar.specs.PatternReader.{PatternReads}
use Rattle.pygrammar.specs.Reader.{Answer, Found, NoForm, TooDeep, Reads, and_then, on_first, on_some}
use Rattle.pyparse_nodes.specs.declared.stop.Stop.{Stop}
use Rattle.pyparse_nodes.specs.Answers.{Failed, PartAt}
use Rattle.pyparse_nodes.specs.Views.{first_of, seen}
use Rattle.pyparse_reads.proofs.Callers.Looks.{failed_then, seen_length}
use Rattle.pyparse_reads.proofs.Callers.Looks
use Rattle.pyparse_line.specs.declared.found.ReadForm.{ReadForm}
use Rattle.pyparse_line.specs.declared.openings.Opening.{Opening}
use Rattle.pyparse_line.specs.declared.openings.Opening.TheVariants as kind
use Rattle.pyparse_line.specs.Inner.Answers.{FormAnswered}
use Rattle.pyparse_line.specs.Inner.Fronts.{cased, colon, front, front_of, suite, with_colon}
use Rattle.pyparse_line.specs.Inner.Openings.{opening_at, plain_opening}
use Rattle.pyparse_statement.proofs.Callers.Parts.{answered_as}

module _ (profile : Profile) (self : Reads) where
  -- statements after a colon
  suite_some : (i : List Terminal) → 0 < length i → suite profile self i ≡ and_then (statements profile self (suc (length i)) i)
      (λ ss r. Found (Some ss) r)
  suite_some [] w = absurd (omega (arith, w))
  suite_some (t ∷ r) w = refl

  module _ (ts : List given.Terminal) (at : ℕ) (w : at < length ts) where
    read : suite profile self (seen ts at) ≡ and_then (statements profile self (suc (length (seen ts at))) (seen ts at))
        (λ ss r. Found (Some ss) r)
    read = suite_some (seen ts at) (omega (arith, seen_length ts at, w))

    pub suite_failed : (e : Stop) → Failed e (statements profile self (suc (length (seen ts at))) (seen ts at))
        → Failed e (suite profile self (seen ts at))
    suite_failed e f = rw read (failed_then e (statements profile self (suc (length (seen ts at))) (seen ts at))
        (λ ss r. Found (Some ss) r) f)

    pub suite_found : (ss : List Stmt) (n : ℕ) → PartAt ts (at + 1) (statements profile self (suc (length (seen ts at))) (seen ts at)) ss n
        → PartAt ts at (suite profile self (seen ts at)) (Some ss) n
    suite_found ss n f = record {
      ahead = omega (arith, f.ahead);
      within = f.within;
      is = read
          ∙ ap (λ y. and_then y (λ ss r. Found (Some ss) r)) f.is;
    }

  -- a header, its colon, and what stands after it
  suite_is : (h : Header) (r : List Terminal) → reader.suite profile self h r ≡ and_then (suite profile self r)
      (λ s r1. Found (header_form h s) r1)
  suite_is h [] = refl
  suite_is h (t ∷ r) = go (statements profile self (suc (length (t ∷ r))) (t ∷ r))
    where
      go : (x : Answer (List Stmt)) → and_then x (λ ss r1. Found (header_form h (Some ss)) r1) ≡ and_then
          (and_then x (λ ss r1. Found (Some ss) r1)) (λ s r1. Found (header_form h s) r1)
      go (Found ss r1) = refl
      go NoForm = refl
      go TooDeep = refl

  colon_is : (h : Header) (r : List Terminal) → on_first (is_op Colon) r (λ _ r1. reader.suite profile self h r1) NoForm ≡ and_then
      (colon profile self r) (λ s r1. Found (header_form h s) r1)
  colon_is h [] = refl
  colon_is h (t ∷ r) = go (is_op Colon t)
    where
      go : (o : Option ℕ) → on_some o (λ _. reader.suite profile self h r) NoForm ≡ and_then (on_some o (λ _. suite profile self r) NoForm)
          (λ s r1. Found (header_form h s) r1)
      go None = refl
      go (Some n) = suite_is h r

  headed_is : (x : Answer Header) → and_then x (λ h r. on_first (is_op Colon) r (λ _ r1. reader.suite profile self h r1) NoForm) ≡
      with_colon profile self x
  headed_is (Found h r) = colon_is h r
  headed_is NoForm = refl
  headed_is TooDeep = refl

  -- a case, part by part
  guarded : (p : Pattern) (x : Answer (Option Expr))
      → and_then x (λ g r. on_first (is_op Colon) r (λ _ r1. reader.suite profile self (case_header p g) r1) NoForm) ≡ with_colon profile
      self (and_then x (λ g r. Found (case_header p g) r))
  guarded p (Found g r) = colon_is (case_header p g) r
  guarded p NoForm = refl
  guarded p TooDeep = refl

module _ (profile : Profile) (self : Reads) (patterns : PatternReads) where
  case_is : (r : List Terminal) → reader.case_rest profile self patterns r ≡ cased profile self patterns r
  case_is r = go (patterns Patterns r)
    where
      go : (x : Answer Pattern)
          → and_then x (λ p r1. and_then (reader.after self (Word If) Named r1)
          (λ g r2. on_first (is_op Colon) r2 (λ _ r3. reader.suite profile self (case_header p g) r3) NoForm)) ≡ with_colon profile self
          (and_then x (λ p r1. and_then (reader.after self (Word If) Named r1) (λ g r2. Found (case_header p g) r2)))
      go (Found p r1) = guarded profile self p (reader.after self (Word If) Named r1)
      go NoForm = refl
      go TooDeep = refl

  -- a line by what begins it
  by_opening : (c m : Bool) (o : reader.Opening) (t : Terminal) (r : List Terminal) → cond c (reader.case_rest profile self patterns r)
      (cond m (reader.match_rest profile self r) (reader.line_of profile self o (t ∷ r) r)) ≡ front_of profile self patterns
      (cond c kind.Cases (cond m kind.Matches (plain_opening o))) (t ∷ r) r
  by_opening true m o t r = case_is r
  by_opening false true o t r = refl
  by_opening false false reader.Decorates t r = refl
  by_opening false false reader.Heads t r = headed_is profile self (reader.read_header profile self (t ∷ r))
  by_opening false false reader.States t r = refl

  module _ (inside : Bool) (ts : List given.Terminal) (t : Terminal) (h : first_of (seen ts 0) ≡ Some t) where
    front_is : front profile self patterns inside (seen ts 0) ≡ front_of profile self patterns
        (opening_at profile inside (seen ts 0)) (seen ts 0) (seen ts 1)
    front_is = rw (Looks.front ts 0 t h) (by_opening (is_case_line profile inside (t ∷ seen ts 1))
        (reader.is_match_line profile (t ∷ seen ts 1)) (reader.opening t) t (seen ts 1))

    pub front_answered : (o : Opening) (least : ℕ) (z : Result ReadForm Stop) → o ≡ opening_at profile inside (seen ts 0)
        → FormAnswered ts least (front_of profile self patterns o (seen ts 0) (seen ts 1)) z
        → FormAnswered ts 0 (front profile self patterns inside (seen ts 0)) z
    front_answered o least z q f = answered_as ts 0 least (front profile self patterns inside (seen ts 0))
        (front_of profile self patterns o (seen ts 0) (seen ts 1)) (λ r. form_of r.form) (λ r. r.next) z (front_is
        ∙ ap (λ k. front_of profile self patterns k (seen ts 0) (seen ts 1)) (sym q)) (omega arith) f
