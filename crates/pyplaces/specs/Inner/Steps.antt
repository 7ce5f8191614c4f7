-- The next step of each question.
use Rattle.std.specs.Prelude.{ℕ, List}
use Rattle.pytoken.specs.Terminals.{Terminal}
use Rattle.pyplaces.specs.Inner.Questions.{Question, An, More, Trailers, Bounds, Yielded, Perhaps, Suffixed, Links, Signs, Strings}
use Rattle.pyplaces.specs.Inner.Questions.{Parts, Specified, Items, Piece, Clauses, Iteration, Conditions, ATarget, LoneTarget, TargetList, Answer}
use Rattle.pyplaces.specs.Inner.Questions.{Pattern, Dotted, Alternatives, Entries, Entry, Commaed, Module, Dots, Valued, Statement}
use Rattle.pyplaces.specs.Inner.Questions.{Statements}
use Rattle.pyplaces.specs.Inner.Questions.{Reading, Ask}
use Rattle.pyplaces.specs.Inner.ExpressionSteps.{level_step, more_step, bounds_step, yielded_step, perhaps_step, suffixed_step}
use Rattle.pyplaces.specs.Inner.ExpressionSteps.{links_step, signs_step}
use Rattle.pyplaces.specs.Inner.AtomSteps.{trailers_step, strings_step, parts_step, specified_step}
use Rattle.pyplaces.specs.Inner.ListSteps.{items_step, piece_step, clauses_step, iteration_step, conditions_step, target_step}
use Rattle.pyplaces.specs.Inner.ListSteps.{lone_target_step, target_list_step}
use Rattle.pyplaces.specs.Inner.PatternSteps.{pattern_step, dotted_step, alternatives_step, entries_step, entry_step}
use Rattle.pyplaces.specs.Inner.LineSteps.{commaed_step, module_step, dots_step, valued_step, statement_step, statements_step}

abbrev pub step : (q : Question) → ℕ → List Terminal → (Answer q → ℕ → List Terminal → Reading) → Reading
step (An l) at i k = level_step l at i k
step (More l ps n) at i k = more_step l ps n at i k
step (Trailers ps n) at i k = trailers_step ps n at i k
step (Bounds ps n) at i k = bounds_step ps n at i k
step Yielded at i k = yielded_step at i k
step (Perhaps l) at i k = perhaps_step l at i k
step (Suffixed s) at i k = suffixed_step s at i k
step (Links o) at i k = links_step o at i k
step Signs at i k = signs_step at i k
step Strings at i k = strings_step at i k
step Parts at i k = parts_step at i k
step Specified at i k = specified_step at i k
step (Items item) at i k = items_step item at i k
step (Piece item) at i k = piece_step item at i k
step Clauses at i k = clauses_step at i k
step Iteration at i k = iteration_step at i k
step Conditions at i k = conditions_step at i k
step ATarget at i k = target_step at i k
step LoneTarget at i k = lone_target_step at i k
step TargetList at i k = target_list_step at i k
step (Pattern l) at i k = pattern_step l at i k
step (Dotted ps n) at i k = dotted_step ps n at i k
step Alternatives at i k = alternatives_step at i k
step (Entries item) at i k = entries_step item at i k
step (Entry item) at i k = entry_step item at i k
step (Commaed x) at i k = commaed_step x at i k
step Module at i k = module_step at i k
step Dots at i k = dots_step at i k
step Valued at i k = valued_step at i k
step Statement at i k = statement_step at i k
step Statements at i k = statements_step at i k

-- one reading becomes another, step by step
pub data Leads (b : Reading) : Reading → Type 0 where
  here : Leads b b
  on : {q : Question} {at : ℕ} {i : List Terminal} {k : Answer q → ℕ → List Terminal → Reading}
      → Leads b (step q at i k) → Leads b (Ask q at i k)
