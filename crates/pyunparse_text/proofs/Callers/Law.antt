-- On: all the laws of what a tree is written in.
--
-- Carries: what crates above may cite.
use Rattle.pyunparse_text.specs.Laws.{WritingIsLawful, WritingIsShortest}
use Rattle.pyunparse_text.proofs.Callers.Shortest.{expressions_are_shortest, expressions_come_back, targets_are_shortest}
use Rattle.pyunparse_text.proofs.Callers.Shortest.{parameters_are_shortest}
use Rattle.pyunparse_text.proofs.Callers.Shortest.{arguments_are_shortest, brackets_are_within_height}
use Rattle.pyunparse_text.proofs.Callers.Read.{expressions_are_read}
use Rattle.pyunparse_text.proofs.Callers.Patterns.{patterns_are_shortest, pattern_brackets_are_within_height, patterns_are_read}
use Rattle.pyunparse_text.proofs.Callers.Modules.{modules_come_back, cases_stand_in_matches, lines_are_one_module}
use Rattle.pyunparse_text.proofs.Callers.Texts.{modules_are_read, module_texts_are_accepted, accepted_texts_are_accepted}

pub writing_is_shortest : WritingIsShortest
writing_is_shortest = record {
  expressions = expressions_are_shortest;
  targets = targets_are_shortest;
  parameters = parameters_are_shortest;
  arguments = arguments_are_shortest;
  patterns = patterns_are_shortest;
  brackets = brackets_are_within_height;
  pattern_brackets = pattern_brackets_are_within_height;
}

pub writing_is_lawful : WritingIsLawful
writing_is_lawful = record {
  shortest = writing_is_shortest;
  back = expressions_come_back;
  read = expressions_are_read;
  patterns = patterns_are_read;
  modules = modules_come_back;
  cases = cases_stand_in_matches;
  one = lines_are_one_module;
  lines = modules_are_read;
  texts = module_texts_are_accepted;
  sources = accepted_texts_are_accepted;
}
