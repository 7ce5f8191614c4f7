-- On: the laws of the forms of lines, of blocks and of the answer for a source.
--
-- Carries: what pyparse, pyunparse_text cite.
use Rattle.pygrammar.specs.SourceLaws.{FormsAreLawful, BlocksAreLawful, AnswersAreLawful}
use Rattle.pygrammar.proofs.Line.Law.{one_form}
use Rattle.pygrammar.proofs.Line.Stays.{old_is_untyped}
use Rattle.pygrammar.proofs.Block.Leads.{one_tree}
use Rattle.pygrammar.proofs.Block.Law.{fault_or_tree, tree_faultless, one_first, no_first}
use Rattle.pygrammar.proofs.Block.Answer.{one_answer, never_both, answer_stays}
use Rattle.pygrammar.proofs.Block.Deep.{formed_flat, deep_is_high}
use Rattle.pygrammar.proofs.Block.Total.{answered}
use Rattle.pygrammar.proofs.Block.Reasons.{one_reason}
use Rattle.pygrammar.proofs.Block.Types.{old_has_no_types}
use Rattle.pygrammar.proofs.Plain.Law.{extents_by_trees}

pub forms_are_lawful : FormsAreLawful
forms_are_lawful = record { unique = λ profile inside ts f g p q. one_form p q; new = old_is_untyped }

pub blocks_are_lawful : BlocksAreLawful
blocks_are_lawful = record {
  unique = λ xs a b p q. one_tree p q;
  decided = fault_or_tree;
  faultless = λ xs rest ss f p q. no_first (tree_faultless xs ss p) q;
  first = λ xs a b e f p q. one_first p q;
}

pub answers_are_lawful : AnswersAreLawful
answers_are_lawful = record {
  unique = λ profile s a b p q. one_answer p q;
  apart = λ profile s m r p q. never_both p q;
  stays = λ extent s m p. answer_stays p;
  new = old_has_no_types;
  extents = extents_by_trees;
  total = answered;
  one = λ profile s r q a b. one_reason a b;
  depths = λ profile xs forms m p b. deep_is_high b (formed_flat p);
}
