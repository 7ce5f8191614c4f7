-- Nested: the place of a pattern, and of a simple statement, is the last of its places, and holds the others.
--
-- On: Nested of expressions, Tokens.
use Rattle.std.proofs.Common.{ℕ, ◌+◌, arith, List, length, length-append}
use Rattle.pytree_node.specs.declared.profiles.Profile.{Profile}
use Rattle.pytree_node.specs.Trees.{Pattern, Stmt}
use Rattle.pytoken.specs.Terminals.{Terminal}
use Rattle.pygrammar.specs.declared.pattern_levels.PatternLevel.{PatternLevel}
use Rattle.pygrammar.specs.Forms as F
use Rattle.pygrammar.specs.PatternGrammar as P
use Rattle.pyplaces.specs.FormPlaces.{simple_places}
use Rattle.pyplaces.specs.PatternPlaces.{pattern_places}
use Rattle.pyplaces.specs.Laws.{IsRooted}
use Rattle.pyplaces.proofs.Laws.Within.{own, alone_within, pattern_keys_within, key_patterns_within, named_within}
use Rattle.pyplaces.proofs.Laws.Nested.{rooted0, rooted1, rooted2, rooted3, rooted_in}
use Rattle.pyplaces.proofs.Laws.PatternTokens.{tokens_pattern, tokens_literal, tokens_class, tokens_alternatives, tokens_entries}
use Rattle.pyplaces.proofs.Laws.PatternTokens.{literal_some}
use Rattle.pyplaces.proofs.Laws.FormTokens.{simple_some, tokens_fields}

pub rooted_pattern : {l : PatternLevel} {ts : List Terminal} {p : Pattern} (at : ℕ) (d : P.DerivesPattern l ts p)
    → IsRooted at (at + length ts) (pattern_places at d)
rooted_pattern at (P.next p) = rooted_pattern at p
rooted_pattern at (P.open_sequence {ts = ts} p c) =
    rooted2 (tokens_pattern at p (omega arith) (omega arith))
    (alone_within (tokens_entries (1 + (at + length ts)) c (omega arith) (omega arith))) (omega arith) (omega arith)
    (simp length-append (omega arith))
rooted_pattern at P.star =
    rooted0 (omega arith) (omega arith) (omega arith)
rooted_pattern at (P.as_name x p f) =
    rooted1 (tokens_pattern at p (omega arith) (omega arith)) (omega arith) (omega arith) (simp length-append (omega arith))
rooted_pattern at (P.alternatives {ts = ts} p c) =
    rooted2 (tokens_pattern at p (omega arith) (omega arith)) (tokens_alternatives (1 + (at + length ts)) c (omega arith) (omega arith))
    (omega arith) (omega arith) (simp length-append (omega arith))
rooted_pattern at (P.literal p) =
    let some = literal_some p in rooted1 (tokens_literal at p (omega arith) (omega arith)) (omega arith) (omega arith) (omega arith)
rooted_pattern at (P.singleton f) =
    rooted0 (omega arith) (omega arith) (omega arith)
rooted_pattern at P.capture =
    rooted0 (omega arith) (omega arith) (omega arith)
rooted_pattern at (P.value x p) =
    rooted2 (tokens_class at p (omega arith) (omega arith)) (own (omega arith) (omega arith) (omega arith)) (omega arith) (omega arith)
    (simp length-append (omega arith))
rooted_pattern at (P.group p) = rooted_in (rooted_pattern (1 + at) p) (omega arith) (simp length-append (omega arith))
rooted_pattern at P.empty_sequence =
    rooted0 (omega arith) (omega arith) (omega arith)
rooted_pattern at (P.round_sequence {ts = ts} p c) =
    rooted2 (tokens_pattern (1 + at) p (omega arith) (omega arith))
    (alone_within (tokens_entries (2 + (at + length ts)) c (omega arith) (omega arith))) (omega arith) (omega arith)
    (simp length-append (omega arith))
rooted_pattern at (P.square_sequence c) =
    rooted1 (alone_within (tokens_entries (1 + at) c (omega arith) (omega arith))) (omega arith) (omega arith)
    (simp length-append (omega arith))
rooted_pattern at (P.mapping c f) =
    rooted2 (pattern_keys_within (tokens_entries (1 + at) c (omega arith) (omega arith)))
    (key_patterns_within (tokens_entries (1 + at) c (omega arith) (omega arith))) (omega arith) (omega arith)
    (simp length-append (omega arith))
rooted_pattern at (P.class_pattern {ts = ts} p c f) =
    rooted3 (tokens_class at p (omega arith) (omega arith))
    (alone_within (tokens_entries (1 + (at + length ts)) c (omega arith) (omega arith)))
    (named_within (tokens_entries (1 + (at + length ts)) c (omega arith) (omega arith))) (omega arith) (omega arith)
    (simp length-append (omega arith))

pub rooted_simple : {profile : Profile} {ts : List Terminal} {s : Stmt} (at : ℕ) (d : F.Simple profile ts s)
    → IsRooted at (at + length ts) (simple_places at d)
rooted_simple at d = let some = simple_some d in rooted1 (tokens_fields at d (omega arith) (omega arith)) (omega arith)
    (omega arith) (omega arith)
