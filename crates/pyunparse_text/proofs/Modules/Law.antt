-- Carries: the law of modules. On: a module that some lines are is that of its own lines.
use Rattle.std.proofs.Common.{List, []}
use Rattle.std.specs.Prelude.{All}
use Rattle.std.proofs.lemmas.List.Elements.{All-head, All-tail}
use Rattle.pytree_node.specs.declared.profiles.Profile.{Profile}
use Rattle.pytree_node.specs.Trees.{Expr, Pattern}
use Rattle.pytoken.specs.Terminals.{Terminal}
use Rattle.pygrammar.specs.declared.pattern_levels.PatternLevel.{PatternLevel}
use Rattle.pygrammar.specs.PatternGrammar.{DerivesPattern}
use Rattle.pygrammar.specs.Lines.{Line, Header, decorator_form, if_header, elif_header}
use Rattle.pygrammar.specs.Forms as F
use Rattle.pyunparse_text.specs.WrittenPatterns.{written_pattern}
use Rattle.pyunparse_text.specs.Terminals.{terminal}
use Rattle.pyunparse_text.specs.Modules.{WrittenLine, written_line}
use Rattle.pyunparse_text.specs.Laws.{HaveForms, no_form, a_form, MayBeTokens, ModulesComeBack}
use Rattle.pyunparse_text.proofs.Patterns.Values.{Told, told_front, told_after, told_rest}
use Rattle.pyunparse_text.proofs.Patterns.Claims.{here}
use Rattle.pyunparse_text.proofs.Patterns.Induction.{claim}
use Rattle.pyunparse_text.proofs.Modules.Parts.{again, after_again}
use Rattle.pyunparse_text.proofs.Modules.Simple.{simple_again}
use Rattle.pyunparse_text.proofs.Modules.Headers.{header_again}
use Rattle.pyunparse_text.proofs.Modules.With.{items_again}
use Rattle.pyunparse_text.proofs.Modules.Wells.{HeadOf, other_head, match_head, case_head, Gives, Formed, none_formed, one_formed}
use Rattle.pyunparse_text.proofs.Modules.Wells.{block_wells}
use Rattle.pyunparse_text.proofs.Modules.Places.{blocks_placed, in_place}
use Rattle.pyunparse_text.proofs.Modules.Again.{Simple, Head, Test, wells_again}

pattern_again : {l : PatternLevel} {ts : List Terminal} {p : Pattern} → Told ts → DerivesPattern l ts p
    → DerivesPattern l (written_pattern terminal l p) p
pattern_again q d = here (claim d) q

elif_again : {profile : Profile} {ts : List Terminal} {e : Expr} → F.HeaderOf profile ts (if_header e) → Head profile (elif_header e)
elif_again (F.if_line p) = other_head (F.elif_line (again p))

if_again : {profile : Profile} {ts : List Terminal} {e : Expr} → F.HeaderOf profile ts (elif_header e) → Head profile (if_header e)
if_again (F.elif_line p) = other_head (F.if_line (again p))

head_again : {profile : Profile} {ts : List Terminal} {h : Header} → Told ts → HeadOf profile ts h → Head profile h
head_again q (other_head p) = other_head (header_again items_again p)
head_again q (match_head form w p) = match_head F.match_name w (again p)
head_again q (case_head w (F.case_line {ts = ts} {us = us} form d g)) =
    case_head w (F.case_line F.case_name (pattern_again (told_front ts us (told_rest q)) d) (after_again g))

decorator_again : {profile : Profile} {ts : List Terminal} {e : Expr} → F.FormOf profile ts (decorator_form e) → Test e
decorator_again (F.decorator_line p) = again p

all_again : (profile : Profile) → Gives (Simple profile) (Head profile) Test profile Told
all_again profile = record {
  simple = λ q p. simple_again p;
  header = λ q p. head_again q p;
  elif_too = λ q p. elif_again p;
  if_too = λ q p. if_again p;
  decorator = λ q p. decorator_again p;
  front = told_front;
  rest = λ ts us t c n. told_after ts us t;
}

formed : {profile : Profile} {earlier : List Line} {ws : List (WrittenLine Terminal)} {xs : List Line} → All MayBeTokens ws
    → HaveForms profile earlier ws xs → Formed (Simple profile) (Head profile) Test profile Told (all_again profile) xs
formed h no_form = none_formed
formed h (a_form {l = l} {ts = ts} {ws = ws} p c) =
    one_formed (record { all = All-head MayBeTokens (written_line l ts) ws h }) p (formed (All-tail MayBeTokens (written_line l ts) ws h) c)

pub modules_again : ModulesComeBack
modules_again profile ws m g h =
    let w = wells_again profile (block_wells (Simple profile) (Head profile) Test profile Told (all_again profile) g.block
    (formed h g.formed)) 0 in
    record { forms = w.lines; formed = in_place [] w.formed (blocks_placed w.is); block = w.is }
