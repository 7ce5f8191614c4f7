-- Carries: the laws by tokens. On: what fits has tokens, those that it is written in, unless it is too high for an f-string that it has.
use Rattle.std.proofs.Common.{◌≡◌, refl, sym, ap, subst, ◌∙◌, List, [], ◌∷◌, ◌++◌, ◌&&◌, map, true, None}
use Rattle.std.specs.Prelude.{All}
use Rattle.std.specs.List.{list_all, flat_map}
use Rattle.std.specs.Str.{all_scalars}
use Rattle.std.proofs.lemmas.Bool.{and_parts}
use Rattle.std.proofs.lemmas.List.Elements.{All-nil, All-cons}
use Rattle.pysource.specs.declared.places.Place.{Place}
use Rattle.pytree_node.specs.declared.profiles.Extent.{Extent}
use Rattle.pytree_node.specs.declared.profiles.Profile.{Profile}
use Rattle.pytree_node.specs.Trees.{Expr, Pattern, Module}
use Rattle.pytoken.specs.Terminals.{Terminal, terminals_of, fault_of}
use Rattle.pytoken.specs.Tokens.{Token}
use Rattle.pytoken.specs.Tokens as Tokens
use Rattle.pytoken.specs.SourceTokens.{IsOfSource}
use Rattle.pygrammar.specs.declared.levels.Level.{Level}
use Rattle.pygrammar.specs.declared.pattern_levels.PatternLevel.{PatternLevel}
use Rattle.pygrammar.specs.Grammar.{Derives}
use Rattle.pygrammar.specs.PatternGrammar.{DerivesPattern}
use Rattle.pygrammar.specs.Lines.{Line}
use Rattle.pygrammar.specs.Forms.{FormAt}
use Rattle.pygrammar.specs.Blocks.{stands_in_match}
use Rattle.pyunparse_text.specs.Spacing as Spacing
use Rattle.pyunparse_text.specs.Spacing.{Piece, are_readable}
use Rattle.pyunparse_text.specs.Tokens.{closes_all, is_written, rise_by_one}
use Rattle.pyunparse_text.specs.Pieces.{Sited}
use Rattle.pyunparse_text.specs.Modules.{WrittenLine, written_line, line_of, piece_lines}
use Rattle.pyunparse_text.specs.Laws as Written
use Rattle.pyunparse_text.specs.Laws.{Give, give_none, give, AreRead, GiveLines, AreModule, MayBeTokens}
use Rattle.pyunparse_text.proofs.Callers.Shortest.{expressions_are_shortest}
use Rattle.pyunparse_text.proofs.Callers.Patterns.{patterns_are_shortest}
use Rattle.pyunparse_text.proofs.Callers.Modules.{modules_come_back}
use Rattle.pyunparse_text.proofs.Callers.Said.{IsSaid, expressions_said, patterns_said, modules_said}
use Rattle.pytree_fits.specs.Tests.{tests_in}
use Rattle.pytree_fits.specs.Slots.{fits_at}
use Rattle.pytree_fits.specs.PatternSlots.{pattern_fits_at}
use Rattle.pytree_fits.specs.Statements.{module_fits}
use Rattle.pytree_fits.specs.Given.{AreGiven, no_line, a_line, AreSound, Expressed, Patterned, HaveForms, no_form, a_form, Stated}
use Rattle.pytree_fits.specs.Low.{IsLow, IsLowPattern, IsLowModule}
use Rattle.pytree_fits.proofs.Exactness.Exactly.{fits_exactly}
use Rattle.pytree_fits.proofs.Exactness.Patterns.{patterns_fit_exactly}
use Rattle.pytree_fits.proofs.Exactness.Modules.{module_given}
use Rattle.pytree_fits.proofs.Exactness.Passing.{passing_said, passing_may_be}

-- ---- Pieces as tokens.

abbrev IsFaultless : Extent → Token → Type 0
IsFaultless extent t = fault_of extent t.kind t.text ≡ None

-- tokens of a source that stand for some terminals
record AreTokens (extent : Extent) (ts : List Terminal) : Type 0 where
  tokens : List Token
  sound : AreSound extent tokens
  terminals : flat_map (λ (t : Token). terminals_of t.kind t.text) tokens ≡ ts

-- their places don't matter
abbrev somewhere : Place
somewhere = record { row = 0; column = 0 }

as_tokens : {extent : Extent} {ps : List Piece} {ts : List Terminal} → Give extent ps ts
    → list_all (λ (p : Piece). all_scalars p.text) ps ≡ true
    → AreTokens extent ts
as_tokens {extent} give_none h =
    record { tokens = []; sound = record { of_source = All-nil IsOfSource; faultless = All-nil (IsFaultless extent) }; terminals = refl }
as_tokens {extent} (give {p = p} {ps = ps} {ts = ts} {us = us} g r) h =
    let w = and_parts (all_scalars p.text) (list_all (λ (q : Piece). all_scalars q.text) ps) h in
    let k = as_tokens r w.1 in
    let t : Token = record { kind = p.kind; start = somewhere; text = p.text } in
    record {
      tokens = t ∷ k.tokens;
      sound = record {
        of_source = All-cons IsOfSource t k.tokens (w.0, g.sound) k.sound.of_source;
        faultless = All-cons (IsFaultless extent) t k.tokens g.faultless k.sound.faultless;
      };
      terminals = ap (λ z. z ++ flat_map (λ (t : Token). terminals_of t.kind t.text) k.tokens) g.terminals ∙ ap (λ z. ts ++ z) k.terminals;
    }

line_scalars : (l : Spacing.Line) → is_written l ≡ true → list_all (λ (p : Piece). all_scalars p.text) l.pieces ≡ true
line_scalars l h =
    let w = and_parts (are_readable l.pieces) (closes_all 0 l.pieces && list_all (λ (p : Piece). all_scalars p.text) l.pieces) h in
    (and_parts (closes_all 0 l.pieces) (list_all (λ (p : Piece). all_scalars p.text) l.pieces) w.1).1

-- what is read back has tokens
read_tokens : {extent : Extent} {ps : List Piece} {ts : List Terminal} → AreRead extent ps ts → AreTokens extent ts
read_tokens {ps = ps} r = as_tokens r.give (line_scalars (record { level = 0; pieces = ps }) (r.line 0))

-- ---- Expressions and patterns.

pub fits_expressed : (extent : Extent) (l : Level) (e : Expr) → IsLow l e → fits_at (tests_in extent) l e ≡ true → Expressed extent l e
fits_expressed extent l e low h =
    let (ts, passed, derived) = (fits_exactly (tests_in extent) l e).1 h in
    let k = read_tokens (expressions_said extent l ts e (passing_said extent [] ts tt passed) derived low) in
    record {
      tokens = k.tokens;
      sound = k.sound;
      derived =
          subst (λ z. Derives l z e) (sym k.terminals) (expressions_are_shortest l ts e derived).gives;
    }

pub fits_patterned : (extent : Extent) (l : PatternLevel) (p : Pattern) → IsLowPattern l p → pattern_fits_at (tests_in extent) l p ≡ true
    → Patterned extent l p
fits_patterned extent l p low h =
    let (ts, passed, derived) = (patterns_fit_exactly (tests_in extent) l p).1 h in
    let k = read_tokens (patterns_said extent l ts p (passing_said extent [] ts tt passed) derived low) in
    let again = (patterns_are_shortest l ts p (passing_may_be (tests_in extent) [] ts passed) derived).gives in
    record { tokens = k.tokens; sound = k.sound; derived = subst (λ z. DerivesPattern l z p) (sym k.terminals) again }

-- ---- Modules.

-- lines of terminals that can be said, with these forms
record Lined (profile : Profile) (earlier xs : List Line) : Type 0 where
  lines : List (WrittenLine Terminal)
  formed : Written.HaveForms profile earlier lines xs
  said : All (IsSaid profile.extent) lines
  may_be : All MayBeTokens lines

lined : {profile : Profile} {earlier xs : List Line} → AreGiven profile (tests_in profile.extent) earlier xs → Lined profile earlier xs
lined {profile} no_line = record {
  lines = [];
  formed = Written.no_form;
  said = All-nil (IsSaid profile.extent);
  may_be = All-nil MayBeTokens;
}
lined {profile} (a_line {x = x} w r) =
    let (ts, passed, form) = w in
    let k = lined r in
    let y : WrittenLine Terminal = written_line x.level ts in
    record {
      lines = y ∷ k.lines;
      formed = Written.a_form form k.formed;
      said = All-cons (IsSaid profile.extent) y k.lines (passing_said profile.extent [] ts tt passed) k.said;
      may_be = All-cons MayBeTokens y k.lines (passing_may_be (tests_in profile.extent) [] ts passed) k.may_be;
    }

-- lines of tokens with these forms
record Tokened (profile : Profile) (earlier xs : List Line) : Type 0 where
  lines : List Tokens.Line
  formed : HaveForms profile earlier lines xs

tokened : {profile : Profile} {earlier xs : List Line} {rs : List (WrittenLine Sited)} {ws : List (WrittenLine Terminal)}
    → GiveLines profile.extent rs ws → list_all is_written (map line_of rs) ≡ true → Written.HaveForms profile earlier ws xs
    → Tokened profile earlier xs
tokened Written.no_line h Written.no_form = record { lines = []; formed = no_form }
tokened {profile} {earlier} (Written.a_line {l = l} {ps = ps} {rs = rs} g c) h (Written.a_form {f = f} p d) =
    let w = and_parts (is_written (line_of (written_line l ps))) (list_all is_written (map line_of rs)) h in
    let t = as_tokens g (line_scalars (line_of (written_line l ps)) w.0) in
    let k = tokened c w.1 d in
    let x : Tokens.Line = record { level = l; tokens = t.tokens } in
    record {
      lines = x ∷ k.lines;
      formed = a_form {x = x} t.sound (subst (λ z. FormAt profile (stands_in_match l earlier) z f) (sym t.terminals) p) k.formed;
    }

pub fits_stated : (profile : Profile) (m : Module) → IsLowModule m
    → module_fits profile (tests_in profile.extent) m ≡ true → Stated profile m
fits_stated profile m low h =
    let (xs, given, block) = module_given profile profile.extent m h in
    let y = lined given in
    let a : AreModule profile y.lines m = record { forms = xs; formed = y.formed; block = block } in
    let r = modules_said profile y.lines m a y.said low in
    let b = modules_come_back profile y.lines m a y.may_be in
    let w = and_parts (list_all is_written (piece_lines m)) (rise_by_one 0 (piece_lines m)) r.written in
    let k = tokened r.give w.0 b.formed in
    record { lines = k.lines; forms = b.forms; formed = k.formed; block = b.block }
