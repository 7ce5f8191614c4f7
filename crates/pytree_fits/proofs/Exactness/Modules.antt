-- Carries: the laws of modules. On: a module fits exactly where some lines give it.
use Rattle.std.proofs.Common.{◌≡◌, refl, sym, ap, subst, ◌∙◌, ℕ, List, [], ◌∷◌, Bool, true, false}
use Rattle.std.specs.Prelude.{◌==◌, not}
use Rattle.std.specs.List.{list_all}
use Rattle.std.proofs.lemmas.Bool.{and_parts, and_from, both_ways, eqb-true}
use Rattle.unicode_ident.proofs.Computing.{unicode_ident}
use Rattle.unicode_ident.specs.Ident.{is_xid_continue}
use Rattle.pylex_lexeme.specs.Chars.{starts_name}
use Rattle.pylex_lexeme.specs.Lexemes as Lexemes
use Rattle.pytree_node.specs.declared.profiles.Extent.{Extent}
use Rattle.pytree_node.specs.declared.profiles.Profile.{Profile}
use Rattle.pytree_node.specs.Trees.{Identifier, Module, stmts}
use Rattle.pygrammar.specs.Lines.{Line}
use Rattle.pygrammar.specs.Blocks.{Block}
use Rattle.pytree_fits.specs.Names.{is_name}
use Rattle.pytree_fits.specs.Tests.{tests_in}
use Rattle.pytree_fits.specs.Statements.{module_fits}
use Rattle.pytree_fits.specs.Given.{GivenModule}
use Rattle.pytree_fits.proofs.Fields.AsSpelled.{AreGivenAsSpelled, lines_given}
use Rattle.pytree_fits.proofs.Fields.Dots.{is_other}
use Rattle.pytree_fits.proofs.Fitting.BlockFits.{block_fits, given_fit}
use Rattle.pytree_fits.proofs.Giving.BlockGives.{Words, of_stmts_back, drawn_all}
use Rattle.pytree_fits.proofs.Exactness.ProperNames.{proper}
use Rattle.pytree_fits.proofs.Exactness.Words.{type_is_name, match_is_name, case_is_name}

-- ---- A name holds no dot.

dot_goes_on : is_xid_continue 46 ≡ false
unfolding unicode_ident
dot_goes_on = refl

dot_starts : starts_name 46 ≡ false
unfolding unicode_ident
dot_starts = refl

no_dot : (p : ℕ → Bool) (c : ℕ) → p 46 ≡ false → p c ≡ true → is_other c ≡ true
no_dot p c none h = by (c == 46) (eqb-true c 46)
  where
    by : (b : Bool) → (b ≡ true → c ≡ 46) → not b ≡ true
    by true e = absurd (both_ways (p 46) none (ap p (sym (e refl)) ∙ h))
    by false e = refl

no_dots : (cs : List ℕ) → list_all is_xid_continue cs ≡ true → list_all is_other cs ≡ true
no_dots [] h = refl
no_dots (c ∷ cs) h =
    let w = and_parts (is_xid_continue c) (list_all is_xid_continue cs) h in
    and_from (is_other c) (list_all is_other cs) (no_dot is_xid_continue c dot_goes_on w.0) (no_dots cs w.1)

lexeme_undotted : (x : Identifier) → Lexemes.is_name x ≡ true → list_all is_other x ≡ true
unfolding Lexemes.is_name
lexeme_undotted [] h = refl
lexeme_undotted (c ∷ cs) h =
    let w = and_parts (starts_name c) (list_all is_xid_continue cs) h in
    and_from (is_other c) (list_all is_other cs) (no_dot starts_name c dot_starts w.0) (no_dots cs w.1)

pub undotted : (x : Identifier) → is_name x ≡ true → list_all is_other x ≡ true
undotted x h = lexeme_undotted x (proper x h).name

-- ---- Modules by terminals.

words : (extent : Extent) → Words (tests_in extent)
words extent = record { typed = type_is_name; matched = match_is_name; cased = case_is_name }

pub module_exactly : (profile : Profile) (extent : Extent) (m : Module) → GivenModule profile (tests_in extent) m
    → module_fits profile (tests_in extent) m ≡ true
module_exactly profile extent m w = block_fits profile (tests_in extent) w.2 (given_fit profile (tests_in extent) undotted w.1)

module_as_spelled : (profile : Profile) (extent : Extent) (m : Module) → module_fits profile (tests_in extent) m ≡ true
    → (xs : List Line) × AreGivenAsSpelled profile (tests_in extent) [] xs × Block 0 xs m.body
module_as_spelled profile extent m h =
    let d = drawn_all profile (tests_in extent) (words extent) 0 (stmts m.body) h in
    (d.lines, d.given.given [] refl, subst (Block 0 d.lines) (of_stmts_back m.body) d.is)

pub module_given : (profile : Profile) (extent : Extent) (m : Module) → module_fits profile (tests_in extent) m ≡ true
    → GivenModule profile (tests_in extent) m
module_given profile extent m h = let w = module_as_spelled profile extent m h in (w.0, lines_given (tests_in extent) w.1, w.2)
