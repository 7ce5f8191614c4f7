-- The terminals of a line close the f-strings that they open.
--
-- Carries: closes_line and its like, for callers. On: Closing, Expressions, Patterns, Parts.
use Rattle.std.proofs.Common.{refl, Bool, List}
use Rattle.pylex_lexeme.specs.declared.kinds.Exact.TheVariants as Sign
use Rattle.pytree_node.specs.declared.profiles.Profile.{Profile}
use Rattle.pytree_node.specs.Trees.{Expr, Identifier, Alias, Stmt}
use Rattle.pytoken.specs.Terminals.{Terminal}
use Rattle.pygrammar.specs.Lines.{Form, Header}
use Rattle.pygrammar.specs.Grammar.{DelTarget}
use Rattle.pygrammar.specs.Forms as F
use Rattle.pygrammar.proofs.Opened.Closing.{Closes, none, sign, word, ident, both, ended}
use Rattle.pygrammar.proofs.Opened.Expressions.{closes, closes_listing, closes_target, closes_single_target, closes_del_target}
use Rattle.pygrammar.proofs.Opened.Patterns.{closes_pattern}
use Rattle.pygrammar.proofs.Opened.Parts.{closes_given, closes_after, closes_as, closes_async, closes_name, closes_commas, closes_commas?}
use Rattle.pygrammar.proofs.Opened.Parts.{closes_type_params, closes_module, closes_module_alias, closes_dots, closes_names, closes_targets}
use Rattle.pygrammar.proofs.Opened.Parts.{closes_items, closes_bases}

-- ---- Simple statements.

pub closes_simple : {profile : Profile} {ts : List Terminal} {s : Stmt} → F.Simple profile ts s → Closes ts
closes_simple (F.value p) = closes p
closes_simple (F.assign c p) = both (closes_targets c) (closes p)
closes_simple (F.augmented_assign x c h p) = both (closes_single_target c) (sign (closes p))
closes_simple (F.annotated_name p q) = ident (sign (both (closes p) (closes_after (λ o. refl) q)))
closes_simple (F.annotated_group c p q) = sign (both (closes_single_target c) (sign (sign (both (closes p) (closes_after (λ o. refl) q)))))
closes_simple (F.annotated_part c n p q) = both (closes_single_target c) (sign (both (closes p) (closes_after (λ o. refl) q)))
closes_simple (F.type_alias h c p) = ident (ident (both (closes_type_params c) (sign (closes p))))
closes_simple (F.return_of p) = word (closes_given p)
closes_simple F.raise_alone = word none
closes_simple (F.raise_of p q) = word (both (closes p) (closes_after (λ o. refl) q))
closes_simple (F.assert_of p q) = word (both (closes p) (closes_after (λ o. refl) q))
closes_simple (F.delete c) = word (closes_commas? Expr DelTarget (λ ts e p. closes_del_target p) c)
closes_simple (F.global c) = word (closes_commas Identifier F.Name closes_name c)
closes_simple (F.nonlocal c) = word (closes_commas Identifier F.Name closes_name c)
closes_simple F.pass = word none
closes_simple F.break = word none
closes_simple F.continue = word none
closes_simple (F.import_names c) = word (closes_commas Alias F.DottedAlias closes_module_alias c)
closes_simple (F.from_module d p q) = word (both (closes_dots d) (both (closes_module p) (word (closes_names q))))
closes_simple (F.from_dots d h q) = word (both (closes_dots d) (word (closes_names q)))

pub closes_simples : {profile : Profile} {ts : List Terminal} {ss : List Stmt} → F.Simples profile ts ss → Closes ts
closes_simples (F.last_simple p) = closes_simple p
closes_simples (F.ended_simple p) = ended Sign.Semi (closes_simple p)
closes_simples (F.more_simples p c) = both (closes_simple p) (sign (closes_simples c))

-- ---- Headers.

pub closes_header : {profile : Profile} {ts : List Terminal} {h : Header} → F.HeaderOf profile ts h → Closes ts
closes_header (F.if_line p) = word (closes p)
closes_header (F.elif_line p) = word (closes p)
closes_header F.else_line = word none
closes_header (F.while_line p) = word (closes p)
closes_header (F.for_line a c p) = both (closes_async a) (word (both (closes_target c) (word (closes p))))
closes_header (F.with_line a c) = both (closes_async a) (word (closes_items c))
closes_header F.try_line = word none
closes_header F.finally_line = word none
closes_header F.except_all = word none
closes_header (F.except_line p a) = word (both (closes p) (closes_as a))
closes_header (F.except_star p a) = word (sign (both (closes p) (closes_as a)))
closes_header (F.def_line x y g c h r) =
    both (closes_async y) (word (ident (both (closes_type_params g) (sign (both (closes_listing c) (sign (closes_after (λ o. refl) r)))))))
closes_header (F.class_line g c) = word (ident (both (closes_type_params g) (closes_bases c)))

pub closes_case : {ts : List Terminal} {h : Header} → F.CaseOf ts h → Closes ts
closes_case (F.case_line form p g) = ident (both (closes_pattern p) (closes_after (λ o. refl) g))

-- ---- Lines.

pub closes_form : {profile : Profile} {ts : List Terminal} {f : Form} → F.FormOf profile ts f → Closes ts
closes_form (F.simple_statements c) = closes_simples c
closes_form (F.decorator_line p) = sign (closes p)
closes_form (F.header_line p) = ended Sign.Colon (closes_header p)
closes_form (F.header_suite p c) = both (closes_header p) (sign (closes_simples c))
closes_form (F.match_line form h p) = ident (ended Sign.Colon (closes p))

pub closes_line : {profile : Profile} {inside : Bool} {ts : List Terminal} {f : Form} → F.FormAt profile inside ts f → Closes ts
closes_line (F.other_line n p) = closes_form p
closes_line (F.case_alone h c) = ended Sign.Colon (closes_case c)
closes_line (F.case_suite h c p) = both (closes_case c) (sign (closes_simples p))
