-- A source is accepted in the plain language where it is in the whole one with a plain module.
--
-- Carries: extents_by_trees, for SourceLaw. On: Forms, Blocks, Tokens, Line/Stays, Starts.
use Rattle.std.proofs.Common.{◌≡◌, refl, sym, ◌∙◌, subst, ℕ, Bool, true, false, cond, List, [], ◌∷◌, Some, None}
use Rattle.std.specs.Prelude.{nat_lt}
use Rattle.std.proofs.lemmas.Bool.{and_parts}
use Rattle.std.specs.List.{list_all}
use Rattle.pylex_listing.specs.Listing.{Source}
use Rattle.pytree_node.specs.declared.profiles.Extent.TheVariants.{Plain, Whole}
use Rattle.pytree_node.specs.declared.profiles.Profile.{Profile}
use Rattle.pytree_node.specs.declared.profiles.Version.{Version}
use Rattle.pytree_node.specs.Profiles.{python}
use Rattle.pytree_node.specs.Trees.{Module}
use Rattle.pytoken.specs.Terminals.{Terminal}
use Rattle.pytoken.specs.Tokens.{tokens, lines}
use Rattle.pytoken.specs.Tokens as Tokens
use Rattle.pytoken.specs.Refusals.{refusal}
use Rattle.pytoken.proofs.Callers.Said.{extents_differ_in_numbers}
use Rattle.pygrammar.specs.Lines.{Line, Form, header_form, Header, match_header}
use Rattle.pygrammar.specs.Forms as F
use Rattle.pygrammar.specs.Blocks.{Block, header_kind, kind_of, is_match, stands_in_match}
use Rattle.pygrammar.specs.Extents.{is_module_plain}
use Rattle.pygrammar.specs.Refusals.{terminals, Formed, formed_end, formed_line}
use Rattle.pygrammar.specs.SourceLaws.{ExtentsDifferInTrees}
use Rattle.pygrammar.proofs.Line.Stays.{form_widens, form_narrows}
use Rattle.pygrammar.proofs.Block.Starts.{no_listing_fault}
use Rattle.pygrammar.proofs.Plain.Terminals.{and_both}
use Rattle.pygrammar.proofs.Plain.Forms.{is_header_plain, is_form_plain, plain_line}
use Rattle.pygrammar.proofs.Plain.Blocks.{is_line_plain, plain_block}
use Rattle.pygrammar.proofs.Plain.Numbers.{is_token_plain}
use Rattle.pygrammar.proofs.Plain.Tokens.{are_terminals_plain, lines_said, faultless_said, plain_refusal}

-- ---- Lines among which no header of a `match` stands.

abbrev HaveNoMatch : List Line → Type 0
HaveNoMatch [] = Unit {0}
HaveNoMatch (x ∷ xs) = (is_match (kind_of x.form) ≡ false) × HaveNoMatch xs

stands_in_none : (l : ℕ) (earlier : List Line) → HaveNoMatch earlier → stands_in_match l earlier ≡ false
stands_in_none l [] n = refl
stands_in_none l (x ∷ earlier) n = either (nat_lt x.level l) (is_match (kind_of x.form)) (stands_in_match l earlier) n.0
    (stands_in_none l earlier n.1)
  where
    either : (b m o : Bool) → m ≡ false → o ≡ false → cond b m o ≡ false
    either true m o e f = e
    either false m o e f = f

header_no_match : (h : Header) → is_header_plain h ≡ true → is_match (header_kind h) ≡ false
header_no_match (match_header subject) e = absurd cc
header_no_match _ e = refl

plain_no_match : (f : Form) → is_form_plain f ≡ true → is_match (kind_of f) ≡ false
plain_no_match (header_form h None) e = header_no_match h e
plain_no_match (header_form h (Some ss)) e = header_no_match h (and_parts (is_header_plain h) _ e).0
plain_no_match _ e = refl

headed_no_match : {profile : Profile} {ts : List Terminal} {h : Header} → F.HeaderOf profile ts h → is_match (header_kind h) ≡ false
headed_no_match (F.if_line p) = refl
headed_no_match _ = refl

form_no_match : {version : Version} {ts : List Terminal} {f : Form} → F.FormOf (python version Plain) ts f → is_match (kind_of f) ≡ false
form_no_match (F.simple_statements c) = refl
form_no_match (F.decorator_line p) = refl
form_no_match (F.header_line p) = headed_no_match p
form_no_match (F.header_suite p c) = headed_no_match p
form_no_match (F.match_line form h p) = absurd cc

line_no_match : {version : Version} {inside : Bool} {ts : List Terminal} {f : Form} → F.FormAt (python version Plain) inside ts f
    → is_match (kind_of f) ≡ false
line_no_match (F.other_line n p) = form_no_match p
line_no_match (F.case_alone h c) = absurd cc
line_no_match (F.case_suite h c p) = absurd cc

-- the lines of the plain language are lines of the whole one
formed_widens : {version : Version} {earlier : List Line} {xs : List Tokens.Line} {ys : List Line} → HaveNoMatch earlier
    → Formed (python version Plain) earlier xs ys → Formed (python version Whole) earlier xs ys
formed_widens n formed_end = formed_end
formed_widens {version} {earlier} n (formed_line {x = x} {f = f} h p) =
    let at : Bool → Type 0 = λ inside. F.FormAt (python version Whole) inside (terminals x) f in
    formed_line (record { is = subst at (sym (stands_in_none x.level earlier n)) (form_widens h.is); low = h.low })
    (formed_widens (line_no_match h.is, n) p)

-- and those of the whole one are, where they are plain
formed_narrows : {version : Version} {earlier : List Line} {xs : List Tokens.Line} {ys : List Line} → HaveNoMatch earlier
    → list_all is_line_plain ys ≡ true
    → Formed (python version Whole) earlier xs ys → Formed (python version Plain) earlier xs ys
formed_narrows n e formed_end = formed_end
formed_narrows {version} {earlier} n e (formed_line {x = x} {f = f} {ys = ys} h p) =
    let parts = and_parts (is_form_plain f) (list_all is_line_plain ys) e in
    let none = plain_no_match f parts.0 in
    let at : Bool → Type 0 = λ inside. F.FormAt (python version Whole) inside (terminals x) f in
    formed_line (record {
      is = form_narrows (stands_in_match x.level earlier) (subst at (stands_in_none x.level earlier n) h.is) none;
      low =
          h.low;
    }) (formed_narrows (none, n) parts.1 p)

-- ---- The law.

-- the forms of lines are plain where their terminals are
formed_said : {version : Version} {earlier : List Line} {xs : List Tokens.Line} {ys : List Line}
    → Formed (python version Plain) earlier xs ys → list_all are_terminals_plain xs ≡ list_all is_line_plain ys
formed_said formed_end = refl
formed_said (formed_line h p) = and_both (plain_line h.is).is (formed_said p)

-- the tokens of a source that has forms in the plain language are plain where its module is
module_said : {version : Version} {forms : List Line} (s : Source) (m : Module) → refusal Whole s ≡ None
    → Formed (python version Plain) [] (lines s) forms → Block 0 forms m.body
    → list_all is_token_plain (tokens s) ≡ is_module_plain m
module_said s m clear formed block = sym (lines_said s (no_listing_fault Whole s clear)) ∙ formed_said formed ∙ (plain_block block).is

pub extents_by_trees : ExtentsDifferInTrees
extents_by_trees version s m = (
  λ p.
      let numbers = (extents_differ_in_numbers s).0 p.clear in (
        record { clear = numbers.0; forms = p.forms; formed = formed_widens tt p.formed; block = p.block; low = p.low },
        sym (module_said s m numbers.0 p.formed p.block) ∙ faultless_said (tokens s) numbers.1,
      ),
  λ q.
      let p = q.0 in
      let formed = formed_narrows tt ((plain_block p.block).is ∙ q.1) p.formed in
      let clear = plain_refusal s (module_said s m p.clear formed p.block ∙ q.1) p.clear in
      record { clear = clear; forms = p.forms; formed = formed; block = p.block; low = p.low },
)
