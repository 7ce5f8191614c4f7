-- No source has two trees, none is both accepted and refused, and what is accepted
-- stays so in Python 3.12, in the same extent.
--
-- Carries: answer_stays, one_formed, unread_formed and 4 more, for Reasons, SourceLaw,
-- Types. On: Law, Line/Law, Stays, Leads.
use Rattle.std.proofs.Common.{◌≡◌, ℕ, Bool, List, ◌∷◌, refl, sym, ap, ◌∙◌, subst, arith}
use Rattle.pylex_listing.specs.Listing.{Source}
use Rattle.pytree_node.specs.declared.profiles.Profile.{Profile}
use Rattle.pytree_node.specs.declared.profiles.Version.TheVariants.{Py312}
use Rattle.pytree_node.specs.Profiles.{python}
use Rattle.pytree_node.specs.Trees.{Stmt, Module}
use Rattle.pytree_height.specs.Heights.{statement_height}
use Rattle.pytoken.specs.Tokens as Tokens
use Rattle.pygrammar.specs.Lines.{Line, line, Form}
use Rattle.pygrammar.specs.FormHeights.{form_height}
use Rattle.pygrammar.specs.Blocks.{Block}
use Rattle.pygrammar.specs.Refusals.{Code, Reason, HasForm, Formed, formed_end, formed_line, Unread, too_high, no_match, no_form, too_long}
use Rattle.pygrammar.specs.Refusals.{FirstUnread, unread, unread_after, Accepted, Refused, by_tokens, by_line, by_block, by_height}
use Rattle.pygrammar.proofs.Line.Law.{one_form}
use Rattle.pygrammar.proofs.Line.Stays.{form_stays}
use Rattle.pygrammar.proofs.Block.Leads.{one_tree}
use Rattle.pygrammar.proofs.Block.Law.{tree_faultless, no_first}

-- the lines after one of the same form
formed_as : {profile : Profile} {earlier : List Line} {l : ℕ} {f g : Form} {xs : List Tokens.Line} {ys : List Line} → f ≡ g
    → Formed profile (line l f ∷ earlier) xs ys → Formed profile (line l g ∷ earlier) xs ys
formed_as {profile} {earlier} {l} {xs = xs} {ys = ys} e p = let P : Form → Type 0 =
    λ z. Formed profile (line l z ∷ earlier) xs ys in subst P e p

pub unread_as : {profile : Profile} {earlier : List Line} {l : ℕ} {f g : Form} {xs : List Tokens.Line} {n : ℕ} {c : Code} → f ≡ g →
    FirstUnread profile (line l f ∷ earlier) xs n c → FirstUnread profile (line l g ∷ earlier) xs n c
unread_as {profile} {earlier} {l} {xs = xs} {n = n} {c = c} e p = let P : Form → Type 0 =
    λ z. FirstUnread profile (line l z ∷ earlier) xs n c in subst P e p

pub one_formed : {profile : Profile} {earlier : List Line} {xs : List Tokens.Line} {ys zs : List Line} → Formed profile earlier xs ys
    → Formed profile earlier xs zs → ys ≡ zs
one_formed formed_end formed_end = refl
one_formed (formed_line {x = x} {f = f} {ys = ys} p q) (formed_line {f = g} {ys = zs} r s) =
    let a : f ≡ g = one_form p.is r.is in
    let b : ys ≡ zs = one_formed q (formed_as (sym a) s) in
    ap (λ z. line x.level z ∷ ys) a ∙ ap (λ z. line x.level g ∷ z) b

abbrev module_of : List Stmt → Module
module_of ss = record { body = ss }

pub one_answer : {profile : Profile} {s : Source} {a b : Module} → Accepted profile s a → Accepted profile s b → a ≡ b
one_answer {a = a} {b = b} p q =
    let P : List Line → Type 0 = λ z. Block 0 z a.body in
    let e : a.body ≡ b.body = one_tree (subst P (one_formed p.formed q.formed) p.block) q.block in
    ap module_of e

pub unread_formed : {profile : Profile} {inside : Bool} {x : Tokens.Line} {f : Form} {c : Code} → HasForm profile inside x f
    → Unread profile inside x c → ⊥
unread_formed {f = f} h (too_high {f = g} p n) =
    let a : form_height f ≡ form_height g = ap form_height (one_form h.is p) in let b = h.low in omega arith
unread_formed {f = f} h (no_match p e) = p f h.is
unread_formed {f = f} h (no_form p e) = p f h.is
unread_formed {f = f} h (too_long p n) = p f h.is

pub unread_none : {profile : Profile} {earlier : List Line} {xs : List Tokens.Line} {ys : List Line} {n : ℕ} {c : Code}
    → Formed profile earlier xs ys → FirstUnread profile earlier xs n c → ⊥
unread_none formed_end h = elim h [ ]
unread_none (formed_line p q) (unread h) = unread_formed p h
unread_none (formed_line p q) (unread_after r h) = unread_none q (unread_as (one_form r.is p.is) h)

pub never_both : {profile : Profile} {s : Source} {m : Module} {r : Reason} → Accepted profile s m → Refused profile s r → ⊥
never_both p (by_tokens e) = let a = p.clear in cc
never_both p (by_line c h w) = unread_none p.formed h
never_both {m = m} p (by_block {forms = xs} {rest = rest} {f = f} c q h l w) =
    let P : List Line → Type 0 = λ z. Block 0 z m.body in
    no_first (tree_faultless xs m.body (subst P (one_formed p.formed q) p.block)) h
never_both {m = m} p (by_height {m = o} c q b n d w) =
    let P : List Line → Type 0 = λ z. Block 0 z m.body in
    let e : m.body ≡ o.body = one_tree (subst P (one_formed p.formed q) p.block) b in
    let a : statement_height m ≡ statement_height o = ap statement_height (ap module_of e) in
    let l = p.low in omega arith

formed_stays : {profile : Profile} {earlier : List Line} {xs : List Tokens.Line} {ys : List Line} → Formed profile earlier xs ys
    → Formed (python Py312 profile.extent) earlier xs ys
formed_stays formed_end = formed_end
formed_stays (formed_line p q) = formed_line (record { is = form_stays p.is; low = p.low }) (formed_stays q)

pub answer_stays : {profile : Profile} {s : Source} {m : Module} → Accepted profile s m → Accepted (python Py312 profile.extent) s m
answer_stays p = record { clear = p.clear; forms = p.forms; formed = formed_stays p.formed; block = p.block; low = p.low }
