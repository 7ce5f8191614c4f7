-- Carries: unparse. A module that fits is the one that its own text is.
use Rattle.std.proofs.Common.{◌≡◌, ℕ, ◌≤◌, List, [], ◌∷◌, None, sym, subst}
use Rattle.std.specs.Prelude.{All}
use Rattle.std.specs.Str.{encode_utf8_all}
use Rattle.std.proofs.lemmas.List.Elements.{All-nil, All-cons, All-head, All-tail}
use Rattle.pytree_node.specs.declared.profiles.Extent.{Extent}
use Rattle.pytree_node.specs.declared.profiles.Profile.{Profile}
use Rattle.pytree_node.specs.Trees.{Module}
use Rattle.pytoken.specs.Tokens as Tokens
use Rattle.pytoken.specs.SourceTokens.{IsOfSource}
use Rattle.pytoken.specs.Terminals.{fault_of}
use Rattle.pytree_height.specs.Heights.{expression_height, statement_height}
use Rattle.pygrammar.specs.Lines.{Line}
use Rattle.pytree_fits.specs.Given as given
use Rattle.pytree_fits.specs.Given.{Stated}
use Rattle.pyunparse_text.specs.Laws.{HaveForms, no_form, a_form, source_lines, IsOfSourceIn, TextIsAccepted}
use Rattle.pyunparse_text.specs.Modules.{module_text}
use Rattle.pyunparse_text.proofs.Callers.Texts.{module_texts_are_accepted, tokens_are_of_tokens}
use Rattle.pyunparse.specs.RoundTrips.{GivesBack, RoundTrips}

forms_are : {profile : Profile} {earlier : List Line} {xs : List Tokens.Line} {fs : List Line} → given.HaveForms profile earlier xs fs
    → HaveForms profile earlier (source_lines xs) fs
forms_are given.no_form = no_form
forms_are (given.a_form h p c) = a_form p (forms_are c)

abbrev Faultless : Extent → Tokens.Token → Type 0
Faultless extent t = fault_of extent t.kind t.text ≡ None

both : (extent : Extent) (ts : List Tokens.Token) → All IsOfSource ts → All (Faultless extent) ts → All (IsOfSourceIn extent) ts
both extent [] a b = All-nil (IsOfSourceIn extent)
both extent (t ∷ ts) a b =
    All-cons (IsOfSourceIn extent) t ts (All-head IsOfSource t ts a, All-head (Faultless extent) t ts b)
    (both extent ts (All-tail IsOfSource t ts a) (All-tail (Faultless extent) t ts b))

abbrev Good : Extent → Tokens.Line → Type 0
Good extent x = All (IsOfSourceIn extent) x.tokens

good : {profile : Profile} {earlier : List Line} {xs : List Tokens.Line} {fs : List Line} → given.HaveForms profile earlier xs fs
    → All (Good profile.extent) xs
good {profile} given.no_form = All-nil (Good profile.extent)
good {profile} (given.a_form {x = x} {xs = xs} h p c) =
    All-cons (Good profile.extent) x xs (both profile.extent x.tokens h.of_source h.faultless) (good c)

stated_texts : (profile : Profile) (m : Module) → Stated profile m → expression_height m ≤ 500 → statement_height m ≤ 500
    → TextIsAccepted profile m
stated_texts profile m s a b =
    module_texts_are_accepted profile (source_lines s.lines) m (record { forms = s.forms; formed = forms_are s.formed; block = s.block })
    (tokens_are_of_tokens profile.extent s.lines (good s.formed)) a b

-- bytes that are its text give it back
pub gives_back : (bytes : List ℕ) (m : Module) → bytes ≡ encode_utf8_all (module_text m) → RoundTrips bytes m
gives_back bytes m e profile s a b =
    let t : TextIsAccepted profile m = stated_texts profile m s a b in
    subst (λ z. GivesBack profile z m) (sym e) (record { back = t.back; accepted = t.accepted; only = t.only })
