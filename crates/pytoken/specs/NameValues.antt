-- What may be wrong with a NAME by itself (reference 2.3): it stands for its form NFKC, which has to be a name too.
--     identifier ::= xid_start xid_continue*
--     xid_start    ::= <all characters in id_start whose NFKC normalization is in "id_start xid_continue*">
--     xid_continue ::= <all characters in id_continue whose NFKC normalization is in "id_continue*">
use Rattle.std.specs.Prelude.{ℕ, Bool, not, ◌||◌, List, Option, Some, None, is_some, if◌then◌else◌}
use Rattle.unicode_normalization.specs.Forms.{Nfkc, nfkc, is_in_form}
use Rattle.pylex_lexeme.specs.Lexemes.{is_name}
use Rattle.pytoken.specs.declared.faults.TokenError.{TokenError}
use Rattle.pytoken.specs.declared.faults.TokenError.TheVariants.{NameForm}
use Rattle.pytoken.specs.Keywords.{keyword_of}

-- A form that can't stand for a name that is written otherwise: a keyword, no name, or not in its own form. (Of the last there is none, by
-- Unicode.)
abbrev pub is_unfit : List ℕ → Bool
is_unfit form = is_some (keyword_of form) || not (is_name form) || not (is_in_form Nfkc form)

-- the fault of a name whose form is another text
unfoldable pub form_fault : List ℕ → Option TokenError
form_fault form = if is_unfit form then Some NameForm else None

-- the fault of a name
unfoldable pub name_fault : List ℕ → Option TokenError
name_fault t = if is_in_form Nfkc t then None else form_fault (nfkc t)
