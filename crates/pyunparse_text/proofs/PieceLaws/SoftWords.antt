-- Carries: the laws of pieces. On: `type`, `match`, `case` and `_`, which are no keywords, are names that
-- a tree may hold.
use Rattle.std.proofs.Common.{◌≡◌, true, None, get_or, refl}
use Rattle.std.specs.List.{list_all}
use Rattle.std.specs.Char.{is_ascii}
use Rattle.std.proofs.lemmas.Bool.{ltb-true}
use Rattle.std.proofs.lemmas.List.Recursion.{and_at}
use Rattle.unicode_ident.proofs.Computing.{unicode_ident}
use Rattle.unicode_normalization.specs.Forms.{Nfkc, nfkc}
use Rattle.unicode_normalization.proofs.FormsLemmas.{normalize-ascii}
use Rattle.pylex_lexeme.specs.Lexemes.{is_name}
use Rattle.pytree_node.specs.Trees.{Identifier}
use Rattle.pytoken.specs.Keywords.{keywords, keyword_of}
use Rattle.pytoken.specs.Laws.{IsProper}
use Rattle.pygrammar.specs.Forms.{type_name, match_name, case_name}
use Rattle.pyunparse_text.specs.WrittenPatterns.{target_name}

in_own_form : (x : Identifier) → list_all is_ascii x ≡ true → nfkc x ≡ x
in_own_form x h =
    normalize-ascii Nfkc x
    (λ i d within. ltb-true (get_or x i d) 128 (and_at (list_all is_ascii) is_ascii refl (λ c cs. refl) x i d within h))

proper : (x : Identifier) → is_name x ≡ true → keyword_of x ≡ None → list_all is_ascii x ≡ true → IsProper x
proper x n f a = record { name = n; free = f; form = in_own_form x a }

pub type_is_proper : IsProper type_name
unfolding unicode_ident is_name keywords keyword_of
type_is_proper = proper type_name refl refl refl

pub match_is_proper : IsProper match_name
unfolding unicode_ident is_name keywords keyword_of
match_is_proper = proper match_name refl refl refl

pub case_is_proper : IsProper case_name
unfolding unicode_ident is_name keywords keyword_of
case_is_proper = proper case_name refl refl refl

pub wildcard_is_proper : IsProper (target_name None)
unfolding unicode_ident is_name keywords keyword_of
wildcard_is_proper = proper (target_name None) refl refl refl
