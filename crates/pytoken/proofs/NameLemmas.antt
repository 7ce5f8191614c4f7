-- Carries: is_identifier. On: a name by its first character.
use Rattle.std.proofs.Common.{◌≡◌, ℕ, false, List, [], ◌∷◌, sym, ap}
use Rattle.std.specs.Prelude.{◌&&◌}
use Rattle.std.specs.List.{list_all}
use Rattle.std.specs.Str.{chars}
use Rattle.unicode_ident.specs.Ident.{is_xid_continue}
use Rattle.pylex_lexeme.specs.Chars.{starts_name}
use Rattle.pylex_lexeme.specs.Lexemes.{is_name}

pub spelled : (bs rest : List ℕ) (c : ℕ) → chars bs ≡ c ∷ chars rest
    → (starts_name c && list_all is_xid_continue (chars rest)) ≡ is_name (chars bs)
unfolding is_name
spelled bs rest c e = sym (ap is_name e)

pub empty : (bs : List ℕ) → chars bs ≡ [] → false ≡ is_name (chars bs)
unfolding is_name
empty bs e = sym (ap is_name e)
