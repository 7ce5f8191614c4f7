-- Carries: the law of modules. On: a name of a tree is proper.
use Rattle.std.proofs.Common.{◌≡◌, refl, Option, Some, None, true, is_some}
use Rattle.std.specs.Prelude.{not}
use Rattle.std.proofs.lemmas.Slice.Eq.{bytes_eq-Decides}
use Rattle.unicode_normalization.specs.Forms.{nfkc}
use Rattle.pytree_node.specs.Trees.{Identifier}
use Rattle.pytoken.specs.declared.keywords.Keyword.{Keyword}
use Rattle.pytoken.specs.Keywords.{keyword_of}
use Rattle.pytoken.specs.Laws.{IsProper}
use Rattle.pytree_fits.specs.Names.{is_keyword, is_identifier, is_name}
use Rattle.pytree_fits.proofs.Fields.Tests.{parts3, from3, never}

no_keyword : (o : Option Keyword) → not (is_some o) ≡ true → o ≡ None
no_keyword None h = refl
no_keyword (Some w) h = absurd (never h)

pub proper : (x : Identifier) → is_name x ≡ true → IsProper x
unfolding is_name
proper x h =
    let w = parts3 (is_identifier x) (not (is_keyword x)) _ h in
    record { name = w.0; free = no_keyword (keyword_of x) w.1; form = (bytes_eq-Decides (nfkc x) x).0 w.2 }

pub proper_name : (x : Identifier) → IsProper x → is_name x ≡ true
unfolding is_name
proper_name x p = from3 (is_identifier x) (not (is_keyword x)) _ p.name (rw p.free refl) ((bytes_eq-Decides (nfkc x) x).1 p.form)
