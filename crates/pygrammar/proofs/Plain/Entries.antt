-- What a list's entries give is plain where each entry is: members of displays, pairs of a Dict,
-- and arguments.
--
-- Carries: is_entry_plain, are_entries_plain, singles_plain, pairs_plain, arguments_plain,
-- called_plain, for Parameters, Expressions, Forms. On: Terminals, Targets.
use Rattle.std.proofs.Common.{◌≡◌, refl, sym, ap, ◌∙◌, Bool, true, false, cond, ◌&&◌, List, [], ◌∷◌, Some, None}
use Rattle.std.proofs.Math.Bool.{and_assoc}
use Rattle.std.proofs.lemmas.Option.{same_Some}
use Rattle.pygrammar.specs.declared.levels.Level.{Level}
use Rattle.pytree_node.specs.Trees
use Rattle.pytree_node.specs.Trees.{Expr}
use Rattle.pytoken.specs.Terminals.{Terminal}
use Rattle.pygrammar.specs.Entries.{Of, Pair, Argument, Entry, Single, Paired, Spread, Doubled, Keyed, Plain, Slashed, Bare, Gathered}
use Rattle.pygrammar.specs.Entries.{Collected, singles, keys, values}
use Rattle.pygrammar.specs.Arguments.{in_order, positional, keywords, called}
use Rattle.pygrammar.specs.Extents.{is_plain, are_plain, is_optional_plain, are_optionals_plain, are_keywords_plain, is_arg_plain}
use Rattle.pygrammar.specs.Grammar as G
use Rattle.pygrammar.proofs.Plain.Terminals.{and_swap, and_across}

abbrev pub is_entry_plain : Entry → Bool
is_entry_plain (Single e) = is_plain e
is_entry_plain (Paired k v) = is_plain k && is_plain v
is_entry_plain (Spread e) = is_plain e
is_entry_plain (Doubled e) = is_plain e
is_entry_plain (Keyed x e) = is_plain e
is_entry_plain (Plain a d) = is_arg_plain a && is_optional_plain d
is_entry_plain Slashed = true
is_entry_plain Bare = true
is_entry_plain (Gathered a) = is_arg_plain a
is_entry_plain (Collected a) = is_arg_plain a

abbrev pub are_entries_plain : List Entry → Bool
are_entries_plain [] = true
are_entries_plain (e ∷ es) = is_entry_plain e && are_entries_plain es

-- ---- Displays.

pub singles_plain : {l : Level} {ts : List Terminal} {es : List Entry} → G.Listing (Of l) ts es
    → are_entries_plain es ≡ are_plain (singles es)
singles_plain G.no_item = refl
singles_plain (G.last_item (G.single p)) = refl
singles_plain (G.item (G.single {e = e} p) c) = ap (λ z. is_plain e && z) (singles_plain c)

pair_plain : {ts : List Terminal} {e : Entry} (es : List Entry) → G.Piece Pair ts e → are_entries_plain es ≡ are_optionals_plain (keys es)
    && are_plain (values es)
    → are_entries_plain (e ∷ es) ≡ are_optionals_plain (keys (e ∷ es)) && are_plain (values (e ∷ es))
pair_plain es (G.pair {k = k} {e = e} p q) h = ap (λ z. (is_plain k && is_plain e) && z) h
    ∙ and_across (is_plain k) (is_plain e) (are_optionals_plain (keys es)) (are_plain (values es))
pair_plain es (G.pairs_of {e = e} p) h = ap (λ z. is_plain e && z) h
    ∙ and_swap (is_plain e) (are_optionals_plain (keys es)) (are_plain (values es))

pub pairs_plain : {ts : List Terminal} {es : List Entry} → G.Listing Pair ts es → are_entries_plain es ≡ are_optionals_plain (keys es)
    && are_plain (values es)
pairs_plain G.no_item = refl
pairs_plain (G.last_item p) = pair_plain [] p refl
pairs_plain (G.item {es = es} p c) = pair_plain es p (pairs_plain c)

-- ---- Arguments.

argument_plain : {ts : List Terminal} {e : Entry} (es : List Entry) → G.Piece Argument ts e
    → are_entries_plain es ≡ are_plain (positional es) && are_keywords_plain (keywords es)
    → are_entries_plain (e ∷ es) ≡ are_plain (positional (e ∷ es)) && are_keywords_plain (keywords (e ∷ es))
argument_plain es (G.argument {e = e} p) h = ap (λ z. is_plain e && z) h
    ∙ sym (and_assoc (is_plain e) (are_plain (positional es)) (are_keywords_plain (keywords es)))
argument_plain es (G.star_argument {e = e} p) h = ap (λ z. is_plain e && z) h
    ∙ sym (and_assoc (is_plain e) (are_plain (positional es)) (are_keywords_plain (keywords es)))
argument_plain es (G.keyword_argument {e = e} p) h = ap (λ z. is_plain e && z) h ∙ and_swap (is_plain e) (are_plain (positional es))
    (are_keywords_plain (keywords es))
argument_plain es (G.double_argument {e = e} p) h = ap (λ z. is_plain e && z) h ∙ and_swap (is_plain e) (are_plain (positional es))
    (are_keywords_plain (keywords es))

pub arguments_plain : {ts : List Terminal} {es : List Entry} → G.Listing Argument ts es → are_entries_plain es ≡ are_plain (positional es)
    && are_keywords_plain (keywords es)
arguments_plain G.no_item = refl
arguments_plain (G.last_item p) = argument_plain [] p refl
arguments_plain (G.item {es = es} p c) = argument_plain es p (arguments_plain c)

called_is : (b : Bool) (x e : Expr) → cond b (Some x) None ≡ Some e → x ≡ e
called_is true x e h = same_Some x e h
called_is false x e h = absurd cc

pub called_plain : {ts : List Terminal} {es : List Entry} (f e : Expr) → G.Listing Argument ts es → called f es ≡ Some e
    → is_plain f && are_entries_plain es ≡ is_plain e
called_plain {es = es} f e c h =
    ap (λ z. is_plain f && z) (arguments_plain c)
    ∙ ap is_plain (called_is (in_order false false es) (Trees.Call f (positional es) (keywords es)) e h)
