-- As many nodes of `arguments` have a place as of the parameters that it was read from.
--
-- Carries: Count.
use Rattle.std.proofs.Common.{◌≡◌, refl, sym, ap, ◌∙◌, ℕ, ◌+◌, arith, List, [], ◌∷◌, Option, Some, Bool, true, false, cond, codes}
use Rattle.std.proofs.Common.{option_map}
use Rattle.std.proofs.lemmas.Option.{same_Some}
use Rattle.pytree_node.specs.Trees.{Exprs, OptionalExpr, absent, present, Arg, Arguments, arguments}
use Rattle.pytree_dump_text.specs.Shows.{Fields, Row, a_field, no_field, arg_field, shown_arg, shown_args, shown_arguments, shown_exprs}
use Rattle.pytree_dump_text.specs.Shows.{shown_optionals}
use Rattle.pytree_marked.specs.MarkedNodes.{marked, marked_rows}
use Rattle.pytree_marked.specs.MarkedOptions.{marked_optional, marked_optional_arg}
use Rattle.pytree_marked.proofs.Callers.Sums.{arg_sum, optional_marked}
use Rattle.pygrammar.specs.Entries.{Entry, Plain, Slashed, Bare, Gathered, Collected}
use Rattle.pygrammar.specs.Parameters.{arranged, at_star, after_star, plain_ones, before_slash, has_slash, with_kwarg, with_default}
use Rattle.pygrammar.specs.Parameters.{add_keyword_only, set_vararg, add_plain, add_before_slash, no_arguments}
use Rattle.pyplaces.proofs.Laws.Contexts.{counts, mapped}

abbrev total : Arguments → ℕ
total (arguments ps qs v ks kds k ds) =
    marked_rows (shown_args ps) + (marked_rows (shown_args qs) + (marked_optional_arg v + (marked_rows (shown_args ks) +
    (marked_rows (shown_optionals kds) + (marked_optional_arg k + marked_rows (shown_exprs ds))))))

total_is : (a : Arguments) → marked (shown_arguments a) ≡ total a
total_is (arguments ps qs v ks kds k ds) =
    let last : Fields = a_field (codes "defaults") (Row (shown_exprs ds)) no_field in
    let following : Fields = a_field (codes "kwonlyargs") (Row (shown_args ks)) (a_field (codes "kw_defaults") (Row (shown_optionals kds))
    (arg_field (codes "kwarg") k last)) in
    let v1 = arg_sum (codes "vararg") v following in
    let k1 = arg_sum (codes "kwarg") k last in omega (arith, v1, k1)

abbrev pub entry_total : Entry → ℕ
entry_total (Plain a d) = marked (shown_arg a) + marked_optional d
entry_total (Gathered a) = marked (shown_arg a)
entry_total (Collected a) = marked (shown_arg a)
entry_total _ = 0

abbrev pub entries_total : List Entry → ℕ
entries_total [] = 0
entries_total (e ∷ es) = entry_total e + entries_total es

-- ---- One parameter more.

abbrev vararg_total : Arguments → ℕ
vararg_total (arguments ps qs v ks kds k ds) = marked_optional_arg v

keyword_only : (p : Arg) (d : OptionalExpr) (a : Arguments)
    → total (add_keyword_only p d a) ≡ (marked (shown_arg p) + marked_optional d) + total a
keyword_only p d (arguments ps qs v ks kds k ds) = omega (arith, optional_marked d)

default_count : (d : OptionalExpr) (ds : Exprs) → counts (with_default d ds) ≡ marked_optional d + counts ds
default_count absent ds = omega arith
default_count (present d) ds = omega arith

plain : (p : Arg) (d : OptionalExpr) (a : Arguments) → total (add_plain p d a) ≡ (marked (shown_arg p) + marked_optional d) + total a
plain p d (arguments ps qs v ks kds k ds) = omega (arith, default_count d ds)

slashed : (p : Arg) (d : OptionalExpr) (a : Arguments)
    → total (add_before_slash p d a) ≡ (marked (shown_arg p) + marked_optional d) + total a
slashed p d (arguments ps qs v ks kds k ds) = omega (arith, default_count d ds)

vararg_stays : (p : Arg) (d : OptionalExpr) (a : Arguments) → vararg_total (add_keyword_only p d a) ≡ vararg_total a
vararg_stays p d (arguments ps qs v ks kds k ds) = refl

gathered : (p : Arg) (a : Arguments) → vararg_total a ≡ 0 → total (set_vararg p a) ≡ marked (shown_arg p) + total a
gathered p (arguments ps qs v ks kds k ds) h = omega (arith, h)

collected : (p : Arg) → total (with_kwarg p) ≡ marked (shown_arg p) + 0
collected p = omega arith

-- ---- All of them.

no_vararg : (es : List Entry) (a : Arguments) → after_star es ≡ Some a → vararg_total a ≡ 0
no_vararg [] a h = ap vararg_total (sym (same_Some no_arguments a h))
no_vararg (Plain p d ∷ es) a h = mapped (add_keyword_only p d) (after_star es) a vararg_total 0
    (λ b q. vararg_stays p d b ∙ no_vararg es b q) h
no_vararg (Collected p ∷ []) a h = ap vararg_total (sym (same_Some (with_kwarg p) a h))
no_vararg (Collected p ∷ (x ∷ es)) a h = absurd (cc)
no_vararg (_ ∷ es) a h = absurd (cc)

after : (es : List Entry) (a : Arguments) → after_star es ≡ Some a → total a ≡ entries_total es
after [] a h = ap total (sym (same_Some no_arguments a h))
after (Plain p d ∷ es) a h = mapped (add_keyword_only p d) (after_star es) a total (entries_total (Plain p d ∷ es))
    (λ b q. keyword_only p d b ∙ ap (λ n. (marked (shown_arg p) + marked_optional d) + n) (after es b q)) h
after (Collected p ∷ []) a h = ap total (sym (same_Some (with_kwarg p) a h)) ∙ collected p
after (Collected p ∷ (x ∷ es)) a h = absurd (cc)
after (_ ∷ es) a h = absurd (cc)

star : (es : List Entry) (a : Arguments) → at_star es ≡ Some a → total a ≡ entries_total es
star [] a h = ap total (sym (same_Some no_arguments a h))
star (Gathered p ∷ es) a h = mapped (set_vararg p) (after_star es) a total (entries_total (Gathered p ∷ es))
    (λ b q. gathered p b (no_vararg es b q) ∙ ap (λ n. marked (shown_arg p) + n) (after es b q)) h
star (Bare ∷ (Plain p d ∷ es)) a h = after (Plain p d ∷ es) a h ∙ bare (entries_total (Plain p d ∷ es))
  where
    bare : (n : ℕ) → n ≡ 0 + n
    bare n = omega arith
star (Bare ∷ _) a h = absurd (cc)
star (Collected p ∷ []) a h = ap total (sym (same_Some (with_kwarg p) a h)) ∙ collected p
star (Collected p ∷ (x ∷ es)) a h = absurd (cc)
star (_ ∷ es) a h = absurd (cc)

add_step : (p : Arg) (d : OptionalExpr) (es : List Entry) (o : Option Arguments) (a : Arguments)
    → ((b : Arguments) → o ≡ Some b → total b ≡ entries_total es) → option_map (add_plain p d) o ≡ Some a
    → total a ≡ entries_total (Plain p d ∷ es)
add_step p d es o a f h = mapped (add_plain p d) o a total (entries_total (Plain p d ∷ es))
    (λ b q. plain p d b ∙ ap (λ n. (marked (shown_arg p) + marked_optional d) + n) (f b q)) h

plain_all : (b : Bool) (es : List Entry) (a : Arguments) → plain_ones b es ≡ Some a → total a ≡ entries_total es
plain_all true (Plain p absent ∷ es) a h = absurd (cc)
plain_all false (Plain p absent ∷ es) a h = add_step p absent es (plain_ones false es) a (λ b q. plain_all false es b q) h
plain_all true (Plain p (present d) ∷ es) a h = add_step p (present d) es (plain_ones true es) a (λ b q. plain_all true es b q) h
plain_all false (Plain p (present d) ∷ es) a h = add_step p (present d) es (plain_ones true es) a (λ b q. plain_all true es b q) h
plain_all true es a h = star es a h
plain_all false es a h = star es a h

slash_step : (p : Arg) (d : OptionalExpr) (es : List Entry) (o : Option Arguments) (a : Arguments)
    → ((b : Arguments) → o ≡ Some b → total b ≡ entries_total es) → option_map (add_before_slash p d) o ≡ Some a
    → total a ≡ entries_total (Plain p d ∷ es)
slash_step p d es o a f h = mapped (add_before_slash p d) o a total (entries_total (Plain p d ∷ es))
    (λ b q. slashed p d b ∙ ap (λ n. (marked (shown_arg p) + marked_optional d) + n) (f b q)) h

slash_none : (es : List Entry) → entries_total (Slashed ∷ es) ≡ entries_total es
slash_none es = omega arith

slash_all : (b : Bool) (es : List Entry) (a : Arguments) → before_slash b es ≡ Some a → total a ≡ entries_total es
slash_all true (Plain p absent ∷ es) a h = absurd (cc)
slash_all false (Plain p absent ∷ (Slashed ∷ es)) a h = slash_step p absent (Slashed ∷ es) (plain_ones false es) a
    (λ b q. plain_all false es b q ∙ sym (slash_none es)) h
slash_all true (Plain p (present d) ∷ (Slashed ∷ es)) a h = slash_step p (present d) (Slashed ∷ es) (plain_ones true es) a
    (λ b q. plain_all true es b q ∙ sym (slash_none es)) h
slash_all false (Plain p (present d) ∷ (Slashed ∷ es)) a h = slash_step p (present d) (Slashed ∷ es) (plain_ones true es) a
    (λ b q. plain_all true es b q ∙ sym (slash_none es)) h
slash_all false (Plain p absent ∷ es) a h = slash_step p absent es (before_slash false es) a (λ b q. slash_all false es b q) h
slash_all true (Plain p (present d) ∷ es) a h = slash_step p (present d) es (before_slash true es) a (λ b q. slash_all true es b q) h
slash_all false (Plain p (present d) ∷ es) a h = slash_step p (present d) es (before_slash true es) a (λ b q. slash_all true es b q) h
slash_all true _ a h = absurd (cc)
slash_all false _ a h = absurd (cc)

pub arranged_count : (es : List Entry) (a : Arguments) → arranged es ≡ Some a → marked (shown_arguments a) ≡ entries_total es
arranged_count es a h = total_is a ∙ pick (has_slash es) h
  where
    pick : (b : Bool) → cond b (before_slash false es) (plain_ones false es) ≡ Some a → total a ≡ entries_total es
    pick true h = slash_all false es a h
    pick false h = plain_all false es a h
