-- The arguments of a function are plain where each entry of its list of parameters is.
--
-- Carries: arranged_plain, for Expressions, Forms. On: Terminals, Targets, Entries.
use Rattle.std.proofs.Common.{◌≡◌, refl, sym, ap, ◌∙◌, Bool, true, false, cond, ◌&&◌, List, [], ◌∷◌, Option, Some, option_map}
use Rattle.std.proofs.Math.Bool.{and_assoc, and_comm}
use Rattle.std.proofs.lemmas.Option.{same_Some}
use Rattle.pytree_node.specs.Trees.{Exprs, OptionalExpr, absent, present, Arg, Arguments, arguments}
use Rattle.pygrammar.specs.Entries.{Entry, Plain, Slashed, Bare, Gathered, Collected}
use Rattle.pygrammar.specs.Parameters.{arranged, at_star, after_star, plain_ones, before_slash, has_slash, with_kwarg, with_default}
use Rattle.pygrammar.specs.Parameters.{add_keyword_only, set_vararg, add_plain, add_before_slash, no_arguments}
use Rattle.pygrammar.specs.Extents.{are_plain, is_optional_plain, are_optionals_plain, is_arg_plain, are_args_plain, is_optional_arg_plain}
use Rattle.pygrammar.specs.Extents.{are_arguments_plain}
use Rattle.pygrammar.proofs.Plain.Terminals.{and_swap}
use Rattle.pygrammar.proofs.Plain.Targets.{mapped_keeps}
use Rattle.pygrammar.proofs.Plain.Entries.{is_entry_plain, are_entries_plain}

-- ---- What stands further in comes to the front.

move_keyword : (d ds k kds ks p ps qs v : Bool) → ps && (qs && (v && ((p && ks) && ((d && kds) && (k && ds))))) ≡ (p && d) &&
    (ps && (qs && (v && (ks && (kds && (k && ds))))))
move_keyword d ds k kds ks p ps qs v = simp (and_assoc, and_comm, and_swap)

move_plain : (d ds k kds ks p ps qs v : Bool) → ps && ((p && qs) && (v && (ks && (kds && (k && (d && ds)))))) ≡ (p && d) &&
    (ps && (qs && (v && (ks && (kds && (k && ds))))))
move_plain d ds k kds ks p ps qs v = simp (and_assoc, and_comm, and_swap)

move_slash : (d ds k kds ks p ps qs v : Bool) → (p && ps) && (qs && (v && (ks && (kds && (k && (d && ds)))))) ≡ (p && d) &&
    (ps && (qs && (v && (ks && (kds && (k && ds))))))
move_slash d ds k kds ks p ps qs v = simp (and_assoc, and_comm, and_swap)

move_vararg : (ps qs p rest : Bool) → ps && (qs && (p && rest)) ≡ p && (ps && (qs && rest))
move_vararg ps qs p rest = simp and_swap

-- ---- One parameter more.

default_plain : (d : OptionalExpr) (ds : Exprs) → are_plain (with_default d ds) ≡ is_optional_plain d && are_plain ds
default_plain absent ds = refl
default_plain (present d) ds = refl

keyword_only_plain : (p : Arg) (d : OptionalExpr) (a : Arguments) → are_arguments_plain (add_keyword_only p d a) ≡ is_entry_plain
    (Plain p d) && are_arguments_plain a
keyword_only_plain p d (arguments ps qs v ks kds k ds) =
    move_keyword (is_optional_plain d) (are_plain ds) (is_optional_arg_plain k) (are_optionals_plain kds) (are_args_plain ks)
    (is_arg_plain p) (are_args_plain ps) (are_args_plain qs) (is_optional_arg_plain v)

plain_plain : (p : Arg) (d : OptionalExpr) (a : Arguments) → are_arguments_plain (add_plain p d a) ≡ is_entry_plain (Plain p d)
    && are_arguments_plain a
plain_plain p d (arguments ps qs v ks kds k ds) =
    let rest : Bool → Bool =
    λ z. is_optional_arg_plain v && (are_args_plain ks && (are_optionals_plain kds && (is_optional_arg_plain k && z))) in
    ap (λ z. are_args_plain ps && ((is_arg_plain p && are_args_plain qs) && rest z)) (default_plain d ds)
    ∙ move_plain (is_optional_plain d) (are_plain ds) (is_optional_arg_plain k) (are_optionals_plain kds) (are_args_plain ks)
    (is_arg_plain p) (are_args_plain ps) (are_args_plain qs) (is_optional_arg_plain v)

slash_plain : (p : Arg) (d : OptionalExpr) (a : Arguments) → are_arguments_plain (add_before_slash p d a) ≡ is_entry_plain (Plain p d)
    && are_arguments_plain a
slash_plain p d (arguments ps qs v ks kds k ds) =
    let rest : Bool → Bool =
    λ z. is_optional_arg_plain v && (are_args_plain ks && (are_optionals_plain kds && (is_optional_arg_plain k && z))) in
    ap (λ z. (is_arg_plain p && are_args_plain ps) && (are_args_plain qs && rest z)) (default_plain d ds)
    ∙ move_slash (is_optional_plain d) (are_plain ds) (is_optional_arg_plain k) (are_optionals_plain kds) (are_args_plain ks)
    (is_arg_plain p) (are_args_plain ps) (are_args_plain qs) (is_optional_arg_plain v)

-- the arguments that some entries give, if they do, are plain where the entries are
abbrev Agree : List Entry → Option Arguments → Type 0
Agree es o = (a : Arguments) → o ≡ Some a → are_arguments_plain a ≡ are_entries_plain es

-- an entry in front, with what it adds
in_front : (e : Entry) (es : List Entry) (f : Arguments → Arguments) (o : Option Arguments)
    → ((a : Arguments) → o ≡ Some a → are_arguments_plain (f a) ≡ is_entry_plain e && are_arguments_plain a)
    → Agree es o → Agree (e ∷ es) (option_map f o)
in_front e es f o k h a q = mapped_keeps f o a are_arguments_plain (are_entries_plain (e ∷ es)) (λ b r. k b r
    ∙ ap (λ z. is_entry_plain e && z) (h b r)) q

-- ---- After a star.

is_vararg_plain : Arguments → Bool
is_vararg_plain (arguments ps qs v ks kds k ds) = is_optional_arg_plain v

vararg_stays : (p : Arg) (d : OptionalExpr) (a : Arguments) → is_vararg_plain (add_keyword_only p d a) ≡ is_vararg_plain a
unfolding is_vararg_plain
vararg_stays p d (arguments ps qs v ks kds k ds) = refl

no_vararg : (es : List Entry) (a : Arguments) → after_star es ≡ Some a → is_vararg_plain a ≡ true
unfolding is_vararg_plain
no_vararg [] a h = ap is_vararg_plain (sym (same_Some no_arguments a h))
no_vararg (Plain p d ∷ es) a h = mapped_keeps (add_keyword_only p d) (after_star es) a is_vararg_plain true
    (λ b q. vararg_stays p d b ∙ no_vararg es b q) h
no_vararg (Collected p ∷ []) a h = ap is_vararg_plain (sym (same_Some (with_kwarg p) a h))
no_vararg (Collected p ∷ (x ∷ es)) a h = absurd cc
no_vararg (_ ∷ es) a h = absurd cc

vararg_plain : (p : Arg) (a : Arguments) → is_vararg_plain a ≡ true → are_arguments_plain (set_vararg p a) ≡ is_arg_plain p
    && are_arguments_plain a
unfolding is_vararg_plain
vararg_plain p (arguments ps qs v ks kds k ds) h =
    let rest : Bool = are_args_plain ks && (are_optionals_plain kds && (is_optional_arg_plain k && are_plain ds)) in
    move_vararg (are_args_plain ps) (are_args_plain qs) (is_arg_plain p) rest
    ∙ ap (λ z. is_arg_plain p && (are_args_plain ps && (are_args_plain qs && (z && rest)))) (sym h)

after_plain : (es : List Entry) → Agree es (after_star es)
after_plain [] a h = ap are_arguments_plain (sym (same_Some no_arguments a h))
after_plain (Plain p d ∷ es) a h = in_front (Plain p d) es (add_keyword_only p d) (after_star es) (λ b q. keyword_only_plain p d b)
    (λ b q. after_plain es b q) a h
after_plain (Collected p ∷ []) a h = ap are_arguments_plain (sym (same_Some (with_kwarg p) a h))
after_plain (Collected p ∷ (x ∷ es)) a h = absurd cc
after_plain (_ ∷ es) a h = absurd cc

star_plain : (es : List Entry) → Agree es (at_star es)
star_plain [] a h = ap are_arguments_plain (sym (same_Some no_arguments a h))
star_plain (Gathered p ∷ es) a h = in_front (Gathered p) es (set_vararg p) (after_star es)
    (λ b q. vararg_plain p b (no_vararg es b q)) (after_plain es) a h
star_plain (Bare ∷ (Plain p d ∷ es)) a h = after_plain (Plain p d ∷ es) a h
star_plain (Bare ∷ _) a h = absurd cc
star_plain (Collected p ∷ []) a h = ap are_arguments_plain (sym (same_Some (with_kwarg p) a h))
star_plain (Collected p ∷ (x ∷ es)) a h = absurd cc
star_plain (_ ∷ es) a h = absurd cc

-- ---- In front of it.

add_step : (p : Arg) (d : OptionalExpr) (es : List Entry) (o : Option Arguments) → Agree es o
    → Agree (Plain p d ∷ es) (option_map (add_plain p d) o)
add_step p d es o f a h = in_front (Plain p d) es (add_plain p d) o (λ b q. plain_plain p d b) f a h

plain_entries : (b : Bool) (es : List Entry) → Agree es (plain_ones b es)
plain_entries true (Plain p absent ∷ es) a h = absurd cc
plain_entries false (Plain p absent ∷ es) a h = add_step p absent es (plain_ones false es) (λ b q. plain_entries false es b q) a h
plain_entries true (Plain p (present d) ∷ es) a h = add_step p (present d) es (plain_ones true es) (λ b q. plain_entries true es b q) a h
plain_entries false (Plain p (present d) ∷ es) a h = add_step p (present d) es (plain_ones true es) (λ b q. plain_entries true es b q) a h
plain_entries true es a h = star_plain es a h
plain_entries false es a h = star_plain es a h

slash_step : (p : Arg) (d : OptionalExpr) (es : List Entry) (o : Option Arguments) → Agree es o
    → Agree (Plain p d ∷ es) (option_map (add_before_slash p d) o)
slash_step p d es o f a h = in_front (Plain p d) es (add_before_slash p d) o (λ b q. slash_plain p d b) f a h

slash_entries : (b : Bool) (es : List Entry) → Agree es (before_slash b es)
slash_entries true (Plain p absent ∷ es) a h = absurd cc
slash_entries false (Plain p absent ∷ (Slashed ∷ es)) a h = slash_step p absent (Slashed ∷ es) (plain_ones false es)
    (plain_entries false es) a h
slash_entries true (Plain p (present d) ∷ (Slashed ∷ es)) a h = slash_step p (present d) (Slashed ∷ es) (plain_ones true es)
    (plain_entries true es) a h
slash_entries false (Plain p (present d) ∷ (Slashed ∷ es)) a h = slash_step p (present d) (Slashed ∷ es) (plain_ones true es)
    (plain_entries true es) a h
slash_entries false (Plain p absent ∷ es) a h = slash_step p absent es (before_slash false es) (λ b q. slash_entries false es b q) a h
slash_entries true (Plain p (present d) ∷ es) a h = slash_step p (present d) es (before_slash true es)
    (λ b q. slash_entries true es b q) a h
slash_entries false (Plain p (present d) ∷ es) a h = slash_step p (present d) es (before_slash true es)
    (λ b q. slash_entries true es b q) a h
slash_entries true _ a h = absurd cc
slash_entries false _ a h = absurd cc

pub arranged_plain : (es : List Entry) (a : Arguments) → arranged es ≡ Some a → are_entries_plain es ≡ are_arguments_plain a
arranged_plain es a h = sym (pick (has_slash es) h)
  where
    pick : (b : Bool) → cond b (before_slash false es) (plain_ones false es) ≡ Some a → are_arguments_plain a ≡ are_entries_plain es
    pick true h = slash_entries false es a h
    pick false h = plain_entries false es a h
