-- Carries: the laws of the slots. On: parameters whose parts are given are arranged
-- from entries that are given.
use Rattle.std.proofs.Common.{◌≡◌, refl, sym, ap, subst, ◌∙◌, ℕ, zero, suc, ◌+◌, ◌≤◌, arith, List, [], ◌∷◌, ◌++◌, Option, Some, Bool, true}
use Rattle.std.proofs.Common.{false, option_map}
use Rattle.std.specs.Prelude.{◌-◌}
use Rattle.std.proofs.lemmas.Bool.{and_parts}
use Rattle.pylex_lexeme.specs.declared.kinds.Exact.TheVariants.{Colon, Equal, Star, Slash, DoubleStar}
use Rattle.pytoken.specs.declared.keywords.Keyword.TheVariants as Key
use Rattle.pytree_node.specs.declared.operators.Context.TheVariants.{Load}
use Rattle.pytree_node.specs.Trees
use Rattle.pytree_node.specs.Trees.{Identifier, Expr, Exprs, no_exprs, OptionalExprs, absent, present, Arg, arg, Args, no_arg}
use Rattle.pytree_node.specs.Trees.{an_arg, OptionalArg, absent_arg, present_arg, Arguments, arguments}
use Rattle.pytoken.specs.Terminals.{Op, Word, in_form}
use Rattle.pygrammar.specs.declared.levels.Level.{Level}
use Rattle.pygrammar.specs.declared.levels.Level.TheVariants.{StarItem, Expression, BitOr}
use Rattle.pygrammar.specs.Entries.{Parameter, Entry, Plain, Slashed, Bare, Gathered, Collected}
use Rattle.pygrammar.specs.Parameters.{add_keyword_only, set_vararg, add_plain, add_before_slash, after_star, at_star, plain_ones}
use Rattle.pygrammar.specs.Parameters.{before_slash, has_slash, arranged}
use Rattle.pygrammar.specs.Grammar as G
use Rattle.pytree_fits.specs.Slots.{count, count_optional, count_args, fits_at, arg_fits, each_arg_fits, perhaps_arg_fits}
use Rattle.pytree_fits.proofs.Fields.Standing.{Standing, here}
use Rattle.pytree_fits.proofs.Fields.AsSpelled.{GivenAsSpelled, pass_on}
use Rattle.pytree_fits.proofs.Fields.Tests.{parts3, never}
use Rattle.pytree_fits.proofs.Giving.Places as P
use Rattle.pytree_fits.proofs.Giving.Places.{Each, no_more, one_more, anywhere_at, at, named_pass}
use Rattle.pytree_fits.proofs.Giving.Making.{Pieces, no_piece, a_piece, listing}
use Rattle.pytree_fits.proofs.Giving.Calls.{Keys, no_keys, no_key, a_key}
use Rattle.pytree_fits.proofs.Fields.Arranging.{Parts}

-- parameters, with annotations only where there may be some
pub data ArgMade (n : Standing) (annotated : Bool) : Arg → Type 0 where
  bare : {x : Identifier} → n.tests.name x ≡ true → ArgMade n annotated (arg x absent)
  noted : {x : Identifier} {e : Expr} → n.tests.name x ≡ true → annotated ≡ true → P.At n Expression e
      → ArgMade n annotated (arg x (present e))

pub data ArgsMade (n : Standing) (annotated : Bool) : Args → Type 0 where
  no_args : ArgsMade n annotated no_arg
  more_args : {a : Arg} {rest : Args} → ArgMade n annotated a → ArgsMade n annotated rest → ArgsMade n annotated (an_arg a rest)

pub data OptionalArgMade (n : Standing) (annotated : Bool) : OptionalArg → Type 0 where
  none_made : OptionalArgMade n annotated absent_arg
  one_made : {a : Arg} → ArgMade n annotated a → OptionalArgMade n annotated (present_arg a)

-- that of `*`
pub data StarArgMade (n : Standing) (annotated : Bool) : OptionalArg → Type 0 where
  unstarred : {v : OptionalArg} → OptionalArgMade n annotated v → StarArgMade n annotated v
  starred : {x : Identifier} {e : Expr} → n.tests.name x ≡ true → annotated ≡ true → P.At n Expression e
      → StarArgMade n annotated (present_arg (arg x (present (Trees.Starred e Load))))

-- a list of entries that a step of the arranging reads as a
record Run (n : Standing) (b : Bool) (read : List Entry → Option Arguments) (z : Bool) (a : Arguments) : Type 0 where
  list : List Entry
  is : read list ≡ Some a
  slash : has_slash list ≡ z
  pieces : Pieces n (Parameter b) list

abbrev first_slash : List Entry → Bool
first_slash (Slashed ∷ es) = true
first_slash _ = false

module _ (n : Standing) (b : Bool) where
  abbrev Piece : Entry → Type 0
  Piece e = GivenAsSpelled n (G.Piece (Parameter b)) e

  -- with an annotation there may be annotations
  annotated_too : (e : Entry) → b ≡ true → GivenAsSpelled n (G.Piece (Parameter true)) e → Piece e
  annotated_too e h p = subst (λ c. GivenAsSpelled n (G.Piece (Parameter c)) e) (sym h) p

  slash_piece : Piece Slashed
  slash_piece = (Op Slash ∷ [], refl, G.slash)

  bare_piece : Piece Bare
  bare_piece = (Op Star ∷ [], refl, G.bare_star)

  plain_none : {a : Arg} → ArgMade n b a → Piece (Plain a absent)
  plain_none (bare {x = x} h) = (in_form x ∷ ([] ++ []), named_pass n x [] h refl, G.parameter G.no_suffix G.no_suffix)
  plain_none (noted {x = x} {e = e} h q f) = annotated_too (Plain (arg x (present e)) absent) q (
    in_form x ∷ ((Op Colon ∷ f.0) ++ []),
    named_pass n x ((Op Colon ∷ f.0) ++ []) h (pass_on n f.0 [] f.1 refl),
    G.parameter (G.suffix f.2) G.no_suffix,
  )

  plain_some : {a : Arg} (d : Expr) → ArgMade n b a → P.At n Expression d → Piece (Plain a (present d))
  plain_some d (bare {x = x} h) g = (
    in_form x ∷ ([] ++ (Op Equal ∷ g.0)),
    named_pass n x (Op Equal ∷ g.0) h g.1,
    G.parameter G.no_suffix (G.suffix g.2),
  )
  plain_some d (noted {x = x} {e = e} h q f) g = annotated_too (Plain (arg x (present e)) (present d)) q (
    in_form x ∷ ((Op Colon ∷ f.0) ++ (Op Equal ∷ g.0)),
    named_pass n x ((Op Colon ∷ f.0) ++ (Op Equal ∷ g.0)) h
        (pass_on n f.0 (Op Equal ∷ g.0) f.1 g.1),
    G.parameter (G.suffix f.2) (G.suffix g.2),
  )

  gathered : {a : Arg} → ArgMade n b a → Piece (Gathered a)
  gathered (bare {x = x} h) = (Op Star ∷ (in_form x ∷ []), named_pass n x [] h refl, G.star_parameter G.no_suffix)
  gathered (noted {x = x} {e = e} h q f) = annotated_too (Gathered (arg x (present e))) q
      (Op Star ∷ (in_form x ∷ (Op Colon ∷ f.0)), named_pass n x (Op Colon ∷ f.0) h f.1, G.star_parameter (G.suffix f.2))

  gathered_star : (x : Identifier) (e : Expr) → n.tests.name x ≡ true → b ≡ true → P.At n Expression e
      → Piece (Gathered (arg x (present (Trees.Starred e Load))))
  gathered_star x e h q f =
      let u = at n BitOr f in
      annotated_too (Gathered (arg x (present (Trees.Starred e Load)))) q
      (Op Star ∷ (in_form x ∷ (Op Colon ∷ (Op Star ∷ u.0))), named_pass n x (Op Colon ∷ (Op Star ∷ u.0)) h u.1, G.star_annotation u.2)

  collected : {a : Arg} → ArgMade n b a → Piece (Collected a)
  collected (bare {x = x} h) = (Op DoubleStar ∷ (in_form x ∷ []), named_pass n x [] h refl, G.double_parameter G.no_suffix)
  collected (noted {x = x} {e = e} h q f) = annotated_too (Collected (arg x (present e))) q
      (Op DoubleStar ∷ (in_form x ∷ (Op Colon ∷ f.0)), named_pass n x (Op Colon ∷ f.0) h f.1, G.double_parameter (G.suffix f.2))

  -- after the star
  after_run : {ks : Args} {ds : OptionalExprs} {k : OptionalArg} → count_optional ds ≡ count_args ks → ArgsMade n b ks → Keys n ds
      → OptionalArgMade n b k → Run n b after_star false (arguments no_arg no_arg absent_arg ks ds k no_exprs)
  after_run q no_args no_keys none_made = record { list = []; is = refl; slash = refl; pieces = no_piece }
  after_run q no_args no_keys (one_made {a = a} g) = record {
    list = Collected a ∷ [];
    is = refl;
    slash = refl;
    pieces =
        a_piece (collected g) no_piece;
  }
  after_run q no_args (no_key s) g = absurd (omega (arith, q))
  after_run q no_args (a_key f s) g = absurd (omega (arith, q))
  after_run q (more_args h r) no_keys g = absurd (omega (arith, q))
  after_run q (more_args {a = a} h r) (no_key s) g =
      let w = after_run (omega (arith, q)) r s g in
      record {
        list = Plain a absent ∷ w.list;
        is = ap (option_map (add_keyword_only a absent)) w.is;
        slash = w.slash;
        pieces =
            a_piece (plain_none h) w.pieces;
      }
  after_run q (more_args {a = a} h r) (a_key {k = d} f s) g =
      let w = after_run (omega (arith, q)) r s g in
      record {
        list = Plain a (present d) ∷ w.list;
        is = ap (option_map (add_keyword_only a (present d))) w.is;
        slash = w.slash;
        pieces =
            a_piece (plain_some d h f) w.pieces;
      }

  -- from the star on
  star_is : (z : Bool) (a : Arg) (es : List Entry) → plain_ones z (Gathered a ∷ es) ≡ at_star (Gathered a ∷ es)
  star_is true a es = refl
  star_is false a es = refl

  bare_is : (z : Bool) (es : List Entry) → plain_ones z (Bare ∷ es) ≡ at_star (Bare ∷ es)
  bare_is true es = refl
  bare_is false es = refl

  double_is : (z : Bool) (es : List Entry) (a : Arg) → plain_ones z (Collected a ∷ es) ≡ at_star (Collected a ∷ es)
  double_is true es a = refl
  double_is false es a = refl

  none_is : (z : Bool) → plain_ones z [] ≡ at_star []
  none_is true = refl
  none_is false = refl

  star_run : (z : Bool) {v : OptionalArg} {ks : Args} {ds : OptionalExprs} {k : OptionalArg} → StarArgMade n b v
      → count_optional ds ≡ count_args ks → ArgsMade n b ks → Keys n ds → OptionalArgMade n b k
      → Run n b (plain_ones z) false (arguments no_arg no_arg v ks ds k no_exprs)
  star_run z (unstarred (one_made {a = a} p)) q h s g = let w = after_run q h s g in
      record {
        list = Gathered a ∷ w.list;
        is = star_is z a w.list ∙ ap (option_map (set_vararg a)) w.is;
        slash = w.slash;
        pieces =
            a_piece (gathered p) w.pieces;
      }
  star_run z (starred {x = x} {e = e} r p f) q h s g = let w = after_run q h s g in let a = arg x (present (Trees.Starred e Load)) in
      record {
        list = Gathered a ∷ w.list;
        is = star_is z a w.list ∙ ap (option_map (set_vararg a)) w.is;
        slash = w.slash;
        pieces =
            a_piece (gathered_star x e r p f) w.pieces;
      }
  star_run z (unstarred none_made) q no_args no_keys none_made = record { list = []; is = none_is z; slash = refl; pieces = no_piece }
  star_run z (unstarred none_made) q no_args no_keys (one_made {a = a} g) = record {
    list = Collected a ∷ [];
    is = double_is z [] a;
    slash =
        refl;
    pieces = a_piece (collected g) no_piece;
  }
  star_run z (unstarred none_made) q no_args (no_key s) g = absurd (omega (arith, q))
  star_run z (unstarred none_made) q no_args (a_key f s) g = absurd (omega (arith, q))
  star_run z (unstarred none_made) q (more_args h r) no_keys g = absurd (omega (arith, q))
  star_run z (unstarred none_made) q (more_args {a = a} h r) (no_key s) g =
      let w = after_run (omega (arith, q)) r s g in
      record {
        list = Bare ∷ (Plain a absent ∷ w.list);
        is = bare_is z (Plain a absent ∷ w.list)
            ∙ ap (option_map (add_keyword_only a absent)) w.is;
        slash = w.slash;
        pieces =
            a_piece bare_piece (a_piece (plain_none h) w.pieces);
      }
  star_run z (unstarred none_made) q (more_args {a = a} h r) (a_key {k = d} f s) g =
      let w = after_run (omega (arith, q)) r s g in
      record {
        list = Bare ∷ (Plain a (present d) ∷ w.list);
        is = bare_is z (Plain a (present d) ∷ w.list)
            ∙ ap (option_map (add_keyword_only a (present d))) w.is;
        slash = w.slash;
        pieces =
            a_piece bare_piece (a_piece (plain_some d h f) w.pieces);
      }

  -- what stands from the star on
  module _ (v : OptionalArg) (ks : Args) (ds : OptionalExprs) (k : OptionalArg) (rest : (z : Bool)
      → Run n b (plain_ones z) false (arguments no_arg no_arg v ks ds k no_exprs)) where
    some_is : (z : Bool) (a : Arg) (d : Expr) (es : List Entry) → plain_ones z (Plain a (present d) ∷ es) ≡ option_map
        (add_plain a (present d)) (plain_ones true es)
    some_is true a d es = refl
    some_is false a d es = refl

    -- m of the plain ones have no default
    plain_run : (z : Bool) (m : ℕ) {qs : Args} {es : Exprs} → m + count es ≡ count_args qs → (z ≡ true → m ≡ 0) → ArgsMade n b qs
        → Each n Expression es → Run n b (plain_ones z) false (arguments no_arg qs v ks ds k es)
    plain_run z m q t no_args no_more = rest z
    plain_run z m q t no_args (one_more f r) = absurd (omega (arith, q))
    plain_run z zero q t (more_args h g) no_more = absurd (omega (arith, q))
    plain_run z zero q t (more_args {a = a} h g) (one_more {e = d} f r) =
        let w = plain_run true zero (omega (arith, q)) (λ x. refl) g r in
        record {
          list = Plain a (present d) ∷ w.list;
          is = some_is z a d w.list ∙ ap (option_map (add_plain a (present d))) w.is;
          slash =
              w.slash;
          pieces = a_piece (plain_some d h f) w.pieces;
        }
    plain_run true (suc m) q t (more_args h g) r = absurd (omega (arith, t refl))
    plain_run false (suc m) q t (more_args {a = a} h g) r =
        let w = plain_run false m (omega (arith, q)) (λ x. absurd (never x)) g r in
        record {
          list = Plain a absent ∷ w.list;
          is = ap (option_map (add_plain a absent)) w.is;
          slash = w.slash;
          pieces =
              a_piece (plain_none h) w.pieces;
        }

    -- those in front of the slash
    record Front (z : Bool) (a : Arguments) : Type 0 where
      list : List Entry
      is : before_slash z list ≡ Some a
      slash : has_slash list ≡ true
      pieces : Pieces n (Parameter b) list
      first : first_slash list ≡ false

    last_some : (z : Bool) (a : Arg) (d : Expr) (es : List Entry) → before_slash z (Plain a (present d) ∷ (Slashed ∷ es)) ≡ option_map
        (add_before_slash a (present d)) (plain_ones true es)
    last_some true a d es = refl
    last_some false a d es = refl

    more_none : (a : Arg) (es : List Entry) → first_slash es ≡ false → before_slash false (Plain a absent ∷ es) ≡ option_map
        (add_before_slash a absent) (before_slash false es)
    more_none a [] h = refl
    more_none a (Slashed ∷ es) h = absurd (cc)
    more_none a (_ ∷ es) h = refl

    more_some : (z : Bool) (a : Arg) (d : Expr) (es : List Entry) → first_slash es ≡ false
        → before_slash z (Plain a (present d) ∷ es) ≡ option_map (add_before_slash a (present d)) (before_slash true es)
    more_some true a d [] h = refl
    more_some true a d (Slashed ∷ es) h = absurd (cc)
    more_some true a d (_ ∷ es) h = refl
    more_some false a d [] h = refl
    more_some false a d (Slashed ∷ es) h = absurd (cc)
    more_some false a d (_ ∷ es) h = refl

    slash_run : (z : Bool) (m : ℕ) {a : Arg} {ps qs : Args} {es : Exprs} → m + count es ≡ suc (count_args ps + count_args qs)
        → (z ≡ true → m ≡ 0) → ArgMade n b a → ArgsMade n b ps → ArgsMade n b qs → Each n Expression es
        → Front z (arguments (an_arg a ps) qs v ks ds k es)
    slash_run z zero q t p h g no_more = absurd (omega (arith, q))
    slash_run z zero {a = a} q t p no_args g (one_more {e = d} f r) =
        let w = plain_run true zero (omega (arith, q)) (λ x. refl) g r in
        record {
          list = Plain a (present d) ∷ (Slashed ∷ w.list);
          is = last_some z a d w.list
              ∙ ap (option_map (add_before_slash a (present d))) w.is;
          slash = refl;
          pieces =
              a_piece (plain_some d p f) (a_piece slash_piece w.pieces);
          first = refl;
        }
    slash_run z zero {a = a} q t p (more_args x h) g (one_more {e = d} f r) =
        let w = slash_run true zero (omega (arith, q)) (λ x. refl) x h g r in
        record {
          list = Plain a (present d) ∷ w.list;
          is = more_some z a d w.list w.first ∙ ap (option_map (add_before_slash a (present d)))
              w.is;
          slash = w.slash;
          pieces = a_piece (plain_some d p f) w.pieces;
          first = refl;
        }
    slash_run true (suc m) q t p h g r = absurd (omega (arith, t refl))
    slash_run false (suc m) {a = a} q t p no_args g r =
        let w = plain_run false m (omega (arith, q)) (λ x. absurd (never x)) g r in
        record {
          list = Plain a absent ∷ (Slashed ∷ w.list);
          is = ap (option_map (add_before_slash a absent)) w.is;
          slash = refl;
          pieces =
              a_piece (plain_none p) (a_piece slash_piece w.pieces);
          first = refl;
        }
    slash_run false (suc m) {a = a} q t p (more_args x h) g r =
        let w = slash_run false m (omega (arith, q)) (λ x. absurd (never x)) x h g r in
        record {
          list = Plain a absent ∷ w.list;
          is = more_none a w.list w.first ∙ ap (option_map (add_before_slash a absent)) w.is;
          slash =
              w.slash;
          pieces = a_piece (plain_none p) w.pieces;
          first = refl;
        }

  pub record Arrangement (a : Arguments) : Type 0 where
    pub list : List Entry
    pub is : arranged list ≡ Some a
    pub pieces : Pieces n (Parameter b) list

  pub arrangement : (ps qs : Args) (v : OptionalArg) (ks : Args) (ds : OptionalExprs) (k : OptionalArg) (es : Exprs) → ArgsMade n b ps
      → ArgsMade n b qs → StarArgMade n b v → ArgsMade n b ks → Keys n ds → OptionalArgMade n b k → Each n Expression es
      → count_optional ds ≡ count_args ks → count es ≤ count_args ps + count_args qs → Arrangement (arguments ps qs v ks ds k es)
  arrangement no_arg qs v ks ds k es no_args h1 h2 h3 h4 h5 h6 even few =
      let w = plain_run v ks ds k (λ z. star_run z h2 even h3 h4 h5) false (count_args qs - count es) (omega (arith, few))
      (λ x. absurd (never x)) h1 h6 in
      record { list = w.list; is = rw w.slash w.is; pieces = w.pieces }
  arrangement (an_arg a ps) qs v ks ds k es (more_args p h0) h1 h2 h3 h4 h5 h6 even few =
      let w = slash_run v ks ds k (λ z. star_run z h2 even h3 h4 h5) false (suc (count_args ps + count_args qs) - count es)
      (omega (arith, few)) (λ x. absurd (never x)) p h0 h1 h6 in
      record { list = w.list; is = rw w.slash w.is; pieces = w.pieces }

-- in a lambda there are no annotations
module _ (n : Standing) where
  bare_arg : (l : Level) (a : Arg) → arg_fits (here n) false l a ≡ true → ArgMade n false a
  bare_arg l (arg x absent) h = bare (parts3 (n.tests.name x) true true h).0
  bare_arg l (arg x (present e)) h = absurd (never (parts3 (n.tests.name x) false (fits_at (here n) l e) h).1)

  bare_args : (xs : Args) → each_arg_fits (here n) false xs ≡ true → ArgsMade n false xs
  bare_args no_arg h = no_args
  bare_args (an_arg a rest) h = let w = and_parts (arg_fits (here n) false Expression a) (each_arg_fits (here n) false rest) h in
      more_args (bare_arg Expression a w.0) (bare_args rest w.1)

  bare_optional : (l : Level) (a : OptionalArg) → perhaps_arg_fits (here n) false l a ≡ true → OptionalArgMade n false a
  bare_optional l absent_arg h = none_made
  bare_optional l (present_arg a) h = one_made (bare_arg l a h)

  pub lambda_given : (l : Level) (ps qs : Args) (v : OptionalArg) (ks : Args) (ds : OptionalExprs) (k : OptionalArg) (es : Exprs) (e : Expr)
      → Parts (here n) false ps qs v ks ds k es → Keys n ds → Each n Expression es → P.At n Expression e
      → P.At n l (Trees.Lambda (arguments ps qs v ks ds k es) e)
  lambda_given l ps qs v ks ds k es e p s r f =
      let w = arrangement n false ps qs v ks ds k es (bare_args ps p.before) (bare_args qs p.middle)
      (unstarred (bare_optional StarItem v p.star)) (bare_args ks p.only) s (bare_optional Expression k p.double) r p.even p.few in
      let u = listing n w.pieces in
      anywhere_at n Expression refl (
        Word Key.Lambda ∷ (u.0 ++ (Op Colon ∷ f.0)),
        pass_on n u.0 (Op Colon ∷ f.0) u.1 f.1,
        G.lambda u.2 w.is f.2,
      ) l
