-- Carries: the laws of pieces. On: trees whose names and constants can be written in an extent of
-- the language, and whose stars stand only where they may.
use Rattle.std.proofs.Common.{◌≡◌, ℕ, zero, suc, List, Bool, true, false, None, Some}
use Rattle.pytree_node.specs.declared.profiles.Extent.{Extent}
use Rattle.pytree_node.specs.declared.profiles.Extent.TheVariants.{Plain, Whole}
use Rattle.pytree_node.specs.Values
use Rattle.pytree_node.specs.Trees
use Rattle.pytree_node.specs.Trees.{Expr, Exprs, no_exprs, an_expr, OptionalExpr, absent, present, OptionalExprs, no_optional, an_optional}
use Rattle.pytree_node.specs.Trees.{Comprehensions, no_comprehension, a_comprehension, Keywords, no_keyword, a_keyword, arg, Args, no_arg}
use Rattle.pytree_node.specs.Trees.{an_arg}
use Rattle.pytree_node.specs.Trees.{OptionalArg, absent_arg, present_arg, Arguments, arguments}
use Rattle.pytoken.specs.Laws.{IsProper}
use Rattle.pyunparse_text.proofs.FieldTexts.Texts.{IsText}
use Rattle.pyunparse_text.proofs.PieceLaws.Places.{Place, Depth, outside, in_field, in_two, deeper}
use Rattle.pyunparse_text.proofs.PieceLaws.Fair.{IsConstant}

abbrev pub AreSome : Exprs → Type 0
AreSome no_exprs = ⊥
AreSome (an_expr e es) = Unit {0}

-- f-strings are of the whole language, and stand in at most one field
abbrev pub HasStrings : Extent → Depth → Type 0
HasStrings Plain d = ⊥
HasStrings Whole in_two = ⊥
HasStrings Whole d = Unit {0}

abbrev pub is_spec : ℕ → Bool
is_spec zero = false
is_spec (suc n) = true

-- a text of an f-string, in so many format specs
abbrev pub HasFormatted : Depth → ℕ → List ℕ → Type 0
HasFormatted outside n t = IsText false (is_spec n) t
HasFormatted in_field n t = IsText true (is_spec n) t
HasFormatted in_two n t = ⊥

-- fields stand in at most one format spec
abbrev pub HasFields : ℕ → Type 0
HasFields zero = Unit {0}
HasFields (suc zero) = Unit {0}
HasFields _ = ⊥

module _ (extent : Extent) where
  -- an expression that may or may not be a Starred
  abbrev mutual
    pub Sound : Depth → Bool → Expr → Type 0
    Sound d s (Trees.Yield e) = SoundOptional d true e
    Sound d s (Trees.YieldFrom e) = Sound d false e
    Sound d s (Trees.Starred e c) = (s ≡ true) × Sound d false e
    Sound d s (Trees.NamedExpr t e) = Sound d false t × Sound d false e
    Sound d s (Trees.Lambda a e) = SoundArguments d a × Sound d false e
    Sound d s (Trees.IfExp a b c) = Sound d false a × Sound d false b × Sound d false c
    Sound d s (Trees.BoolOp o es) = AreSome es × AreSound d false es
    Sound d s (Trees.UnaryOp o e) = Sound d false e
    Sound d s (Trees.Compare e os es) = Sound d false e × AreSound d false es
    Sound d s (Trees.BinOp a o b) = Sound d false a × Sound d false b
    Sound d s (Trees.Await e) = Sound d false e
    Sound d s (Trees.Attribute e x c) = Sound d false e × IsProper x
    Sound d s (Trees.Call f es ks) = Sound d false f × AreSound d true es × SoundKeywords d ks
    Sound d s (Trees.Subscript e i c) = Sound d false e × Sound d false i
    Sound d s (Trees.Name x c) = IsProper x
    Sound d s (Trees.Constant v) = IsConstant (record { extent = extent; depth = d }) v
    Sound d s (Trees.JoinedStr es) = HasStrings extent d × SoundValues d 0 es
    Sound d s (Trees.FormattedValue e c sp) = ⊥
    Sound d s (Trees.Tuple es c) = AreSound d true es
    Sound d s (Trees.GeneratorExp e gs) = Sound d false e × SoundClauses d gs
    Sound d s (Trees.ListOf es c) = AreSound d true es
    Sound d s (Trees.ListComp e gs) = Sound d false e × SoundClauses d gs
    Sound d s (Trees.Dict ks es) = SoundOptionals d ks × AreSound d false es
    Sound d s (Trees.DictComp k e gs) = Sound d false k × Sound d false e × SoundClauses d gs
    Sound d s (Trees.Set es) = AreSound d true es
    Sound d s (Trees.SetComp e gs) = Sound d false e × SoundClauses d gs
    Sound d s (Trees.Slice a b c) = SoundOptional d false a × SoundOptional d false b × SoundOptional d false c

    -- the values of an f-string, or of a format spec, in so many format specs
    pub SoundValues : Depth → ℕ → Exprs → Type 0
    SoundValues d n no_exprs = Unit {0}
    SoundValues d n (an_expr e es) = SoundValue d n e × SoundValues d n es

    pub SoundValue : Depth → ℕ → Expr → Type 0
    SoundValue d n (Trees.Constant (Values.Str t u)) = HasFormatted d n t
    SoundValue d n (Trees.FormattedValue e c s) = HasFields n × Sound (deeper d) false e × SoundSpec d (suc n) s
    SoundValue d n _ = ⊥

    pub SoundSpec : Depth → ℕ → OptionalExpr → Type 0
    SoundSpec d n absent = Unit {0}
    SoundSpec d n (present (Trees.JoinedStr es)) = SoundValues d n es
    SoundSpec d n _ = ⊥

    pub AreSound : Depth → Bool → Exprs → Type 0
    AreSound d s no_exprs = Unit {0}
    AreSound d s (an_expr e es) = Sound d s e × AreSound d s es

    pub SoundOptional : Depth → Bool → OptionalExpr → Type 0
    SoundOptional d s absent = Unit {0}
    SoundOptional d s (present e) = Sound d s e

    pub SoundOptionals : Depth → OptionalExprs → Type 0
    SoundOptionals d no_optional = Unit {0}
    SoundOptionals d (an_optional e es) = SoundOptional d false e × SoundOptionals d es

    pub SoundClauses : Depth → Comprehensions → Type 0
    SoundClauses d no_comprehension = Unit {0}
    SoundClauses d (a_comprehension t e cs b gs) = Sound d true t × Sound d false e × AreSound d false cs × SoundClauses d gs

    pub SoundKeywords : Depth → Keywords → Type 0
    SoundKeywords d no_keyword = Unit {0}
    SoundKeywords d (a_keyword None e ks) = Sound d false e × SoundKeywords d ks
    SoundKeywords d (a_keyword (Some x) e ks) = IsProper x × Sound d false e × SoundKeywords d ks

    pub SoundArgs : Depth → Args → Type 0
    SoundArgs d no_arg = Unit {0}
    SoundArgs d (an_arg (arg x a) rest) = IsProper x × SoundOptional d true a × SoundArgs d rest

    pub SoundArg : Depth → OptionalArg → Type 0
    SoundArg d absent_arg = Unit {0}
    SoundArg d (present_arg (arg x a)) = IsProper x × SoundOptional d true a

    pub SoundArguments : Depth → Arguments → Type 0
    SoundArguments d (arguments ps qs v ks kds k ds) = SoundArgs d ps × SoundArgs d qs × SoundArg d v × SoundArgs d ks × SoundOptionals d
        kds × SoundArg d k × AreSound d false ds

-- ---- What can be written at a place.

abbrev pub Writable : Place → Bool → Expr → Type 0
Writable place s e = Sound place.extent place.depth s e

abbrev pub AreWritable : Place → Bool → Exprs → Type 0
AreWritable place s es = AreSound place.extent place.depth s es

abbrev pub WritableOptional : Place → Bool → OptionalExpr → Type 0
WritableOptional place s e = SoundOptional place.extent place.depth s e

abbrev pub WritableOptionals : Place → OptionalExprs → Type 0
WritableOptionals place es = SoundOptionals place.extent place.depth es

abbrev pub WritableClauses : Place → Comprehensions → Type 0
WritableClauses place gs = SoundClauses place.extent place.depth gs

abbrev pub WritableKeywords : Place → Keywords → Type 0
WritableKeywords place ks = SoundKeywords place.extent place.depth ks

abbrev pub WritableArgs : Place → Args → Type 0
WritableArgs place ps = SoundArgs place.extent place.depth ps

abbrev pub WritableArg : Place → OptionalArg → Type 0
WritableArg place a = SoundArg place.extent place.depth a

abbrev pub WritableArguments : Place → Arguments → Type 0
WritableArguments place a = SoundArguments place.extent place.depth a
