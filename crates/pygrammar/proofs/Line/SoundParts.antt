-- What the reader answers has a form: tools, lists with commas, imports.
--
-- Carries: headed, joins, plain_sound and 12 more, for SoundSimple, SoundLines, With.
-- On: Says, SoundLists, Soundness/Sound.
use Rattle.std.proofs.Common.{◌≡◌, refl, sym, ap, subst, ◌∙◌, ℕ, zero, suc, arith, List, [], ◌∷◌, ◌++◌, length, Option, Some, None, Bool}
use Rattle.std.proofs.Common.{true, false, cond, append_assoc}
use Rattle.std.proofs.lemmas.Bool.{leb-true}
use Rattle.std.specs.Prelude.{leb}
use Rattle.std.specs.Str.{bytes_eq}
use Rattle.std.proofs.lemmas.Slice.Eq.{bytes_eq-Decides}
use Rattle.pylex_lexeme.specs.declared.kinds.Exact.{Exact}
use Rattle.pytoken.specs.declared.keywords.Keyword.{Keyword}
use Rattle.pylex_lexeme.specs.declared.kinds.Exact.TheVariants as Sign
use Rattle.pytoken.specs.declared.keywords.Keyword.TheVariants as Key
use Rattle.pytree_node.specs.declared.profiles.Profile.{Profile}
use Rattle.pygrammar.specs.declared.levels.Level.{Level}
use Rattle.pygrammar.specs.declared.levels.Level.TheVariants.{Expression}
use Rattle.pytoken.specs.Terminals.{Spelled, Terminal, Op, Word, Ident}
use Rattle.pygrammar.specs.Entries.{Of}
use Rattle.pygrammar.specs.Reader.{Answer}
use Rattle.pygrammar.specs.Precedence.{starts}
use Rattle.pygrammar.proofs.Soundness.Says.{Says, found, no_form, says_then, says_first, says_op, says_word, says_name, says_cond, says_is}
use Rattle.pygrammar.proofs.Soundness.Says.{SoundAt}
use Rattle.pygrammar.proofs.Soundness.Sound.{sound_read}
use Rattle.pygrammar.proofs.Soundness.SoundLists.{says_if, says_closed}
use Rattle.pytree_node.specs.Trees.{Alias, Identifier, TypeParam}
use Rattle.pygrammar.specs.Forms as F
use Rattle.pygrammar.specs.Forms.{type_name, type_word}
use Rattle.pytree_node.specs.Profiles.{has_types}
use Rattle.pygrammar.specs.LineReader.{is_type, on_type, starts_name, starts_type_param, always, commas, read_name, read_as, dotted}
use Rattle.pygrammar.specs.LineReader.{dotted_alias, name_alias, read_dots, read_names, import_from, plain, if_any, after, read_type_param}
use Rattle.pygrammar.specs.LineReader.{read_type_params}

pub plain_sound : SoundAt plain
plain_sound l i = sound_read (suc (length i)) l i

-- a part at the front
abbrev pub At : {A : Type 0} → (List Terminal → A → Type 0) → List Terminal → A → List Terminal → Type 0
At X i a r = (ts : List Terminal) × (i ≡ ts ++ r) × X ts a

pub headed : {i s m : List Terminal} (t : Terminal) → i ≡ t ∷ s → s ≡ m → i ≡ t ∷ m
headed t q p = q ∙ ap (λ z. t ∷ z) p

pub joins : {i m : List Terminal} (ts us r : List Terminal) → i ≡ ts ++ m → m ≡ us ++ r → i ≡ (ts ++ us) ++ r
joins ts us r q p = q ∙ (ap (λ z. ts ++ z) p ∙ sym (append_assoc ts us r))

-- lists with commas
module _ (A : Type 0) (X : List Terminal → A → Type 0) (one : List Terminal → Answer A) (all : (i : List Terminal)
    → Says (At X i) (one i)) where
  pub always_sound : (n : ℕ) (i : List Terminal) → Says (At (F.Commas A X) i) (commas one always n i)
  always_sound zero i = no_form
  always_sound (suc n) i = says_then _ _ (all i) (λ a r p. says_op Sign.Comma r _ _
      (λ _ s q. says_then _ _ (always_sound n s) (λ as_ r2 y. found (
        p.0 ++ (Op Sign.Comma ∷ y.0),
        joins p.0 (Op Sign.Comma ∷ y.0) _ p.1 (headed (Op Sign.Comma) q y.1),
        F.comma p.2 y.2,
      )))
      (λ _. found (p.0, p.1, F.alone p.2)))

  add_first : {ts us : List Terminal} {a : A} {as_ : List A} → X ts a → F.Commas? A X us as_
      → F.Commas? A X (ts ++ (Op Sign.Comma ∷ us)) (a ∷ as_)
  add_first x (F.ends_bare c) = F.ends_bare (F.comma x c)
  add_first {ts} {us} {a} {as_} x (F.ends_comma {ts = vs} c) =
      subst (λ z. F.Commas? A X z (a ∷ as_)) (append_assoc ts (Op Sign.Comma ∷ vs) (Op Sign.Comma ∷ [])) (F.ends_comma (F.comma x c))

  pub more_sound : (more : List Terminal → Bool) (n : ℕ) (i : List Terminal) → Says (At (F.Commas? A X) i) (commas one more n i)
  more_sound more zero i = no_form
  more_sound more (suc n) i = says_then _ _ (all i) (λ a r p. says_op Sign.Comma r _ _
      (λ _ s q. says_cond (more s) _ _
      (says_then _ _ (more_sound more n s)
      (λ as_ r2 y. found (
        p.0 ++ (Op Sign.Comma ∷ y.0),
        joins p.0 (Op Sign.Comma ∷ y.0) _ p.1 (headed (Op Sign.Comma) q y.1),
        add_first p.2 y.2,
      )))
      (found (p.0 ++ (Op Sign.Comma ∷ []), joins p.0 (Op Sign.Comma ∷ []) _ p.1 q, F.ends_comma (F.alone p.2))))
      (λ _. found (p.0, p.1, F.ends_bare (F.alone p.2))))

-- parts with an expression
pub if_any_sound : (l : Level) (i : List Terminal) → Says (At (F.Perhaps l) i) (if_any plain l i)
if_any_sound l i = says_cond (starts (Of l) i) _ _ (says_then _ _ (plain_sound l i) (λ e r p. found (p.0, p.1, F.given p.2)))
    (found ([], refl, F.left_out))

pub after_op_sound : (x : Exact) (l : Level) (i : List Terminal) → Says (At (F.Following (Op x) l) i) (after plain (Op x) l i)
after_op_sound x l i =
    says_op x i _ _ (λ _ s q. says_then _ _ (plain_sound l s) (λ e r p. found (Op x ∷ p.0, headed (Op x) q p.1, F.following p.2)))
    (λ _. found ([], refl, F.none_after))

pub after_word_sound : (x : Keyword) (l : Level) (i : List Terminal) → Says (At (F.Following (Word x) l) i) (after plain (Word x) l i)
after_word_sound x l i =
    says_word x i _ _ (λ _ s q. says_then _ _ (plain_sound l s) (λ e r p. found (Word x ∷ p.0, headed (Word x) q p.1, F.following p.2)))
    (λ _. found ([], refl, F.none_after))

pub as_sound : (i : List Terminal) → Says (At F.As i) (read_as i)
as_sound i = says_word Key.As i _ _
    (λ _ s q. says_name s _ _ (λ x u v. found (Word Key.As ∷ (Ident x ∷ []), headed (Word Key.As) q v, F.as_name)) no_form)
    (λ _. found ([], refl, F.no_as))

pub name_sound : (i : List Terminal) → Says (At F.Name i) (read_name i)
name_sound i = says_name i _ _ (λ x s q. found (Ident x ∷ [], q, F.name)) no_form

-- parameters of types
type_param_sound : (i : List Terminal) → Says (At F.TypeParamOf i) (read_type_param plain i)
type_param_sound i =
    says_name i _ _ (λ x s q. says_then _ _ (after_op_sound Sign.Colon Expression s)
    (λ b r p. found (Ident x ∷ p.0, headed (Ident x) q p.1, F.type_var p.2)))
    (says_op Sign.Star i _ _ (λ _ s q. says_name s _ _ (λ x u v. found (
      Op Sign.Star ∷ (Ident x ∷ []),
      headed (Op Sign.Star) q v,
      F.type_var_tuple,
    )) no_form) (λ _.
    says_op Sign.DoubleStar i _ _
    (λ _ s q. says_name s _ _ (λ x u v. found (Op Sign.DoubleStar ∷ (Ident x ∷ []), headed (Op Sign.DoubleStar) q v, F.param_spec))
    no_form) (λ _. no_form)))

pub type_params_sound : (profile : Profile) (i : List Terminal) → Says (At (F.TypeParams profile) i) (read_type_params profile plain i)
type_params_sound profile i = says_if (has_types profile) _ _ (λ h. says_op Sign.LSqb i _ _
    (λ _ s q. says_then _ _ (more_sound TypeParam F.TypeParamOf (read_type_param plain) type_param_sound starts_type_param (suc (length s))
    s) (λ ps r p. says_closed Sign.RSqb r ps (λ r1 v. (
      Op Sign.LSqb ∷ (p.0 ++ (Op Sign.RSqb ∷ [])),
      headed (Op Sign.LSqb) q (joins p.0 (Op Sign.RSqb ∷ []) _ p.1 v),
      F.type_params h p.2,
    ))))
    (λ _. found ([], refl, F.no_type_params))) (found ([], refl, F.no_type_params))

pub type_is : (t : Terminal) (n : ℕ) → is_type t ≡ Some n → (form : Identifier) × (t ≡ type_word form)
type_is (Ident x) n h = (x.form, go (bytes_eq x.spelling type_name) refl h)
  where
    go : (b : Bool) → bytes_eq x.spelling type_name ≡ b → ◌≡◌ {A = Option ℕ} (cond b (Some 0) None) (Some n) → Ident x ≡ type_word x.form
    go true q h = ap (λ z. Ident (record { spelling = z; form = x.form })) ((bytes_eq-Decides x.spelling type_name).0 q)
    go false q h = absurd (cc)
type_is _ n h = absurd (cc)

pub says_type : {B : Type 0} {Q : B → List Terminal → Type 0} (profile : Profile) (i : List Terminal) (hit : List ℕ → List Terminal
    → Answer B) (miss : Answer B) → ((form : Identifier) (x : Spelled) (r : List Terminal) → has_types profile ≡ true
    → i ≡ type_word form ∷ (Ident x ∷ r) → Says Q (hit x.form r)) → Says Q miss → Says Q (on_type profile i hit miss)
says_type profile i hit miss h g =
    says_if (has_types profile) _ _
    (λ k. says_first is_type i _ _ (λ t n s e q. says_name s _ _ (λ x r v. let w = type_is t n e in
    h w.0 x r k (headed (type_word w.0) (q ∙ ap (λ z. z ∷ s) w.1) v)) g) (λ _. g)) g

-- imports
dotted_sound : (n : ℕ) (i : List Terminal) → Says (At F.Dotted i) (dotted n i)
dotted_sound zero i = no_form
dotted_sound (suc n) i = says_name i _ _ (λ x s q. says_op Sign.Dot s _ _
    (λ _ u v. says_then _ _ (dotted_sound n u)
    (λ y r p. found (Ident x ∷ (Op Sign.Dot ∷ p.0), headed (Ident x) q (headed (Op Sign.Dot) v p.1), F.dot_name p.2)))
    (λ _. found (Ident x ∷ [], q, F.one_name))) no_form

pub dotted_alias_sound : (i : List Terminal) → Says (At F.DottedAlias i) (dotted_alias i)
dotted_alias_sound i =
    says_then _ _ (dotted_sound (suc (length i)) i)
    (λ x r p. says_then _ _ (as_sound r) (λ a r1 y. found (p.0 ++ y.0, joins p.0 y.0 _ p.1 y.1, F.dotted_as p.2 y.2)))

name_alias_sound : (i : List Terminal) → Says (At F.NameAlias i) (name_alias i)
name_alias_sound i =
    says_name i _ _ (λ x s q. says_then _ _ (as_sound s) (λ a r1 y. found (Ident x ∷ y.0, headed (Ident x) q y.1, F.name_as y.2))) no_form

dots_sound : (i : List Terminal) → Says (At F.Dots i) (read_dots i)
dots_sound (Op Sign.Dot ∷ r) = says_then _ _ (dots_sound r) (λ n r1 p. found (Op Sign.Dot ∷ p.0, ap (λ z. Op Sign.Dot ∷ z) p.1, F.dot p.2))
dots_sound (Op Sign.Ellipsis ∷ r) =
    says_then _ _ (dots_sound r) (λ n r1 p. found (Op Sign.Ellipsis ∷ p.0, ap (λ z. Op Sign.Ellipsis ∷ z) p.1, F.dots p.2))
dots_sound (Op _ ∷ r) = found ([], refl, F.no_dot)
dots_sound r = found ([], refl, F.no_dot)

names_sound : (i : List Terminal) → Says (At F.Names i) (read_names i)
names_sound i =
    says_op Sign.Star i _ _ (λ _ s q. found (Op Sign.Star ∷ [], q, F.all_names)) (λ _.
    says_op Sign.LPar i _ _ (λ _ s q. says_then _ _ (more_sound Alias F.NameAlias name_alias name_alias_sound starts_name (suc (length s))
    s) (λ as_ r1 p. says_closed Sign.RPar r1 as_ (λ r2 v. (
      Op Sign.LPar ∷ (p.0 ++ (Op Sign.RPar ∷ [])),
      headed (Op Sign.LPar) q (joins p.0 (Op Sign.RPar ∷ []) _ p.1 v),
      F.bracketed_names p.2,
    )))) (λ _.
    says_is _ (always_sound Alias F.NameAlias name_alias name_alias_sound (suc (length i)) i) (λ as_ r p. (p.0, p.1, F.names p.2))))

pub import_from_sound : {profile : Profile} (i : List Terminal)
    → Says (λ s r. (ts : List Terminal) × (i ≡ ts ++ r) × F.Simple profile (Word Key.From ∷ ts) s) (import_from i)
import_from_sound i = says_then _ _ (dots_sound i) (λ n r p.
    says_word Key.Import r _ _
    (λ _ r1 q. says_if (leb 1 n) _ _
    (λ h. says_then _ _ (names_sound r1) (λ as_ r2 y. found (
      p.0 ++ (Word Key.Import ∷ y.0),
      joins p.0 (Word Key.Import ∷ y.0) _ p.1 (headed (Word Key.Import) q y.1),
      F.from_dots p.2 (omega (arith, leb-true 1 n h)) y.2,
    )))
    no_form) (λ _.
    says_then _ _ (dotted_sound (suc (length r)) r)
    (λ m r1 d. says_word Key.Import r1 _ _
    (λ _ r2 q. says_then _ _ (names_sound r2) (λ as_ r3 y. found (
      p.0 ++ (d.0 ++ (Word Key.Import ∷ y.0)),
      joins p.0 (d.0 ++ (Word Key.Import ∷ y.0)) _ p.1 (joins d.0 (Word Key.Import ∷ y.0) _ d.1 (headed (Word Key.Import) q y.1)),
      F.from_module p.2 d.2 y.2,
    ))) (λ _. no_form))))
