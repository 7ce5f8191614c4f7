-- Completeness for imports and lists of names.
--
-- Carries: identifiers_goes, modules_goes, from_module_goes, from_dots_goes, for Simple. On: Tools.
use Rattle.std.proofs.Common.{◌≡◌, refl, ap, ◌∙◌, ℕ, zero, suc, ◌<◌, arith, List, [], ◌∷◌, ◌++◌, length, Option, Some, None, true}
use Rattle.std.proofs.Common.{append_assoc}
use Rattle.std.proofs.lemmas.Bool.{le-leb}
use Rattle.std.specs.Prelude.{leb}
use Rattle.pylex_lexeme.specs.declared.kinds.Exact.TheVariants as Sign
use Rattle.pytoken.specs.declared.keywords.Keyword.TheVariants as Key
use Rattle.pytree_node.specs.Trees.{Identifier, Alias, ImportFrom}
use Rattle.pytoken.specs.Terminals.{Terminal, Op, Word}
use Rattle.pygrammar.specs.Looks.{is_op, is_word}
use Rattle.pygrammar.specs.Reader.{Found}
use Rattle.pygrammar.specs.Forms as F
use Rattle.pygrammar.specs.LineReader.{starts_name, always, commas_of, read_name, dotted, read_dotted, dotted_alias, name_alias, read_dots}
use Rattle.pygrammar.specs.LineReader.{read_names, import_from}
use Rattle.pygrammar.proofs.Line.Tools.{thus, when, peek, missed, as_goes, commas_goes, commas?_goes}

abbrev pub Any : List Terminal → Type 0
Any r = Unit {0}

name_goes : (ts : List Terminal) (x : Identifier) → F.Name ts x → (r : List Terminal) → Any r → read_name (ts ++ r) ≡ Found x r
name_goes ts x F.name r g = refl

pub identifiers_goes : {ts : List Terminal} {xs : List Identifier} → F.Commas Identifier F.Name ts xs → (r : List Terminal)
    → peek (is_op Sign.Comma) r ≡ None → commas_of read_name always (ts ++ r) ≡ Found xs r
identifiers_goes c r h = commas_goes Identifier F.Name read_name always Any name_goes (λ ts a x r. refl) (λ r. tt) c r h tt

dotted_goes : (n : ℕ) {ts : List Terminal} {x : Identifier} → F.Dotted ts x → (r : List Terminal) → peek (is_op Sign.Dot) r ≡ None
    → length (ts ++ r) < n → dotted n (ts ++ r) ≡ Found x r
dotted_goes zero c r h l = absurd (omega (arith, l))
dotted_goes (suc m) F.one_name r h l = missed (is_op Sign.Dot) r _ _ h
dotted_goes (suc m) (F.dot_name {ts = ts} c) r h l = thus _ _ (dotted_goes m c r h (omega (arith, l))) refl

pub read_dotted_goes : {ts : List Terminal} {x : Identifier} → F.Dotted ts x → (r : List Terminal) → peek (is_op Sign.Dot) r ≡ None
    → read_dotted (ts ++ r) ≡ Found x r
read_dotted_goes {ts} c r h = dotted_goes (suc (length (ts ++ r))) c r h (omega arith)

-- after a name that may have `as`
abbrev pub Unnamed : List Terminal → Type 0
Unnamed r = (peek (is_op Sign.Dot) r ≡ None) × (peek (is_word Key.As) r ≡ None)

as_no_dot : {us : List Terminal} {a : Option Identifier} → F.As us a → (r : List Terminal) → peek (is_op Sign.Dot) r ≡ None
    → peek (is_op Sign.Dot) (us ++ r) ≡ None
as_no_dot F.no_as r h = h
as_no_dot F.as_name r h = refl

dotted_alias_goes : (ts : List Terminal) (x : Alias) → F.DottedAlias ts x → (r : List Terminal) → Unnamed r
    → dotted_alias (ts ++ r) ≡ Found x r
dotted_alias_goes _ _ (F.dotted_as {ts = ts} {us = us} d a) r g = ap dotted_alias (append_assoc ts us r)
    ∙ thus _ _ (read_dotted_goes d (us ++ r) (as_no_dot a r g.0)) (thus _ _ (as_goes a r g.1) refl)

pub modules_goes : {ts : List Terminal} {xs : List Alias} → F.Commas Alias F.DottedAlias ts xs → (r : List Terminal)
    → peek (is_op Sign.Comma) r ≡ None → Unnamed r → commas_of dotted_alias always (ts ++ r) ≡ Found xs r
modules_goes c r h g = commas_goes Alias F.DottedAlias dotted_alias always Unnamed dotted_alias_goes (λ ts a x r. refl)
    (λ r. (refl, refl)) c r h g

name_alias_goes : (ts : List Terminal) (x : Alias) → F.NameAlias ts x → (r : List Terminal) → Unnamed r → name_alias (ts ++ r) ≡ Found x r
name_alias_goes _ _ (F.name_as a) r g = thus _ _ (as_goes a r g.1) refl

name_starts : (ts : List Terminal) (x : Alias) → F.NameAlias ts x → (r : List Terminal) → starts_name (ts ++ r) ≡ true
name_starts _ _ (F.name_as a) r = refl

aliases_goes : {ts : List Terminal} {xs : List Alias} → F.Commas Alias F.NameAlias ts xs → (r : List Terminal)
    → peek (is_op Sign.Comma) r ≡ None → Unnamed r → commas_of name_alias always (ts ++ r) ≡ Found xs r
aliases_goes c r h g = commas_goes Alias F.NameAlias name_alias always Unnamed name_alias_goes (λ ts a x r. refl)
    (λ r. (refl, refl)) c r h g

names_goes : {ts : List Terminal} {xs : List Alias} → F.Names ts xs → (r : List Terminal) → peek (is_op Sign.Comma) r ≡ None → Unnamed r
    → read_names (ts ++ r) ≡ Found xs r
names_goes F.all_names r h g = refl
names_goes (F.names (F.alone (F.name_as {x = x} a))) r h g = aliases_goes (F.alone (F.name_as {x = x} a)) r h g
names_goes (F.names (F.comma (F.name_as {x = x} a) c)) r h g = aliases_goes (F.comma (F.name_as {x = x} a) c) r h g
names_goes (F.bracketed_names {ts = ts} c) r h g = thus (commas_of name_alias starts_name ((ts ++ (Op Sign.RPar ∷ [])) ++ r)) _
    (ap (commas_of name_alias starts_name) (append_assoc ts (Op Sign.RPar ∷ []) r) ∙ commas?_goes Alias F.NameAlias name_alias starts_name
    Unnamed name_alias_goes name_starts (λ r. (refl, refl)) c (Op Sign.RPar ∷ r) refl refl (refl, refl)) refl

dots_goes : {ts : List Terminal} {n : ℕ} → F.Dots ts n → (r : List Terminal) → read_dots r ≡ Found 0 r → read_dots (ts ++ r) ≡ Found n r
dots_goes F.no_dot r h = h
dots_goes (F.dot d) r h = thus _ _ (dots_goes d r h) refl
dots_goes (F.dots d) r h = thus _ _ (dots_goes d r h) refl

dotted_no_dots : {ts : List Terminal} {x : Identifier} → F.Dotted ts x → (r : List Terminal) → read_dots (ts ++ r) ≡ Found 0 (ts ++ r)
dotted_no_dots F.one_name r = refl
dotted_no_dots (F.dot_name d) r = refl

dotted_no_import : {ts : List Terminal} {x : Identifier} → F.Dotted ts x → (r : List Terminal) → peek (is_word Key.Import) (ts ++ r) ≡ None
dotted_no_import F.one_name r = refl
dotted_no_import (F.dot_name d) r = refl

from_shape : (ts us vs r : List Terminal) (t : Terminal) → (ts ++ (us ++ (t ∷ vs))) ++ r ≡ ts ++ (us ++ (t ∷ (vs ++ r)))
from_shape ts us vs r t = simp append_assoc refl

pub from_module_goes : {ts us vs : List Terminal} {n : ℕ} {m : Identifier} {xs : List Alias} → F.Dots ts n → F.Dotted us m → F.Names vs xs
    → (r : List Terminal) → peek (is_op Sign.Comma) r ≡ None → Unnamed r → import_from ((ts ++ (us ++ (Word Key.Import ∷ vs))) ++ r) ≡ Found
    (ImportFrom (Some m) xs n) r
from_module_goes {ts} {us} {vs} d p q r h g =
    let z = Word Key.Import ∷ (vs ++ r) in
    ap import_from (from_shape ts us vs r (Word Key.Import)) ∙ thus _ _ (dots_goes d (us ++ z) (dotted_no_dots p z))
    (missed (is_word Key.Import) (us ++ z) _ _ (dotted_no_import p z)
    ∙ thus _ _ (read_dotted_goes p z refl) (thus _ _ (names_goes q r h g) refl))

pub from_dots_goes : {ts vs : List Terminal} {n : ℕ} {xs : List Alias} → F.Dots ts n → 0 < n → F.Names vs xs → (r : List Terminal)
    → peek (is_op Sign.Comma) r ≡ None → Unnamed r → import_from ((ts ++ (Word Key.Import ∷ vs)) ++ r) ≡ Found (ImportFrom None xs n) r
from_dots_goes {ts} {vs} {n} d w q r h g = ap import_from (append_assoc ts (Word Key.Import ∷ vs) r)
    ∙ thus _ _ (dots_goes d (Word Key.Import ∷ (vs ++ r)) refl) (when (leb 1 n) _ _ (le-leb 1 n (omega (arith, w)))
    (thus _ _ (names_goes q r h g) refl))
