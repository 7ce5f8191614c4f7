-- Where a list of terminals first has one that its own brackets and `lambda`s leave no place for: a colon or a `;` outside of them, or a
-- bracket that closes none.
--
-- Carries: Takes and the lists that take so, for the other files here.
use Rattle.std.proofs.Common.{◌≡◌, refl, ap, ◌∙◌, List, [], ◌∷◌, ◌++◌, Option, Some, None, append_assoc}
use Rattle.pylex_lexeme.specs.declared.kinds.Exact.TheVariants.{LPar, RPar, LSqb, RSqb, LBrace, RBrace, Colon, Semi}
use Rattle.pytoken.specs.declared.keywords.Keyword.TheVariants as Key
use Rattle.pytoken.specs.Terminals.{Terminal, Op, Word}
use Rattle.pygrammar.specs.Reader.{on_some}

-- what stands open: a bracket, or a `lambda` that waits for its colon
pub data Open : Type 0 where
  bracket : Open
  lambda : Open

-- what a terminal does to that
pub data Act : Type 0 where
  opens : Open → Act
  closes : Act
  colon : Act
  semicolon : Act
  plain : Act

abbrev pub act : Terminal → Act
act (Op LPar) = opens bracket
act (Op LSqb) = opens bracket
act (Op LBrace) = opens bracket
act (Op RPar) = closes
act (Op RSqb) = closes
act (Op RBrace) = closes
act (Op Colon) = colon
act (Op Semi) = semicolon
act (Word Key.Lambda) = opens lambda
act _ = plain

-- what stands open after it, innermost first; nothing is said where it has no place
abbrev pub after : Act → List Open → Option (List Open)
after (opens o) s = Some (o ∷ s)
after closes (bracket ∷ s) = Some s
after colon (bracket ∷ s) = Some (bracket ∷ s)
after colon (lambda ∷ s) = Some s
after plain s = Some s
after _ _ = None

-- the list from the first terminal on that has no place
abbrev pub left_of : List Open → List Terminal → List Terminal
left_of s [] = []
left_of s (t ∷ ts) = on_some (after (act t) s) (λ r. left_of r ts) (t ∷ ts)

-- each terminal of a list has its place, and what stood open before the list is now other
pub record Takes (s r : List Open) (ts : List Terminal) : Type 0 where
  pub goes : (us : List Terminal) → left_of s (ts ++ us) ≡ left_of r us

pub none : {s : List Open} → Takes s s []
none = record { goes = λ us. refl }

-- one terminal more in front
pub one : {s r q : List Open} {ts : List Terminal} (t : Terminal) → after (act t) s ≡ Some r → Takes r q ts → Takes s q (t ∷ ts)
one {ts = ts} t h p = record { goes = λ us. ap (λ o. on_some o (λ z. left_of z (ts ++ us)) (t ∷ (ts ++ us))) h ∙ p.goes us }

pub join : {s r q : List Open} {ts us : List Terminal} → Takes s r ts → Takes r q us → Takes s q (ts ++ us)
join {s} {ts = ts} {us = us} p q = record { goes = λ ws. ap (left_of s) (append_assoc ts us ws) ∙ (p.goes (us ++ ws) ∙ q.goes ws) }

-- a terminal that opens and closes nothing
pub neutral : {s q : List Open} {ts : List Terminal} (t : Terminal) → act t ≡ plain → Takes s q ts → Takes s q (t ∷ ts)
neutral {s} t h p = one t (ap (λ a. after a s) h) p

-- and between two lists
pub between : {s r q : List Open} {ts us : List Terminal} (t : Terminal) → act t ≡ plain →
    Takes s r ts → Takes r q us → Takes s q (ts ++ (t ∷ us))
between t h p q = join p (neutral t h q)

-- a colon in a bracket
pub colon_inside : {s q : List Open} {ts : List Terminal} → Takes (bracket ∷ s) q ts → Takes (bracket ∷ s) q (Op Colon ∷ ts)
colon_inside p = one (Op Colon) refl p

-- the closing brackets
pub round_end : {s : List Open} → Takes (bracket ∷ s) s (Op RPar ∷ [])
round_end = one (Op RPar) refl none

pub square_end : {s : List Open} → Takes (bracket ∷ s) s (Op RSqb ∷ [])
square_end = one (Op RSqb) refl none

pub curly_end : {s : List Open} → Takes (bracket ∷ s) s (Op RBrace ∷ [])
curly_end = one (Op RBrace) refl none
