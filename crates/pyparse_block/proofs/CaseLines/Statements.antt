-- A simple statement has the place of each of its colons in its own brackets and `lambda`s, but for the one in front of an annotation.
--
-- Carries: Stated, FirstStatement, first_statement, for Law. On: Machine, Signs, Expressions.
use Rattle.std.proofs.Common.{◌≡◌, refl, sym, List, [], ◌∷◌, ◌++◌, Bool, true, false}
use Rattle.std.proofs.lemmas.List.{append-nil}
use Rattle.pylex_lexeme.specs.declared.kinds.Exact.TheVariants.{Colon, Semi, Equal}
use Rattle.pytree_node.specs.declared.profiles.Profile.{Profile}
use Rattle.pytree_node.specs.Trees.{Expr, Stmt}
use Rattle.pytoken.specs.Terminals.{Terminal, Spelled, Op, Ident}
use Rattle.pygrammar.specs.Grammar as G
use Rattle.pygrammar.specs.Forms as F
use Rattle.pygrammar.specs.Forms.{is_name, begins_case}
use Rattle.pyparse_block.proofs.CaseLines.Machine.{Takes, none, join, between}
use Rattle.pyparse_block.proofs.CaseLines.Signs.{augmented_plain}
use Rattle.pyparse_block.proofs.CaseLines.Expressions.{expression}

-- what a simple statement is as to its first colon
pub data Stated : List Terminal → Type 0 where
  placed : {ts : List Terminal} → Takes [] [] ts → Stated ts
  after_name : {x : Spelled} {us : List Terminal} → Stated (Ident x ∷ (Op Colon ∷ us))
  after_part : {ts : List Terminal} {t : Expr} (us : List Terminal) → G.SingleTarget ts t → is_name t ≡ false →
      Stated (ts ++ (Op Colon ∷ us))
  other_word : {ts : List Terminal} → ((us : List Terminal) → begins_case (ts ++ us) ≡ false) → Stated ts

targets : {ts : List Terminal} {es : List Expr} → F.Targets ts es → Takes [] [] ts
targets (F.last_target (G.target p q)) = between (Op Equal) refl (expression [] p) none
targets (F.more_targets (G.target p q) c) = between (Op Equal) refl (expression [] p) (targets c)

simple : {profile : Profile} {ts : List Terminal} {s : Stmt} → F.Simple profile ts s → Stated ts
simple (F.value p) = placed (expression [] p)
simple (F.assign c p) = placed (join (targets c) (expression [] p))
simple (F.augmented_assign x (G.single_target p q) h v) = placed (between (Op x) (augmented_plain x h) (expression [] p) (expression [] v))
simple (F.annotated_name p q) = after_name
simple (F.annotated_part {us = us} {vs = vs} t n p q) = after_part (us ++ vs) t n
simple _ = other_word (λ us. refl)

-- what may follow a simple statement
abbrev pub parts : List Terminal → Bool
parts [] = true
parts (Op Semi ∷ us) = true
parts _ = false

-- the first simple statement of a line
pub record FirstStatement (ts : List Terminal) : Type 0 where
  pub front : List Terminal
  pub rest : List Terminal
  pub whole : ts ≡ front ++ rest
  pub stated : Stated front
  pub parted : parts rest ≡ true

pub first_statement : {profile : Profile} {ts : List Terminal} {ss : List Stmt} → F.Simples profile ts ss → FirstStatement ts
first_statement (F.last_simple {ts = ts} p) =
    record { front = ts; rest = []; whole = sym (append-nil ts); stated = simple p; parted = refl }
first_statement (F.ended_simple {ts = ts} p) =
    record { front = ts; rest = Op Semi ∷ []; whole = refl; stated = simple p; parted = refl }
first_statement (F.more_simples {ts = ts} {us = us} p c) =
    record { front = ts; rest = Op Semi ∷ us; whole = refl; stated = simple p; parted = refl }
