-- The loop over parameters with commas between them, and `lambda`.
--
-- Carries: parameters, lambda_step, lambda_body, finish_lambda. On: Reading, Formals, SignatureHeights.
use Rattle.std.proofs.Common.{◌≡◌, refl, sym, ap, ◌∙◌, arith, ℕ, zero, suc, ◌+◌, ◌≤◌, ◌<◌, max, List, [], ◌∷◌, ◌++◌, length, Option, Some}
use Rattle.std.proofs.Common.{None, Bool, true, false, cond, subst, Result, Ok, Err}
use Rattle.pylex_lexeme.specs.declared.kinds.Exact.TheVariants.{Colon, Comma}
use Rattle.pytree_node.specs.Trees
use Rattle.pytree_node.specs.Trees.{Expr, Arguments}
use Rattle.pytree_node.specs.TreeOf.{tree_of}
use Rattle.pytoken.specs.Terminals.{Terminal, Op}
use Rattle.pytoken.specs.declared.values.terminals.Terminal as given
use Rattle.pygrammar.specs.declared.levels.Level.TheVariants as level
use Rattle.pygrammar.specs.Entries.{Entry, Parameter}
use Rattle.pygrammar.specs.Parameters.{arranged}
use Rattle.pygrammar.specs.Looks.{is_op}
use Rattle.pygrammar.specs.Precedence.{starts}
use Rattle.pygrammar.specs.Reader.{Answer, Found, NoForm, and_then, on_first, made, lambda_of, lambda_step, listing_loop, listing_of, piece}
use Rattle.pygrammar.specs.Reader.{read_parameter}
use Rattle.pygrammar.specs.Capped.{cap}
use Rattle.pyparse_reads.specs.declared.depth.Depth.{Depth}
use Rattle.pyparse_nodes.specs.declared.found.Read.{Read}
use Rattle.pyparse_expr.specs.declared.signatures.ReadParameter.{ReadParameter}
use Rattle.pyparse_expr.specs.declared.signatures.Signature.{Signature}
use Rattle.pyparse_nodes.specs.declared.stop.Stop.{Stop}
use Rattle.pyparse_nodes.specs.declared.stop.Stop.TheVariants as stop
use Rattle.pyparse_nodes.specs.Answers.{Answered, Failed, FoundAt, Makes}
use Rattle.pyparse_expr.specs.Inner.FormalHeights.{entry_height, entry_heights}
use Rattle.pyparse_nodes.specs.Formals.{State, start, step, steps, outcome}
use Rattle.pyparse_nodes.specs.FormalStates.{IsDisarranged, state_of, entry_of}
use Rattle.pyparse_expr.specs.Inner.Readings.{inner_reads}
use Rattle.pyparse_expr.specs.Inner.Signatures.{IsTall, LambdaUnmade, MakesLambda, ParameterAt, SignatureAt, body_reads}
use Rattle.pyparse_nodes.specs.Views.{Stands, seen, first_is}
use Rattle.pyparse_expr.proofs.FormalParameters.Formals.{arranged_steps}
use Rattle.pyparse_expr.proofs.Reader.Reading.{earlier, failed_cap, failed_then, first_miss, node, seen_length}
use Rattle.pyparse_expr.proofs.FormalParameters.SignatureHeights.{arranged_height, entry_heights_more}

abbrev pub loop : Depth → Bool → ℕ → List Entry → List Terminal → Answer (List Entry)
loop d b m acc r = listing_loop (piece (inner_reads d) (Parameter b)) (Parameter b) m acc r

abbrev pub listed : Depth → Bool → List Terminal → Answer (List Entry)
listed d b r = listing_of (inner_reads d) (Parameter b) [] r

-- how far the loop has come
pub record Parameters (ts : List given.Terminal) (d : Depth) (b : Bool) (x : Answer (List Entry)) (s : Signature) : Type 0 where
  pub within : s.next ≤ length ts
  pub low : s.height ≤ d.room
  pub most : ℕ
  pub enough : length (seen ts s.next) ≤ most
  pub entries : List Entry
  pub is : x ≡ loop d b most entries (seen ts s.next)
  pub state : state_of s.formal ≡ steps start entries
  pub tall : s.height ≡ entry_heights entries

pub parameters_start : (ts : List given.Terminal) (d : Depth) (b : Bool) (at : ℕ) (s : Signature) → at ≤ length ts
    → state_of s.formal ≡ start → s.height ≡ 0 → s.next ≡ at → Parameters ts d b (listed d b (seen ts at)) s
parameters_start ts d b at s w f h n = record {
  within = omega arith;
  low = omega arith;
  most = length (seen ts s.next);
  enough = omega arith;
  entries = [];
  is = ap (λ k. listed d b (seen ts k)) (sym n);
  state = f;
  tall = h;
}

-- one more entry
steps_more : (s : State) (es : List Entry) (e : Entry) → steps s (es ++ (e ∷ [])) ≡ step (steps s es) e
steps_more s [] e = refl
steps_more s (x ∷ es) e = steps_more (step s x) es e

loop_stops : (d : Depth) (b : Bool) (m : ℕ) (acc : List Entry) (r : List Terminal) → starts (Parameter b) r ≡ false
    → loop d b m acc r ≡ Found acc r
loop_stops d b zero acc r h = refl
loop_stops d b (suc m) acc r h =
    ap (λ c. cond c (and_then (read_parameter (inner_reads d) b r)
    (λ e r1. on_first (is_op Comma) r1 (λ _ r2. loop d b m (acc ++ (e ∷ [])) r2) (Found (acc ++ (e ∷ [])) r1))) (Found acc r)) h

abbrev turned : Depth → Bool → ℕ → List Entry → List Terminal → Answer (List Entry)
turned d b m acc r = on_first (is_op Comma) r (λ _ s. loop d b m acc s) (Found acc r)

loop_turn : (d : Depth) (b : Bool) (m : ℕ) (acc : List Entry) (r : List Terminal) → starts (Parameter b) r ≡ true
    → loop d b (suc m) acc r ≡ and_then (read_parameter (inner_reads d) b r) (λ e s. turned d b m (acc ++ (e ∷ [])) s)
loop_turn d b m acc r h =
    ap (λ c. cond c (and_then (read_parameter (inner_reads d) b r) (λ e s. turned d b m (acc ++ (e ∷ [])) s)) (Found acc r)) h

some_left : (b : Bool) (r : List Terminal) → starts (Parameter b) r ≡ true → 0 < length r
some_left b [] h = absurd (cc)
some_left b (t ∷ r) h = omega arith

-- annotations change nothing of where one starts
starts_same : (b : Bool) (r : List Terminal) → starts (Parameter b) r ≡ starts (Parameter true) r
starts_same true r = refl
starts_same false [] = refl
starts_same false (t ∷ r) = refl

module _ (ts : List given.Terminal) (d : Depth) (b : Bool) (x : Answer (List Entry)) (s : Signature) (c : Parameters ts d b x s) where
  pub parameters_end : (least : ℕ) → false ≡ starts (Parameter true) (seen ts s.next) → least ≤ s.next → SignatureAt ts d.room least x s
  parameters_end least n le = record {
    ahead = le;
    within = c.within;
    low = c.low;
    entries = c.entries;
    is = c.is ∙ loop_stops d b c.most c.entries (seen ts s.next) (starts_same b (seen ts s.next) ∙ sym n);
    state = c.state;
    tall = c.tall;
  }

  pub parameters_error : (e : Stop) → true ≡ starts (Parameter true) (seen ts s.next)
      → Failed e (read_parameter (inner_reads d) b (seen ts s.next)) → Failed e x
  parameters_error e h f = go c.most c.enough c.is
    where
      n : starts (Parameter b) (seen ts s.next) ≡ true
      n = starts_same b (seen ts s.next) ∙ sym h

      go : (m : ℕ) → length (seen ts s.next) ≤ m → x ≡ loop d b m c.entries (seen ts s.next) → Failed e x
      go zero le q = absurd (omega (arith, le, some_left b (seen ts s.next) n))
      go (suc m) le q = rw (q ∙ loop_turn d b m c.entries (seen ts s.next) n)
          (failed_then e _ (λ e2 r. turned d b m (c.entries ++ (e2 ∷ [])) r) f)

  turn : (p : ReadParameter) (m : ℕ) → starts (Parameter b) (seen ts s.next) ≡ true
      → ParameterAt ts d.room (s.next + 1) (read_parameter (inner_reads d) b (seen ts s.next)) p
      → x ≡ loop d b (suc m) c.entries (seen ts s.next) → x ≡ turned d b m (c.entries ++ (entry_of p.parameter ∷ [])) (seen ts p.next)
  turn p m n f q = q ∙ loop_turn d b m c.entries (seen ts s.next) n
      ∙ ap (λ y. and_then y (λ e r. turned d b m (c.entries ++ (e ∷ [])) r)) f.is

  grown : (p : ReadParameter) (r : Signature) → state_of r.formal ≡ step (state_of s.formal) (entry_of p.parameter)
      → state_of r.formal ≡ steps start (c.entries ++ (entry_of p.parameter ∷ []))
  grown p r f = f ∙ ap (λ y. step y (entry_of p.parameter)) c.state ∙ sym (steps_more start c.entries (entry_of p.parameter))

  taller : (p : ReadParameter) (r : Signature) → p.height ≡ entry_height (entry_of p.parameter) → r.height ≡ max s.height p.height
      → r.height ≡ entry_heights (c.entries ++ (entry_of p.parameter ∷ []))
  taller p r t h = h ∙ (λ i. max (c.tall i) (t i)) ∙ sym (entry_heights_more c.entries (entry_of p.parameter))

  -- no comma after one
  pub parameters_last : (p : ReadParameter) (r : Signature) (least : ℕ) → true ≡ starts (Parameter true) (seen ts s.next)
      → ParameterAt ts d.room (s.next + 1) (read_parameter (inner_reads d) b (seen ts s.next)) p
      → state_of r.formal ≡ step (state_of s.formal) (entry_of p.parameter) → r.height ≡ max s.height p.height → r.next ≡ p.next
      → None ≡ first_is (is_op Comma) (seen ts r.next) → least ≤ s.next → SignatureAt ts d.room least x r
  parameters_last p r least v f q h k o le = go c.most c.enough c.is
    where
      n : starts (Parameter b) (seen ts s.next) ≡ true
      n = starts_same b (seen ts s.next) ∙ sym v

      go : (m : ℕ) → length (seen ts s.next) ≤ m → x ≡ loop d b m c.entries (seen ts s.next) → SignatureAt ts d.room least x r
      go zero l y = absurd (omega (arith, l, some_left b (seen ts s.next) n))
      go (suc m) l y = record {
        ahead = omega (arith, le, k, f.ahead);
        within = omega (arith, k, f.within);
        low = omega (arith, h, c.low, f.low);
        entries = c.entries ++ (entry_of p.parameter ∷ []);
        is = turn p m n f y ∙ ap (λ z. turned d b m (c.entries ++ (entry_of p.parameter ∷ [])) (seen ts z)) (sym k)
            ∙ first_miss (is_op Comma) (seen ts r.next) _ (Found (c.entries ++ (entry_of p.parameter ∷ [])) (seen ts r.next)) o;
        state = grown p r q;
        tall = taller p r f.tall h;
      }

  -- a comma after one
  pub parameters_more : (p : ReadParameter) (r z : Signature) → true ≡ starts (Parameter true) (seen ts s.next)
      → ParameterAt ts d.room (s.next + 1) (read_parameter (inner_reads d) b (seen ts s.next)) p
      → state_of r.formal ≡ step (state_of s.formal) (entry_of p.parameter) → r.height ≡ max s.height p.height → r.next ≡ p.next
      → Stands (Op Comma) ts r.next → state_of z.formal ≡ state_of r.formal → z.height ≡ r.height
      → z.next ≡ r.next + 1 → Parameters ts d b x z
  parameters_more p r z v f q h k o zf zh zk = go c.most c.enough c.is
    where
      n : starts (Parameter b) (seen ts s.next) ≡ true
      n = starts_same b (seen ts s.next) ∙ sym v

      go : (m : ℕ) → length (seen ts s.next) ≤ m → x ≡ loop d b m c.entries (seen ts s.next) → Parameters ts d b x z
      go zero l y = absurd (omega (arith, l, some_left b (seen ts s.next) n))
      go (suc m) l y =
          let w : turned d b m (c.entries ++ (entry_of p.parameter ∷ [])) (seen ts r.next) ≡ loop d b m
          (c.entries ++ (entry_of p.parameter ∷ [])) (seen ts (r.next + 1)) = rw o.is refl in
          record {
            within = omega (arith, zk, o.within);
            low = omega (arith, zh, h, c.low, f.low);
            most = m;
            enough = omega (arith, l, zk, k, f.ahead, o.within, seen_length ts s.next, seen_length ts z.next);
            entries = c.entries ++ (entry_of p.parameter ∷ []);
            is = turn p m n f y ∙ ap (λ u. turned d b m (c.entries ++ (entry_of p.parameter ∷ [])) (seen ts u)) (sym k) ∙ w
                ∙ ap (λ u. loop d b m (c.entries ++ (entry_of p.parameter ∷ [])) (seen ts u)) (sym zk);
            state = zf ∙ grown p r q;
            tall = zh ∙ taller p r f.tall h;
          }

-- a lambda, and what stands after its parameters
module _ (ts : List given.Terminal) (d : Depth) (at : ℕ) where
  pub lambda_failed : (e : Stop) → Failed e (listed d false (seen ts at)) → Failed e (cap d.room (lambda_step (inner_reads d) (seen ts at)))
  lambda_failed e f = failed_cap e d.room _ (failed_then e _ (λ ps r. body_reads d (arranged ps) r) f)

  pub lambda_after : (s : Signature) → SignatureAt ts d.room at (listed d false (seen ts at)) s → (z : Result Read Stop)
      → Answered ts d.room (s.next + 1) (cap d.room (body_reads d (outcome (state_of s.formal)) (seen ts s.next))) z
      → Answered ts d.room (at + 1) (cap d.room (lambda_step (inner_reads d) (seen ts at))) z
  lambda_after s f z h =
      let e : lambda_step (inner_reads d) (seen ts at) ≡ body_reads d (outcome (state_of s.formal)) (seen ts s.next) =
      ap (λ y. and_then y (λ ps r. body_reads d (arranged ps) r)) f.is
      ∙ ap (λ o. body_reads d o (seen ts s.next)) (arranged_steps f.entries ∙ ap outcome (sym f.state)) in
      earlier ts d.room d.room (at + 1) (s.next + 1) (cap d.room (lambda_step (inner_reads d) (seen ts at))) z (omega arith)
      (omega (arith, f.ahead))
      (subst (λ y. Answered ts d.room (s.next + 1) (cap d.room y) z) (sym e) h)

module _ (ts : List given.Terminal) (d : Depth) (s : Signature) where
  abbrev body : Answer Expr
  body = body_reads d (outcome (state_of s.formal)) (seen ts s.next)

  pub lambda_unclosed : None ≡ first_is (is_op Colon) (seen ts s.next) → cap d.room body ≡ NoForm
  lambda_unclosed n = ap (λ z. cap d.room z) (first_miss (is_op Colon) (seen ts s.next) _ NoForm n)

  module _ (colon : Stands (Op Colon) ts s.next) where
    bodied : body ≡ and_then (inner_reads d level.Expression (seen ts (s.next + 1)))
        (λ e r3. made (lambda_of (outcome (state_of s.formal)) e) r3)
    bodied = rw colon.is refl

    pub lambda_body_failed : (e : Stop) → Failed e (inner_reads d level.Expression (seen ts (s.next + 1)))
        → Failed e (cap d.room body)
    lambda_body_failed e q = failed_cap e d.room _ (rw bodied
        (failed_then e _ (λ e2 r3. made (lambda_of (outcome (state_of s.formal)) e2) r3) q))

    module _ (room : ℕ) (b : Read) (q : FoundAt ts room (s.next + 1 + 1) (inner_reads d level.Expression (seen ts (s.next + 1))) b) where
      ended : (o : Option Arguments) → outcome (state_of s.formal) ≡ o
          → body ≡ made (lambda_of o (tree_of b.expr.value)) (seen ts b.next)
      ended o h = bodied ∙ ap (λ z. and_then z (λ e r3. made (lambda_of (outcome (state_of s.formal)) e) r3)) q.is
          ∙ ap (λ z. made (lambda_of z (tree_of b.expr.value)) (seen ts b.next)) h

      of_arguments : (a : Arguments) (z : Result Read Stop) → outcome (state_of s.formal) ≡ Some a
          → Makes d.room (Trees.Lambda a (tree_of b.expr.value)) b.next z → Answered ts d.room (s.next + 1) (cap d.room body) z
      of_arguments a z h m = subst (λ y. Answered ts d.room (s.next + 1) (cap d.room y) z) (sym (ended (Some a) h))
          (node ts d.room (s.next + 1) (Trees.Lambda a (tree_of b.expr.value)) b.next z (omega (arith, q.ahead)) q.within m)

      pub lambda_ended : (z : Result Read Stop) → MakesLambda d.room (state_of s.formal) (tree_of b.expr.value) b.next z
          → Answered ts d.room (s.next + 1) (cap d.room body) z
      lambda_ended (Ok r) m = of_arguments m.args (Ok r) m.is m.made
      lambda_ended (Err stop.NoForm) m = ap (λ z. cap d.room z) (ended None m)
      lambda_ended (Err stop.TooDeep) m = of_arguments m.0 (Err stop.TooDeep) m.1 m.2
      lambda_ended (Err stop.Memory) m = tt

-- a lambda that was made
pub lambda_made : (room : ℕ) (x : State) (a : Arguments) (e : Expr) (n : ℕ) (z : Result Read Stop) → outcome x ≡ Some a
    → Makes room (Trees.Lambda a e) n z → MakesLambda room x e n z
lambda_made room x a e n (Ok r) h m = record { args = a; is = h; made = m }
lambda_made room x a e n (Err stop.NoForm) h m = absurd m
lambda_made room x a e n (Err stop.TooDeep) h m = (a, h, m)
lambda_made room x a e n (Err stop.Memory) h m = tt

pub lambda_wrong : (room : ℕ) (x : State) (e : Expr) (s : Stop) → IsDisarranged x s → LambdaUnmade room x e s
lambda_wrong room x e s h = subst (λ y. LambdaUnmade room x e y) (sym h.why) h.is

-- the height of the node
pub signature_height : (ts : List given.Terminal) (room least : ℕ) (x : Answer (List Entry)) (s : Signature)
    → SignatureAt ts room least x s → IsTall s
signature_height ts room least x s f =
    record { is = λ a h. f.tall ∙ arranged_height f.entries a (arranged_steps f.entries ∙ ap outcome (sym f.state) ∙ h) }
