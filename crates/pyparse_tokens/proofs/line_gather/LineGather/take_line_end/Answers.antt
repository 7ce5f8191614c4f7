use Rattle.std.proofs.Common.{◌≡◌, ℕ, ◌-◌, Bool, true, false, sym, ap, ◌∙◌}
use Rattle.std.specs.Str.{chars}
use Rattle.pyparse_tokens.specs.declared.line_gather.LineGather.{LineGather}
use Rattle.pyparse_tokens.proofs.TakingLemmas.{line_end_kept}
use Rattle.pyparse_tokens.proofs.line_gather.LineGather.take_line_end.Goals as goal
use Rattle.pyparse_tokens.proofs.line_gather.LineGather.take_line_end.Goals.{then-ends, else-ends}

not_both : (b : Bool) → b ≡ true → b ≡ false → ⊥
not_both b t f = cc

pub returns-clause-taken : goal.returns-clause-taken
returns-clause-taken c =
    let old = c.args.self.now in
    let mid : LineGather = c.if-ends.self in
    let level : c.args.ends ≡ true → mid.level ≡ old.indents - old.dedents =
    elim c.if-ends.branch [
      | then-ends w ↦ λ _. ap (λ (g : LineGather). g.level) w.self-is ∙ w.saturating_sub-self.ensures
      | else-ends w ↦ λ ends. absurd (not_both c.args.ends ends w.if-ends.false)
    ] in
    let rest : mid ≡ record old { level = mid.level } =
    elim c.if-ends.branch [
      | then-ends w ↦ w.self-is ∙ ap (λ (n : ℕ). record old { level = n }) (sym (ap (λ (g : LineGather). g.level) w.self-is))
      | else-ends w ↦ w.self-is ∙ ap (λ (n : ℕ). record old { level = n }) (sym (ap (λ (g : LineGather). g.level) w.self-is))
    ] in
    line_end_kept c.take_line_end.result (chars c.args.source.now.text) c.args.ends c.args.to old mid c.take_line_end.new.self level rest
    c.take_line_end.ensures.passes
