use Rattle.std.proofs.Common.{◌≡◌, ◌++◌, ℕ, List, subst, take, sym, ap, refl, inr, arith, ◌∙◌, Some, None}
use Rattle.std.proofs.lemmas.Result.{err_from_is_err_and}
use Rattle.std.specs.Prelude.{IsUtf8}
use Rattle.std.specs.String.{string_bytes}
use Rattle.pysource.specs.Lines.{first_bad}
use Rattle.pysource.specs.Streams.{fault_at}
use Rattle.pysource.specs.declared.encodings.Charset.{Charset}
use Rattle.pysource.proofs.LineReading.MayComeLemmas.{line_may_come, reading_may_come}
use Rattle.pysource.proofs.LineReading.NextLineLemmas.{none_past, past_found, moves_nothing, moves_told, moves_text, moves_bad, tells_end}
use Rattle.pysource.proofs.LineReading.NextLineLemmas.{tells_unread}
use Rattle.pysource.proofs.line_reader.LineReader.next_line.Goals as goal

pub returns-in-Some-clause-reads : goal.returns-in-Some-clause-reads
returns-in-Some-clause-reads g c =
    let s = c.self.inside in
    rw (← c.self.view_is, c.in-Some.is) (moves_told _ s.encoding s.row c.in-Some.fault s.intake _)

pub returns-in_err-due_line-clause-reads : goal.returns-in_err-due_line-clause-reads
returns-in_err-due_line-clause-reads g c =
    let s = c.self.inside in
    let p = err_from_is_err_and c.from_residual.result c.from_residual.ensures.1 in
    rw (← c.self.view_is, c.in_default.is, p.1) (moves_nothing s.encoding s.row s.intake c.due_line.new.intake _ _ _
    c.in_err-due_line.ensures.grows refl
    (refl, reading_may_come s.encoding s.row c.due_line.new.intake c.in_err-due_line.ensures.found.0 c.in_err-due_line.ensures.found.1)
    (λ is. cc) (inr (omega (arith, none_past _ c.in_err-due_line.ensures.found.1))))

pub returns-in-None-clause-reads : goal.returns-in-None-clause-reads
returns-in-None-clause-reads g c =
    let s = c.self.inside in
    let found = rw c.in-None.is at c.in_ok-due_line.ensures.found in
    rw (← c.self.view_is, c.in_default.is)
    (moves_nothing s.encoding s.row s.intake c.due_line.new.intake _ _ _ c.in_ok-due_line.ensures.grows refl
    (tells_unread s.encoding s.row c.due_line.new.intake found) (λ is. cc) (inr (omega (arith, none_past _ found.none))))

pub returns-in-Some-eq0-clause-reads : goal.returns-in-Some-eq0-clause-reads
returns-in-Some-eq0-clause-reads g c =
    let s = c.self.inside in
    let found = rw (c.in-Some-eq0.is, c.in-Some-eq0.field-0-test) at c.in_ok-due_line.ensures.found in
    rw (← c.self.view_is, c.in_default.is)
    (moves_nothing s.encoding s.row s.intake c.due_line.new.intake _ _ _ c.in_ok-due_line.ensures.grows refl
    (tells_end s.encoding s.row s.intake c.due_line.new.intake found) (λ is. cc)
    (past_found 0 s.intake c.due_line.new.intake _ c.in_ok-due_line.ensures.grows.bytes found))

pub returns-in_err-push_line-clause-reads : goal.returns-in_err-push_line-clause-reads
returns-in_err-push_line-clause-reads g c =
    let s = c.self.inside in
    let p = err_from_is_err_and c.from_residual-in_err-push_line.result c.from_residual-in_err-push_line.ensures.1 in
    let mid = c.due_line.new.intake in
    let len = c.in-Some-2.len in
    let found = rw c.in-Some-2.is at c.in_ok-due_line.ensures.found in
    let bytes : c.bytes.result.now ≡ mid.buffer = c.bytes.ensures in
    let good : first_bad s.encoding.charset (take len mid.buffer) ≡ None =
    ap (λ (x : List ℕ). first_bad s.encoding.charset (take len x)) (sym bytes)
    ∙ ap (λ (h : Charset). first_bad h (take len c.bytes.result.now)) (sym c.charset.ensures) ∙ c.in_err-push_line.ensures.0 in
    rw (← c.self.view_is, c.in_default.is, p.1)
    (moves_nothing s.encoding s.row s.intake mid _ _ _ c.in_ok-due_line.ensures.grows c.in_err-push_line.ensures.1
    (refl, line_may_come s.encoding s.row len s.intake mid found (omega (arith, c.in-Some-2.len-test.1)) good) (λ is. cc)
    (past_found len s.intake mid _ c.in_ok-due_line.ensures.grows.bytes found))

pub returns-in-None-2-clause-reads : goal.returns-in-None-2-clause-reads
returns-in-None-2-clause-reads g c =
    let s = c.self.inside in
    let mid = c.due_line.new.intake in
    let len = c.in-Some-2.len in
    let found = rw c.in-Some-2.is at c.in_ok-due_line.ensures.found in
    let e = rw c.in-None-2.is at c.in_ok-push_line.ensures in
    let bytes : c.bytes.result.now ≡ mid.buffer = c.bytes.ensures in
    let good : first_bad s.encoding.charset (take len mid.buffer) ≡ None =
    ap (λ (x : List ℕ). first_bad s.encoding.charset (take len x)) (sym bytes)
    ∙ ap (λ (h : Charset). first_bad h (take len c.bytes.result.now)) (sym c.charset.ensures) ∙ e.0 in
    rw (← c.self.view_is, c.in_default.is, c.skip.ensures)
    (moves_text s.encoding s.row len s.intake mid _ _ c.in_ok-due_line.ensures.grows found c.in-Some-2.len-test.1 good
    (subst (λ (x : List ℕ). IsUtf8 (take len x)) bytes e.1) (e.2 ∙ ap (λ (x : List ℕ). string_bytes c.args.chunk.now ++ take len x) bytes))

pub returns-in-Some-3-clause-reads : goal.returns-in-Some-3-clause-reads
returns-in-Some-3-clause-reads g c =
    let s = c.self.inside in
    let mid = c.due_line.new.intake in
    let len = c.in-Some-2.len in
    let found = rw c.in-Some-2.is at c.in_ok-due_line.ensures.found in
    let e = rw c.in-Some-3.is at c.in_ok-push_line.ensures in
    let bytes : c.bytes.result.now ≡ mid.buffer = c.bytes.ensures in
    let is : first_bad s.encoding.charset (take len mid.buffer) ≡ Some e.0 =
    ap (λ (x : List ℕ). first_bad s.encoding.charset (take len x)) (sym bytes)
    ∙ ap (λ (h : Charset). first_bad h (take len c.bytes.result.now)) (sym c.charset.ensures) ∙ e.1 in
    let told : c.in-Some-3.fault ≡ fault_at s.row (take len mid.buffer) e.0 = e.2
    ∙ ap (λ (x : List ℕ). fault_at s.row (take len x) e.0) bytes in
    rw (← c.self.view_is, c.in_default.is, told)
    (moves_bad s.encoding s.row len s.intake mid _ _ e.0 c.in_ok-due_line.ensures.grows found c.in-Some-2.len-test.1 is e.3)
