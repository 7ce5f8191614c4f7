use Rattle.std.proofs.Common.{◌≡◌, ◌++◌, sym, refl, Some, None, codes, rules}
use Rattle.pylex.specs.Cursors.{with_commas}
use Rattle.pylex.proofs.Texts.CursorLemmas.{numbers_fit, numbers_of, read_is, row_read, stripped, text_body, with_blanks}
use Rattle.pylex.proofs.cursor.Cursor.read.Goals as goal

pub returns-in_err-rest-clause-reads : goal.returns-in_err-rest-clause-reads
returns-in_err-rest-clause-reads c = λ d well same.
    let body = with_blanks (numbers_of d) ++ with_commas d.levels in
    let none : c.strip_prefix.result ≡ None = c.in_err-rest.ensures.ok_part in
    let found = stripped c.strip_prefix.result (codes "pytok1 ") c.args.text.now body c.strip_prefix.ensures.cases
    (text_body d c.args.text.now same) in
    absurd (rw none at found)

pub returns-in_err-numbers-clause-reads : goal.returns-in_err-numbers-clause-reads
returns-in_err-numbers-clause-reads c = λ d well same.
    let body = with_blanks (numbers_of d) ++ with_commas d.levels in
    let some : c.strip_prefix.result ≡ Some c.in_ok-rest.rest = c.in_ok-rest.ensures.ok_part in
    let found = stripped c.strip_prefix.result (codes "pytok1 ") c.args.text.now body c.strip_prefix.ensures.cases
    (text_body d c.args.text.now same) in
    let rest = rw some at found in
    let none : c.numbers.result ≡ None = c.in_err-numbers.ensures.ok_part in
    let read = c.numbers.ensures (numbers_of d) (with_commas d.levels) refl (numbers_fit d well) rest in
    absurd (rw none at read)

pub returns-then-row-eq0-clause-reads : goal.returns-then-row-eq0-clause-reads
returns-then-row-eq0-clause-reads c = λ d well same.
    let body = with_blanks (numbers_of d) ++ with_commas d.levels in
    let some : c.strip_prefix.result ≡ Some c.in_ok-rest.rest = c.in_ok-rest.ensures.ok_part in
    let found = stripped c.strip_prefix.result (codes "pytok1 ") c.args.text.now body c.strip_prefix.ensures.cases
    (text_body d c.args.text.now same) in
    let rest = rw some at found in
    let numbered : c.numbers.result ≡ Some (c.in_ok-numbers.numbers, c.in_ok-numbers.rest) = c.in_ok-numbers.ensures.ok_part in
    let read = rw numbered at (c.numbers.ensures (numbers_of d) (with_commas d.levels) refl (numbers_fit d well) rest) in
    absurd (row_read d _ read.0 well c.if-row-eq0.true)

pub returns-in_err-levels-clause-reads : goal.returns-in_err-levels-clause-reads
returns-in_err-levels-clause-reads c = λ d well same.
    let body = with_blanks (numbers_of d) ++ with_commas d.levels in
    let some : c.strip_prefix.result ≡ Some c.in_ok-rest.rest = c.in_ok-rest.ensures.ok_part in
    let found = stripped c.strip_prefix.result (codes "pytok1 ") c.args.text.now body c.strip_prefix.ensures.cases
    (text_body d c.args.text.now same) in
    let rest = rw some at found in
    let numbered : c.numbers.result ≡ Some (c.in_ok-numbers.numbers, c.in_ok-numbers.rest) = c.in_ok-numbers.ensures.ok_part in
    let read = rw numbered at (c.numbers.ensures (numbers_of d) (with_commas d.levels) refl (numbers_fit d well) rest) in
    let levels = c.in_err-levels.ensures.reads d.levels well.levels (sym read.1) in
    search (rules, levels)

pub returns-clause-reads : goal.returns-clause-reads
returns-clause-reads c = λ d well same.
    let body = with_blanks (numbers_of d) ++ with_commas d.levels in
    let some : c.strip_prefix.result ≡ Some c.in_ok-rest.rest = c.in_ok-rest.ensures.ok_part in
    let found = stripped c.strip_prefix.result (codes "pytok1 ") c.args.text.now body c.strip_prefix.ensures.cases
    (text_body d c.args.text.now same) in
    let rest = rw some at found in
    let numbered : c.numbers.result ≡ Some (c.in_ok-numbers.numbers, c.in_ok-numbers.rest) = c.in_ok-numbers.ensures.ok_part in
    let read = rw numbered at (c.numbers.ensures (numbers_of d) (with_commas d.levels) refl (numbers_fit d well) rest) in
    let levels = c.in_ok-levels.ensures.reads d.levels well.levels (sym read.1) in
    read_is d c.in_ok-numbers.numbers c.in_ok-levels.levels.items read.0 levels
