-- What the code holds of an f-string.
use Rattle.pyparse_marks.specs.declared.formatted.Around.{Around}
use Rattle.pyparse_marks.specs.Spans.{told}
use Rattle.pyparse_marks.specs.TokenSpans as spans

abbrev pub around_of : Around → spans.Around
around_of a = record { bytes = a.text.now; start = a.start; whole = told a.whole }
