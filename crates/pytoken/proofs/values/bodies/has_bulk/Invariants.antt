use Rattle.std.proofs.Common.{◌≡◌}
use Rattle.std.specs.Prelude.{◌==◌, ◌||◌}
use Rattle.std.specs.List.{list_any}
use Rattle.std.specs.Str.{chars, IsUtf8}
use Rattle.std.specs.Str.Iter.{chars_rest}
use Rattle.pylex_lexeme.specs.Characters.{line_feed}
use Rattle.pytoken.specs.StringValues.{is_quote, body_of}
use Rattle.pytoken.proofs.values.bodies.has_bulk.Given as goal

abbrev pub invariant-body : goal.invariant-body
invariant-body l = record {
  same : list_any (λ c. is_quote c || (c == line_feed)) (chars (chars_rest l.c-iterator))
      ≡ list_any (λ c. is_quote c || (c == line_feed)) (body_of (chars l.fn.text));
  utf8 : IsUtf8 (chars_rest l.c-iterator);
}
