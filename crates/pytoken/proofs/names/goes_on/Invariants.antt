use Rattle.std.proofs.Common.{◌≡◌}
use Rattle.std.specs.List.{list_all}
use Rattle.std.specs.Str.{chars, IsUtf8}
use Rattle.std.specs.Str.Iter.{chars_rest}
use Rattle.unicode_ident.specs.Ident.{is_xid_continue}
use Rattle.pytoken.proofs.names.goes_on.Given as goal

abbrev pub invariant-loop-c : goal.invariant-loop-c
invariant-loop-c l = record {
  same : list_all is_xid_continue (chars (chars_rest l.c-iterator)) ≡ list_all is_xid_continue (chars l.fn.text);
  utf8 : IsUtf8 (chars_rest l.c-iterator);
}
