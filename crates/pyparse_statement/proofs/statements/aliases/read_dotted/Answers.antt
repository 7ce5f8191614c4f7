use Rattle.std.proofs.Common.{◌≡◌, ◌++◌, ◌∷◌, [], ◌∙◌, arith, refl, rules, sym}
use Rattle.std.specs.Prelude.{string_bytes}
use Rattle.std.specs.Str.{chars}
use Rattle.std.proofs.lemmas.Str.{chars_from_encodes}
use Rattle.unicode_normalization.specs.Forms.{nfkc}
use Rattle.pyparse_statement.proofs.statements.ImportSteps.{dotted_last, dotted_missing, dotted_more, dotted_start, dotted_text}
use Rattle.pyparse_statement.proofs.statements.aliases.read_dotted.Goals as goal

pub more-init : goal.more-init
more-init c = record { ahead = omega arith; is = dotted_start c.args.tokens.now c.args.at _ c.requires (search rules) }

pub returns-in_default : goal.returns-in_default
returns-in_default c = dotted_missing c.args.tokens.now _ _ c.more.next c.more.invariant.is c.in_default.ensures.is

pub returns-then-not-is_op : goal.returns-then-not-is_op
returns-then-not-is_op c =
    let t = dotted_text c.args.tokens.now _ _ c.more.next c.more.invariant.is (nfkc (chars c.in-Some.name.now)) c.in-Some.ensures.is
    (string_bytes c.put_name.new.text) c.in_ok-put_name.ensures in
    let n = chars_from_encodes (c.more.invariant.is.text ++ nfkc (chars c.in-Some.name.now)) c.as_str.result.now c.as_str.utf8
    (sym (c.as_str.ensures.value ∙ t)) in
    dotted_last c.args.tokens.now _ _ c.more.next c.more.invariant.is _ c.in-Some.ensures.is _ c.in_ok-put_name.ensures _ c.args.at _
    (c.in_ok-name.ensures.value ∙ sym n) refl c.more.invariant.ahead c.in-Some.ensures.within c.if-not-is_op.ensures

pub more-preserved : goal.more-preserved
more-preserved c =
    let e : string_bytes c.push.new.self ≡ string_bytes c.put_name.new.text ++ (46 ∷ []) = search rules in
    record {
      ahead = omega (arith, c.more.invariant.ahead);
      is = dotted_more c.args.tokens.now _ _ c.more.next c.more.invariant.is _ c.in-Some.ensures.is _ c.in_ok-put_name.ensures _ _ e
          refl c.if-not-is_op.ensures;
    }
