use Rattle.std.proofs.Common.{◌≡◌, ℕ, Bool, true, false, ◌&&◌, List, [], refl, sym, ◌∙◌}
use Rattle.std.specs.Str.{chars}
use Rattle.pylex_lexeme.specs.declared.lexeme.Class.{Class}
use Rattle.pylex_lexeme.specs.Cuts.{Cuts, begins_significant}
use Rattle.pylex_lexeme.specs.Lexemes.{is_significant_class}
use Rattle.pylex.proofs.Listers.Finding.{stays_there, settles_same, entry_found, some_bytes, stands_after, room_after, after_cut}
use Rattle.pylex_listing.proofs.Callers.{significant_is}
use Rattle.pylex.proofs.MachineLaws.Told.{tells}
use Rattle.pylex.proofs.peeked.margin_entry.Goals as goal

no_and : (a b : Bool) → b ≡ false → (a && b) ≡ false
no_and true b e = e
no_and false b e = refl

-- where a lexeme of another class stands, no layout is due
none_due : (margin : Bool) (text front back : List ℕ) (k : Class) → Cuts text k front back → is_significant_class k ≡ false
    → (margin && begins_significant (chars text)) ≡ false
none_due margin text front back k cuts plain =
    no_and margin (begins_significant (chars text))
    (sym (significant_is (chars text) (record { «class» = k; text = chars front }) cuts.lexeme) ∙ plain)

pub after-ahead-requires-clause-some : goal.after-ahead-requires-clause-some
after-ahead-requires-clause-some c = some_bytes c.args.text.now c.in_ok-class.front.now c.in_ok-class.back.now c.in_ok-class.class
    c.in_ok-class.ensures.some

pub after-ahead-requires-clause-settled : goal.after-ahead-requires-clause-settled
after-ahead-requires-clause-settled c = no_and c.args.now.now.margin (is_significant_class c.in_ok-class.class)
    (sym c.is_significant.ensures ∙ c.if-is_significant.false)

pub after-ahead-requires-clause-told : goal.after-ahead-requires-clause-told
after-ahead-requires-clause-told c = tells c.args.text.now c.in_ok-class.front.now c.in_ok-class.back.now c.in_ok-class.class
    c.in_ok-class.ensures.some

pub returns : goal.returns
returns c =
    let p = c.args.now.now in
    let text = c.args.text.now in
    let front = c.in_ok-class.front.now in
    let back = c.in_ok-class.back.now in
    let k = c.in_ok-class.class in
    let q = c.after-ahead.result in
    let cuts = c.in_ok-class.ensures.some in
    let plain : is_significant_class k ≡ false = sym c.is_significant.ensures ∙ c.if-is_significant.false in
    record {
      entry = λ levels. entry_found levels p (chars text) p p q text front back k c.in-Entry.entry (stays_there levels p (chars text))
          (settles_same levels p (chars text) (none_due p.margin text front back k cuts plain)) cuts c.in-Entry.ensures
          c.after-ahead.ensures.after;
      stands = stands_after p q text front back k cuts c.requires.stands c.after-ahead.ensures.room;
      room = λ n h. room_after p q text front back k cuts c.after-ahead.ensures.room n h;
      following = after_cut text text front back k c.requires.stands.utf8 cuts ([], refl);
    }
