use Rattle.std.proofs.Common.{◌≡◌, ◌∙◌, true, [], ap, ap₂, codes}
use Rattle.std.proofs.lemmas.Result.{IfOk-weaker}
use Rattle.clap.specs.Simple.{App, Shape, app_of, app_of_fields, new_shape, on_top, with_subcommand}
use Rattle.pyast_words.specs.Words.{dump_shape, tokens_shape, unparse_shape}
use Rattle.pyast_words.proofs.forms.grammar.Goals as goal

abbrev first : Shape
first = record (new_shape (codes "pyast")) { no_binary_name = true; subcommand_required = true; has_version = true }

pub returns : goal.returns
returns c =
    let none : app_of c.subcommand_required.result ≡ record { top = first; subs = [] } =
    ap app_of_fields c.subcommand_required.ensures
    ∙ ap (on_top (λ s. record s { subcommand_required = true })) (ap app_of_fields c.no_binary_name.ensures
    ∙ ap (on_top (λ s. record s { no_binary_name = true })) (ap app_of_fields c.version.ensures
    ∙ ap (on_top (λ s. record s { has_version = true })) (ap app_of_fields c.about.ensures
    ∙ (ap app_of_fields c.in_ok-bin_name.ensures.0 ∙ c.new.ensures.app)))) in
    let one : app_of c.in_ok-subcommand.field-0 ≡ with_subcommand (record { top = first; subs = [] }) tokens_shape =
    c.in_ok-subcommand.ensures.shape c.in_ok-tokens_form.ensures.local
    ∙ ap₂ with_subcommand none (ap (λ (a : App). a.top) c.in_ok-tokens_form.ensures.is) in
    let two : app_of c.in_ok-subcommand-2.field-0 ≡ with_subcommand (with_subcommand (record { top = first; subs = [] })
    tokens_shape) dump_shape =
    c.in_ok-subcommand-2.ensures.shape c.in_ok-dump_form.ensures.local
    ∙ ap₂ with_subcommand one (ap (λ (a : App). a.top) c.in_ok-dump_form.ensures.is) in
    let three : app_of c.in_ok-subcommand-3.field-0 ≡ with_subcommand (with_subcommand (with_subcommand (record { top = first; subs = [] })
    tokens_shape) dump_shape) unparse_shape =
    c.in_ok-subcommand-3.ensures.shape c.in_ok-unparse_form.ensures.local
    ∙ ap₂ with_subcommand two (ap (λ (a : App). a.top) c.in_ok-unparse_form.ensures.is) in
    IfOk-weaker c.subcommand-4.result _ _ (λ r h. h.shape c.in_ok-check_form.ensures.local
    ∙ ap₂ with_subcommand three (ap (λ (a : App). a.top) c.in_ok-check_form.ensures.is)) c.subcommand-4.ensures
