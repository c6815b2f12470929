use Rattle.std.proofs.Common.{◌≡◌, ◌∙◌, ap, ap₂, true, []}
use Rattle.std.proofs.lemmas.Result.{IfOk-weaker}
use Rattle.clap.specs.Simple.{App, Shape, app_of_fields, on_top, with_subcommand}
use Rattle.clap.specs.Words.{app_of}
use Rattle.program_words.specs.Options.{top_shape}
use Rattle.program_words.proofs.options.program.Goals as goal

-- what the settings make of the command
abbrev with_settings : Shape → Shape
with_settings s = record s { has_version = true; subcommand_required = true; disable_help_subcommand = true }

abbrev start : App
start = record { top = record top_shape { is_leaf = true }; subs = [] }

pub returns : goal.returns
returns c =
    let top : App → Shape = λ a. a.top in
    let set : app_of c.disable_help_subcommand.result ≡ start =
    ap app_of_fields c.disable_help_subcommand.ensures
    ∙ ap (λ f. app_of_fields (record f { disable_help_subcommand = true })) c.subcommand_required.ensures
    ∙ ap (λ f. app_of_fields (record f { subcommand_required = true; disable_help_subcommand = true })) c.about.ensures
    ∙ ap (λ f. app_of_fields (record f { subcommand_required = true; disable_help_subcommand = true })) c.version.ensures
    ∙ ap (on_top with_settings) c.new.ensures.app in
    let one = c.in_ok-subcommand.ensures.shape c.in_ok-pipe.ensures.local ∙ ap₂ with_subcommand set (ap top c.in_ok-pipe.ensures.app) in
    let two = c.in_ok-subcommand-2.ensures.shape c.in_ok-listen.ensures.local ∙ ap₂ with_subcommand one (ap top c.in_ok-listen.ensures.app) in
    let three = c.in_ok-subcommand-3.ensures.shape c.steps.ensures.local ∙ ap₂ with_subcommand two (ap top c.steps.ensures.app) in
    IfOk-weaker c.subcommand-4.result _ _ (λ command added. added.shape c.in_ok-load.ensures.local ∙ ap₂ with_subcommand three (ap top c.in_ok-load.ensures.app)) c.subcommand-4.ensures
