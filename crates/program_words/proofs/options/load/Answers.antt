use Rattle.std.proofs.Common.{◌≡◌, ◌∙◌, ◌||◌, ap, ap₂, codes, false}
use Rattle.std.proofs.lemmas.Result.{IfOk-weaker}
use Rattle.clap.specs.Simple.{app_of_fields, new_app, with_rule}
use Rattle.clap.specs.Words.{app_of}
use Rattle.clap.specs.declared.builder.command.Command.TheViews.{out-Command as fields_of}
use Rattle.program_words.proofs.options.load.Goals as goal

pub returns-clause-app : goal.returns-clause-app
returns-clause-app c =
    let start : app_of c.about.result ≡ new_app (codes "load") = ap app_of_fields c.about.ensures ∙ c.new.ensures.app in
    let one = c.in_ok-arg.ensures.shape c.transfers.ensures.local ∙ ap₂ with_rule start c.transfers.ensures.rule in
    IfOk-weaker c.arg-2.result _ _ (λ command added. added.shape c.workers.ensures.local ∙ ap₂ with_rule one c.workers.ensures.rule) c.arg-2.ensures

pub returns-clause-local : goal.returns-clause-local
returns-clause-local c =
    let start : (fields_of c.about.result).has_globals ≡ false = ap (λ f. f.has_globals) c.about.ensures ∙ c.new.ensures.local in
    let one = c.in_ok-arg.ensures.globals ∙ ap₂ ◌||◌ start c.transfers.ensures.local in
    IfOk-weaker c.arg-2.result _ _ (λ command added. added.globals ∙ ap₂ ◌||◌ one c.workers.ensures.local) c.arg-2.ensures
