use Rattle.std.proofs.Common.{◌≡◌, ◌∙◌, ◌||◌, ap, ap₂, codes, false}
use Rattle.std.proofs.lemmas.Result.{IfOk-weaker}
use Rattle.clap.specs.Simple.{app_of_fields, new_app, with_rule}
use Rattle.clap.specs.Words.{app_of}
use Rattle.clap.specs.declared.builder.command.Command.TheViews.{out-Command as fields_of}
use Rattle.program_words.proofs.options.listen.Goals as goal

pub returns-clause-app : goal.returns-clause-app
returns-clause-app c =
    let start : app_of c.about.result ≡ new_app (codes "listen") = ap app_of_fields c.about.ensures ∙ c.new.ensures.app in
    let one = c.in_ok-arg.ensures.shape c.port.ensures.local ∙ ap₂ with_rule start c.port.ensures.rule in
    let two = c.in_ok-arg-2.ensures.shape c.workers.ensures.local ∙ ap₂ with_rule one c.workers.ensures.rule in
    let three = c.in_ok-arg-3.ensures.shape c.rounds.ensures.local ∙ ap₂ with_rule two c.rounds.ensures.rule in
    let four = c.in_ok-arg-4.ensures.shape c.user.ensures.local ∙ ap₂ with_rule three c.user.ensures.rule in
    let five = c.in_ok-arg-5.ensures.shape c.password.ensures.local ∙ ap₂ with_rule four c.password.ensures.rule in
    IfOk-weaker c.arg-6.result _ _ (λ command added. added.shape c.drivers.ensures.local ∙ ap₂ with_rule five c.drivers.ensures.rule) c.arg-6.ensures

pub returns-clause-local : goal.returns-clause-local
returns-clause-local c =
    let start : (fields_of c.about.result).has_globals ≡ false = ap (λ f. f.has_globals) c.about.ensures ∙ c.new.ensures.local in
    let one = c.in_ok-arg.ensures.globals ∙ ap₂ ◌||◌ start c.port.ensures.local in
    let two = c.in_ok-arg-2.ensures.globals ∙ ap₂ ◌||◌ one c.workers.ensures.local in
    let three = c.in_ok-arg-3.ensures.globals ∙ ap₂ ◌||◌ two c.rounds.ensures.local in
    let four = c.in_ok-arg-4.ensures.globals ∙ ap₂ ◌||◌ three c.user.ensures.local in
    let five = c.in_ok-arg-5.ensures.globals ∙ ap₂ ◌||◌ four c.password.ensures.local in
    IfOk-weaker c.arg-6.result _ _ (λ command added. added.globals ∙ ap₂ ◌||◌ five c.drivers.ensures.local) c.arg-6.ensures
