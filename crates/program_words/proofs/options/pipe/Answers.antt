use Rattle.std.proofs.Common.{◌≡◌, ◌∙◌, ◌||◌, ap, ap₂, codes, false}
use Rattle.std.proofs.lemmas.Result.{IfOk-weaker}
use Rattle.clap.specs.Simple.{app_of_fields, new_app, with_rule}
use Rattle.clap.specs.Words.{app_of}
use Rattle.clap.specs.declared.builder.command.Command.TheViews.{out-Command as fields_of}
use Rattle.program_words.proofs.options.pipe.Goals as goal

pub returns-clause-app : goal.returns-clause-app
returns-clause-app c =
    let start : app_of c.about.result ≡ new_app (codes "pipe") = ap app_of_fields c.about.ensures ∙ c.new.ensures.app in
    let one = c.in_ok-arg.ensures.shape c.user.ensures.local ∙ ap₂ with_rule start c.user.ensures.rule in
    let two = c.in_ok-arg-2.ensures.shape c.password.ensures.local ∙ ap₂ with_rule one c.password.ensures.rule in
    let three = c.in_ok-arg-3.ensures.shape c.bare.ensures.local ∙ ap₂ with_rule two c.bare.ensures.rule in
    IfOk-weaker c.arg-4.result _ _ (λ command added. added.shape c.drivers.ensures.local ∙ ap₂ with_rule three c.drivers.ensures.rule) c.arg-4.ensures

pub returns-clause-local : goal.returns-clause-local
returns-clause-local c =
    let start : (fields_of c.about.result).has_globals ≡ false = ap (λ f. f.has_globals) c.about.ensures ∙ c.new.ensures.local in
    let one = c.in_ok-arg.ensures.globals ∙ ap₂ ◌||◌ start c.user.ensures.local in
    let two = c.in_ok-arg-2.ensures.globals ∙ ap₂ ◌||◌ one c.password.ensures.local in
    let three = c.in_ok-arg-3.ensures.globals ∙ ap₂ ◌||◌ two c.bare.ensures.local in
    IfOk-weaker c.arg-4.result _ _ (λ command added. added.globals ∙ ap₂ ◌||◌ three c.drivers.ensures.local) c.arg-4.ensures
