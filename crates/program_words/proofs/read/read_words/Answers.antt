use Rattle.std.proofs.Common.{◌≡◌, ◌∙◌, ap, ap₂, sym, subst, rules, map, string_bytes}
use Rattle.clap.specs.Simple.{is_simple, subcommand_of}
use Rattle.clap.specs.Takes.{takes}
use Rattle.clap.specs.Kinds.{HasKind}
use Rattle.clap.specs.Faults.{fault_of, is_simple_and_free}
use Rattle.clap.specs.Words.{app_of, kind_of, subcommand_rows_of}
use Rattle.program_words.specs.Asked.{named}
use Rattle.program_words.specs.Options.{program}
use Rattle.program_words.proofs.Parses.{matches_answer, error_answers}
use Rattle.program_words.proofs.Ranges.{read_in_range}
use Rattle.program_words.proofs.Written.{spelled_read}
use Rattle.program_words.proofs.read.read_words.Goals as goal

pub returns-in-Ok-clause-answers : goal.returns-in-Ok-clause-answers
returns-in-Ok-clause-answers c =
    let words = map string_bytes c.args.words.now in
    let app_is : app_of c.in_ok-program.field-0 ≡ program = c.in_ok-program.ensures in
    let words_are : map (λ s. s.now) c.as_slice.result.now ≡ named words = search rules in
    let found = (c.in-Ok.ensures.matches (ap is_simple app_is)).1 ∙ ap₂ subcommand_of app_is words_are in
    let none = sym (ap₂ fault_of app_is words_are) ∙ c.in-Ok.ensures.kinds (ap is_simple_and_free app_is) in
    matches_answer words (subcommand_rows_of c.in-Ok.matches) c.command_of.result found none c.command_of.ensures

pub returns-in-Ok-clause-spelled : goal.returns-in-Ok-clause-spelled
returns-in-Ok-clause-spelled c command spells =
    spelled_read (map string_bytes c.args.words.now) command c.command_of.result (returns-in-Ok-clause-answers c) spells

pub returns-in-Ok-clause-range : goal.returns-in-Ok-clause-range
returns-in-Ok-clause-range c = read_in_range (subcommand_rows_of c.in-Ok.matches) c.command_of.result c.command_of.ensures

pub returns-clause-answers : goal.returns-clause-answers
returns-clause-answers c =
    let words = map string_bytes c.args.words.now in
    let app_is : app_of c.in_ok-program.field-0 ≡ program = c.in_ok-program.ensures in
    let words_are : map (λ s. s.now) c.as_slice.result.now ≡ named words = search rules in
    let has = subst (λ kinds. HasKind kinds c.in-Err.error) (ap₂ fault_of app_is words_are) (c.in-Err.ensures.kinds (ap is_simple_and_free app_is)) in
    error_answers words (kind_of c.in-Err.error) c.answer_to.result (λ taken. c.in-Err.ensures.passes (ap₂ takes app_is words_are ∙ taken)) has c.answer_to.ensures

pub returns-clause-spelled : goal.returns-clause-spelled
returns-clause-spelled c command spells =
    spelled_read (map string_bytes c.args.words.now) command c.answer_to.result (returns-clause-answers c) spells
