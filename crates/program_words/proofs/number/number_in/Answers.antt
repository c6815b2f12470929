use Rattle.program_words.proofs.Plain.{number_taken, number_too_great, number_not_plain, no_number}
use Rattle.std.proofs.Common.{rules}
use Rattle.program_words.proofs.number.number_in.Goals as goal

pub returns-in-Ok : goal.returns-in-Ok
returns-in-Ok c =
    let read = c.in-Ok.ensures.value.0 in
    number_taken c.args.most c.in-Ok.number c.args.text.now read.0.0 read.1 (search rules) (search rules)

pub returns-in_default : goal.returns-in_default
returns-in_default c =
    let read = c.in-Ok.ensures.value.0 in
    number_too_great c.args.most c.in-Ok.number c.args.text.now read.1 (search rules) (search rules)

pub returns-in_default-2 : goal.returns-in_default-2
returns-in_default-2 c = number_not_plain c.args.most c.args.text.now (search rules)

pub returns-in_default-3 : goal.returns-in_default-3
returns-in_default-3 c = no_number c.args.most c.args.text.now (search rules) c.in_default.ensures.value.0
