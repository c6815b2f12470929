use Rattle.std.proofs.Common.{rules, ◌≡◌, to_z, of_z, sym, ap, ◌∙◌}
use Rattle.std.specs.Int.{w32}
use Rattle.session_server.specs.Talk.{handle_login, handle_verdict, refuse, unreadable_login}
use Rattle.session_server.proofs.Handled.{unasked_as}
use Rattle.session_server.proofs.Sizes.{judged_size}
use Rattle.session_server.proofs.message.handle_login.Goals as goal

pub grant-requires : goal.grant-requires
grant-requires c = judged_size c.in-Ok.login c.args.config.now c.in-Ok-judge_login.size (sym c.judge_login.ensures ∙ c.in-Ok-judge_login.is)

pub returns-in-Ok : goal.returns-in-Ok
returns-in-Ok c =
    let judged = sym c.judge_login.ensures ∙ c.in-Err-judge_login.is in
    let number : to_z w32 (of_z w32 c.in-Err-judge_login.number) ≡ c.in-Err-judge_login.number = search rules in
    record {
      answered = unasked_as c.args.spid _ _ c.refuse.result _ (ap (handle_login c.args.config.now) c.in-Ok.ensures.read ∙ ap (handle_verdict c.args.config.now) judged ∙ ap refuse (sym number)) (c.refuse.ensures.answered c.args.state.now);
    }

pub returns : goal.returns
returns c = record { answered = unasked_as c.args.spid _ (refuse unreadable_login) c.refuse-in-Err.result _ (search rules) (c.refuse-in-Err.ensures.answered c.args.state.now) }
