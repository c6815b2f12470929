use Rattle.std.proofs.Common.{◌==◌, ℕ, map, ap, sym, ◌∙◌}
use Rattle.std.specs.List.{list_any}
use Rattle.step_model.specs.State.{Engine, Saved, saved_of}
use Rattle.engine_core.specs.Transactions.{marks_in}
use Rattle.engine_core.proofs.Showing.{numbers_shown}
use Rattle.engine_core.proofs.parts.Parts.is_mark.Goals as goal

pub returns : goal.returns
returns c =
    c.contains.ensures.value
    ∙ ap (list_any (λ (live : ℕ). live == c.args.mark))
    (c.marks_in.ensures ∙ ap (marks_in c.args.session) c.deref.ensures.value
    ∙ sym (numbers_shown c.self.inside.rows c.self.inside.locks c.self.inside.active.items c.self.inside.log.items c.args.session)
    ∙ ap (λ (e : Engine). map (λ (s : Saved). s.mark) (saved_of c.args.session e)) c.self.view_is)
