use Rattle.std.proofs.Common.{◌≡◌, sym, ◌∙◌, subst}
use Rattle.tsql_grammar.specs.declared.rule.Mark.TheVariants.{Uses}
use Rattle.tsql_grammar.specs.Noted.{note_sound}
use Rattle.tsql_recognizer.specs.Notes.{Goes}
use Rattle.tsql_recognizer.proofs.Noting.{none_of, none_not, used_first, used_well}
use Rattle.tsql_recognizer.proofs.notes.Notes.judge_use.Goals as goal
use Rattle.tsql_recognizer.proofs.notes.Notes.judge_use.Goals.{else-self-via-then-self+else-not-contains, else-self-via-else-self}

pub returns-then-not-contains-clause-means : goal.returns-then-not-contains-clause-means
returns-then-not-contains-clause-means c =
    subst (λ z. Goes (λ s t. t ≡ note_sound s Uses) c.args.self.now z) (sym c.blame.ensures)
    (λ names h. (names, h, used_first c.args.self.now names c.if-self.true (sym (h c.args.self.now.last) ∙ sym c.contains.ensures ∙ c.if-not-contains.true)))

pub returns-else-self-clause-means : goal.returns-else-self-clause-means
returns-else-self-clause-means c names h = (
  names,
  h,
  used_well c.args.self.now names (elim c.else-self.branch [
    | else-self-via-then-self+else-not-contains w ↦ none_not _ _ (sym (h c.args.self.now.last) ∙ sym w.contains.ensures ∙ w.if-not-contains.false)
    | else-self-via-else-self w ↦ none_of _ _ w.if-self.false
  ]),
)
