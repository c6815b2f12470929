use Rattle.std.proofs.Common.{◌≡◌, ℕ, [], ◌∷◌, None, Some, ap, sym, ◌∙◌}
use Rattle.batch_meaning.specs.Tokens.{transaction_committed}
use Rattle.session_state.proofs.state.committed_tokens.Goals as goal

pub returns-then-is_own : goal.returns-then-is_own
returns-then-is_own c = λ serial kept. rw c.if-is_own.true c.none.ensures

pub returns-in-Some : goal.returns-in-Some
returns-in-Some c = λ serial kept.
    let both : Some c.in-Some.endings ≡ Some serial = sym c.in-Some.is ∙ kept c.if-is_own.false in
    let same : c.in-Some.endings ≡ serial = cc in
    rw c.if-is_own.false (c.into_committed.ensures ∙ ap (λ (n : ℕ). transaction_committed n ∷ []) same)

pub returns-in-None : goal.returns-in-None
returns-in-None c = λ serial kept. absurd (let no : None ≡ Some serial = sym c.in-None.is ∙ kept c.if-is_own.false in cc)
