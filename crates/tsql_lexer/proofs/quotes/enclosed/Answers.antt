use Rattle.std.proofs.Common.{◌≡◌, ◌+◌, drop, Some, List, ℕ, ap, sym, ◌∙◌, arith, rules}
use Rattle.tsql_lexer.specs.Quotes.{enclosed}
use Rattle.tsql_lexer.proofs.QuoteSteps.{prepended, plain_at, doubled_at, end_at, closed_at, beyond}
use Rattle.tsql_lexer.proofs.quotes.enclosed.Goals as goal
use Rattle.tsql_lexer.proofs.quotes.enclosed.Goals.{then-at-text-via-then-at-text, then-at-text-via-else-at-text+then-text-at, then-unit-close+else-at-text+else-text-at, else-unit-close}

pub returns-then-at-text-clause-value : goal.returns-then-at-text-clause-value
returns-then-at-text-clause-value c =
    let read = c.loop-at.value.items in
    let whole : prepended read c.loop-at.at (enclosed c.args.close (drop c.loop-at.at c.args.text.now)) ≡ enclosed c.args.close c.args.text.now = c.loop-at.invariant.whole in
    elim c.then-at-text.branch [
      | then-at-text-via-then-at-text w ↦ ap (λ (l : List ℕ). Some (l, c.loop-at.at + 1)) c.from.ensures ∙ sym (end_at c.args.close c.args.text.now read c.loop-at.at (omega arith) (search rules)) ∙ whole
      | then-at-text-via-else-at-text+then-text-at w ↦ ap (λ (l : List ℕ). Some (l, c.loop-at.at + 1)) c.from.ensures ∙ sym (closed_at c.args.close c.args.text.now read c.loop-at.at (omega arith) (search rules) (search rules)) ∙ whole
    ]

pub loop-at-preserved : goal.loop-at-preserved
loop-at-preserved c =
    let read = c.loop-at.value.items in
    let text = c.args.text.now in
    let at = c.loop-at.at in
    let whole : prepended read at (enclosed c.args.close (drop at text)) ≡ enclosed c.args.close text = c.loop-at.invariant.whole in
    elim c.if-unit-close.branch [
      | then-unit-close+else-at-text+else-text-at w ↦ record {
        within = omega arith;
        whole = rw (c.in_ok-push.ensures.items, w.width-is) (sym (doubled_at c.args.close text read at (omega arith) (search rules) (search rules)) ∙ whole);
      }
      | else-unit-close w ↦ record {
        within = omega arith;
        whole = rw (c.in_ok-push.ensures.items, w.width-is) (sym (plain_at c.args.close text read at (omega arith) (search rules)) ∙ whole);
      }
    ]

pub returns-clause-value : goal.returns-clause-value
returns-clause-value c = sym (beyond c.args.close c.args.text.now c.loop-at.value.items c.loop-at.at (omega arith)) ∙ c.loop-at.invariant.whole
