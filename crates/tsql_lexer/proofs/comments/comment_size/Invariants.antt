use Rattle.std.proofs.Common.{◌≡◌, ◌-◌, ◌≤◌, length, drop}
use Rattle.tsql_lexer.specs.Comments.{more, closing_size}
use Rattle.tsql_lexer.proofs.comments.comment_size.Given as goal

-- the units so far and those up to the end of the comments that are open are those of the whole
abbrev pub invariant-loop-at : goal.invariant-loop-at
invariant-loop-at l = record {
  within : l.at ≤ length l.text;
  shallow : l.depth ≤ l.at;
  whole : more l.at (closing_size (drop l.at l.text) l.depth) ≡ closing_size l.text 0;
}

abbrev pub decreases-loop-at : goal.decreases-loop-at
decreases-loop-at l = length l.text - l.at
