use Rattle.std.proofs.Common.{◌≡◌, length}
use Rattle.tds_client.specs.Replies.{first_error}
use Rattle.tds_client.proofs.replies.first_error.Given as goal

-- the tokens so far are no ERROR
abbrev pub invariant-loop-left : goal.invariant-loop-left
invariant-loop-left l = first_error l.left ≡ first_error l.initial.left

abbrev pub decreases-loop-left : goal.decreases-loop-left
decreases-loop-left l = length l.left
