use Rattle.std.proofs.Common.{◌≡◌, length}
use Rattle.transfer_load.specs.Replies.{number_in}
use Rattle.transfer_load.proofs.replies.number_in.Given as goal

-- the tokens so far have no number
abbrev pub invariant-loop-left : goal.invariant-loop-left
invariant-loop-left l = number_in l.left ≡ number_in l.initial.left

abbrev pub decreases-loop-left : goal.decreases-loop-left
decreases-loop-left l = length l.left
