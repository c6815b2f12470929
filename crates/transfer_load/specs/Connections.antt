-- Own: the connections of workers, one each: a line with the source of a worker's batches and the sink of the replies to them. The code keeps a place
-- in the bytes, and the number of the worker beside them.
use Rattle.std.specs.Prelude.{◌≡◌, ℕ, ◌+◌, List, [], ◌∷◌, length, Option, Some}
use Rattle.std.specs.List.{flat_map}
use Rattle.outside_io.specs.declared.joined.Joined.{Joined}
use Rattle.tds_tokens.specs.declared.token.Token.{Token}
use Rattle.transfer_load.specs.Batches.{batches_bytes, worker_texts}
use Rattle.transfer_load.specs.Replies.{AreReplies}

-- what a source of batches has left and has given
pub record InputState : Type 0 where
  pub left : List ℕ
  pub given : List ℕ

-- it tells both, and never fails
abbrev pub input_left : InputState → Option (List ℕ)
input_left input = Some input.left

abbrev pub input_given : InputState → Option (List ℕ)
input_given input = Some input.given

abbrev pub input_faults : InputState → ℕ
input_faults input = 0

-- a sink of replies is seen as what was written to it; it tells that, and never fails
abbrev pub output_written : List ℕ → Option (List ℕ)
output_written written = Some written

abbrev pub output_faults : List ℕ → ℕ
output_faults written = 0

-- a worker's line
abbrev pub Connection : Type 0
Connection = Joined InputState (List ℕ)

abbrev pub line_left : Connection → Option (List ℕ)
line_left line = input_left line.source

abbrev pub line_given : Connection → Option (List ℕ)
line_given line = input_given line.source

abbrev pub read_faults : Connection → ℕ
read_faults line = input_faults line.source

abbrev pub line_written : Connection → Option (List ℕ)
line_written line = output_written line.sink

abbrev pub write_faults : Connection → ℕ
write_faults line = output_faults line.sink

-- all batches of this worker were taken, and each has a reply
pub record IsDone (transfers worker : ℕ) (connection : Connection) (replies : List (List Token)) : Type 0 where
  pub taken : connection.source.given ≡ batches_bytes (worker_texts transfers worker)
  pub none_left : connection.source.left ≡ []
  pub written : AreReplies connection.sink replies
  pub many : length replies ≡ transfers

-- so it is of all workers, the first of which has this number
abbrev pub AreDone : ℕ → ℕ → List Connection → List (List (List Token)) → Type 0
AreDone transfers worker [] [] = Unit {0}
AreDone transfers worker [] (replies ∷ each) = ⊥
AreDone transfers worker (connection ∷ connections) [] = ⊥
AreDone transfers worker (connection ∷ connections) (replies ∷ each) = IsDone transfers worker connection replies × AreDone transfers (worker + 1) connections each

-- the replies to all workers
abbrev pub all_replies : List (List (List Token)) → List (List Token)
all_replies each = flat_map (λ replies. replies) each
