-- A fetch leaves its session where it stands.
use Rattle.std.proofs.Common.{◌≡◌, ℕ, List, refl}
use Rattle.lock_modes.specs.declared.KeyPart.{KeyPart}
use Rattle.value_types.specs.declared.table_name.TableName.{TableName}
use Rattle.step_model.specs.declared.op.Hold.{Hold}
use Rattle.step_model.specs.declared.op.Op.TheVariants.{Fetch}
use Rattle.step_model.specs.declared.range.Start.{Start}
use Rattle.step_model.specs.declared.range.Stop.{Stop}
use Rattle.step_model.specs.declared.reply.Reply.{Reply}
use Rattle.step_model.specs.declared.reply.Reply.TheVariants.{Ended}
use Rattle.step_model.specs.Exchange.{Standing, CanReply}
use Rattle.step_model.specs.Port.{standing_after}

pub fetch_stands : (before : Standing) (table : TableName) (start : Start) (stop : Stop) (hold : Hold) (part : KeyPart) (reply : Reply)
    → CanReply (Fetch table start stop hold part) reply → standing_after before (Fetch table start stop hold part) reply ≡ before
fetch_stands before table start stop hold part (Ended place) can = absurd can
fetch_stands before table start stop hold part reply can = refl
