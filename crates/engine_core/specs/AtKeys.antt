-- Own: what an operation asks and is answered, by the key that is found in place of the entry: so a look-up gives
-- no more than a key.
use Rattle.std.specs.Prelude.{◌≡◌, ℕ, List, Option, None, Some, if◌then◌else◌}
use Rattle.lock_modes.specs.declared.KeyPart.{KeyPart}
use Rattle.lock_modes.specs.Modes.{exclusive, range_i_n}
use Rattle.value_types.specs.declared.table_name.TableName.{TableName}
use Rattle.value_types.specs.declared.value.Value.{Value}
use Rattle.step_model.specs.declared.manner.Manner.{Manner}
use Rattle.step_model.specs.declared.op.Hold.{Hold}
use Rattle.step_model.specs.declared.op.Op.{Op}
use Rattle.step_model.specs.declared.op.Op.TheVariants.{Replace, Erase}
use Rattle.step_model.specs.declared.range.Stop.{Stop}
use Rattle.step_model.specs.declared.reply.Reply.{Reply}
use Rattle.step_model.specs.declared.reply.Reply.TheVariants.{End}
use Rattle.step_model.specs.declared.resource.Place.TheVariants.{At, End as Behind}
use Rattle.step_model.specs.declared.resource.Resource.{Resource}
use Rattle.step_model.specs.declared.resource.Span.TheVariants.{Transaction as Whole}
use Rattle.step_model.specs.Database.{includes}
use Rattle.step_model.specs.Entries.{Entry, row_at, entry_at}
use Rattle.step_model.specs.State.{Engine}
use Rattle.step_model.specs.Claims.{Claim, inside_claim, past_claim, claim_of, write_claim}
use Rattle.step_model.specs.Step.{StepFrom, entry_reply}

-- the resource of a found key, or the end of the table
abbrev pub resource_at : TableName → Option (List Value) → Resource
resource_at table None = record { table = table; place = Behind }
resource_at table (Some key) = record { table = table; place = At key }

-- what a fetch asks
abbrev pub fetch_claim_at : Hold → KeyPart → TableName → Stop → Option (List Value) → Option Claim
fetch_claim_at hold part table stop None = past_claim hold (resource_at table None)
fetch_claim_at hold part table stop (Some key) = if includes stop key then Some (inside_claim hold part (resource_at table (Some key))) else past_claim hold (resource_at table (Some key))

-- what it is answered
abbrev pub fetch_reply_at : List Entry → ℕ → TableName → Stop → ℕ → Option (List Value) → Reply
fetch_reply_at entries session table stop at None = End at
fetch_reply_at entries session table stop at (Some key) = if includes stop key then entry_reply (row_at session entries table key) key at else End at

-- X on a resource, to the transaction's end
abbrev pub claim_x : Resource → Claim
claim_x on = record { on = on; pair = exclusive; kept = Some Whole }

-- RangeI-N on a resource, tested only
abbrev pub claim_insertion : Resource → Claim
claim_insertion on = record { on = on; pair = range_i_n; kept = None }

-- the operation that sets a row where one is seen, or takes it away
abbrev pub write_op : TableName → List Value → Option (List Value) → Op
write_op table key None = Erase table key
write_op table key (Some row) = Replace table key row

-- a reply that does not let pass whatever operation asks X on the key's entry
abbrev pub IsRefusedX : Engine → ℕ → TableName → List Value → Manner → Reply → Engine → Type 0
IsRefusedX old session table key manner reply new = (op : Op) → claim_of old op ≡ write_claim (entry_at old.entries table key) → StepFrom old session op manner reply new
