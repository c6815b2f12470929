-- The request of fields that lie in a payload, where a name is a part of its bytes.
use Rattle.std.specs.Prelude.{◌≡◌, option_map, Result, Ok, Err}
use Rattle.value_types.specs.Units.{units_of}
use Rattle.transaction_requests.specs.declared.fault.Refusal.{Refusal}
use Rattle.transaction_requests.specs.declared.request.NewFields.{NewFields}
use Rattle.transaction_requests.specs.declared.request.RequestFields.{RequestFields}
use Rattle.transaction_requests.specs.declared.request.RequestFields.TheVariants as fields
use Rattle.transaction_requests.specs.Reading.{NewTransaction, TransactionRequest, begins, commits, rolls_back, saves}

-- a function of the code returned what reading gives, seen by `view`
abbrev pub Gives : {X Y : Type 0} → (X → Y) → Result X Refusal → Result Y Refusal → Type 0
Gives view (Ok x) read = read ≡ Ok (view x)
Gives view (Err refusal) read = read ≡ Err refusal

-- a transaction that is to begin
abbrev pub seen_new : NewFields → NewTransaction
seen_new new = record { level = new.level; name = units_of new.name.now }

-- a request
abbrev pub seen : RequestFields → TransactionRequest
seen (fields.Begins new) = begins (seen_new new)
seen (fields.Commits name anew) = commits (units_of name.now) (option_map seen_new anew)
seen (fields.RollsBack name anew) = rolls_back (units_of name.now) (option_map seen_new anew)
seen (fields.Saves name) = saves (units_of name.now)
