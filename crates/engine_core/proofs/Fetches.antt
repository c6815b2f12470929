-- A fetch, by the key that it finds.
use Rattle.std.proofs.Common.{◌≡◌, ℕ, Bool, true, false, if◌then◌else◌, List, length, Option, None, Some, refl, ap, subst, ◌∙◌}
use Rattle.std.specs.Option.{option_map}
use Rattle.value_types.specs.declared.table_name.TableName.{TableName}
use Rattle.value_types.specs.declared.value.Value.{Value}
use Rattle.lock_modes.specs.declared.KeyPart.{KeyPart}
use Rattle.step_model.specs.declared.manner.Manner.{Manner}
use Rattle.step_model.specs.declared.range.Start.{Start}
use Rattle.step_model.specs.declared.range.Stop.{Stop}
use Rattle.step_model.specs.declared.op.Hold.{Hold}
use Rattle.step_model.specs.declared.op.Op.TheVariants.{Fetch}
use Rattle.step_model.specs.declared.reply.Reply.{Reply}
use Rattle.step_model.specs.declared.reply.Reply.TheVariants.{End}
use Rattle.step_model.specs.Database.{includes}
use Rattle.step_model.specs.Entries.{Entry, next_entry, seen_by}
use Rattle.step_model.specs.State.{Engine}
use Rattle.step_model.specs.Claims.{Claim, Passes, claim_of, with_claim}
use Rattle.step_model.specs.Step.{StepFrom, fetch_reply, entry_reply}
use Rattle.engine_core.specs.AtKeys.{fetch_claim_at, fetch_reply_at}
use Rattle.engine_core.proofs.Looks.{claim_found, reply_found}

-- a fetch that passes is a step
fetch_steps : (mid : Engine) (session : ℕ) (table : TableName) (start : Start) (stop : Stop) (hold : Hold) (part : KeyPart) (manner : Manner) (reply : Reply) (new : Engine)
    → Passes session (claim_of mid (Fetch table start stop hold part)) mid → reply ≡ fetch_reply session stop (length mid.log) (next_entry mid.entries table start) → new ≡ with_claim session (claim_of mid (Fetch table start stop hold part)) mid
    → StepFrom mid session (Fetch table start stop hold part) manner reply new
fetch_steps mid session table start stop hold part manner reply new passes is grown = rw is (by_found (next_entry mid.entries table start) refl)
  where
    goes : Reply → Type 0
    goes r = r ≡ fetch_reply session stop (length mid.log) (next_entry mid.entries table start) → StepFrom mid session (Fetch table start stop hold part) manner r new

    by_row : (o : Option (List Value)) (key : List Value) → goes (entry_reply o key (length mid.log))
    by_row None key = λ same. (passes, (same, grown))
    by_row (Some row) key = λ same. (passes, (same, grown))

    by_found : (o : Option Entry) → goes (fetch_reply session stop (length mid.log) o)
    by_found None = λ same. (passes, (same, grown))
    by_found (Some e) = by_stop (includes stop e.key)
      where
        by_stop : (b : Bool) → goes (if b then entry_reply (seen_by session e) e.key (length mid.log) else End (length mid.log))
        by_stop true = by_row (seen_by session e) e.key
        by_stop false = λ same. (passes, (same, grown))

-- the key that is found
pub found_now : (now : Engine) (es : List Entry) (table : TableName) (start : Start) (found : Option (List Value)) → es ≡ now.entries
    → found ≡ option_map (λ (e : Entry). e.key) (next_entry es table start) → found ≡ option_map (λ (e : Entry). e.key) (next_entry now.entries table start)
found_now now es table start found same is = is ∙ ap (λ (xs : List Entry). option_map (λ (e : Entry). e.key) (next_entry xs table start)) same

module _ (now : Engine) (session : ℕ) (table : TableName) (start : Start) (stop : Stop) (hold : Hold) (part : KeyPart) (found : Option (List Value))
    (found_is : found ≡ option_map (λ (e : Entry). e.key) (next_entry now.entries table start)) where
  pub claim_is : fetch_claim_at hold part table stop found ≡ claim_of now (Fetch table start stop hold part)
  claim_is = rw found_is (claim_found now.entries table start stop hold part)

  pub fetch_done : (manner : Manner) (reply : Reply) (claim : Option Claim) (new : Engine) → claim ≡ fetch_claim_at hold part table stop found → Passes session claim now → reply ≡ fetch_reply_at now.entries session table stop (length now.log) found → new ≡ with_claim session claim now
      → StepFrom now session (Fetch table start stop hold part) manner reply new
  fetch_done manner reply claim new is passes answers grown =
      let same : claim ≡ claim_of now (Fetch table start stop hold part) = is ∙ claim_is in
      fetch_steps now session table start stop hold part manner reply new (subst (λ (c : Option Claim). Passes session c now) same passes)
      (answers ∙ ap (fetch_reply_at now.entries session table stop (length now.log)) found_is ∙ reply_found now.entries session table start stop (length now.log))
      (grown ∙ ap (λ (c : Option Claim). with_claim session c now) same)
