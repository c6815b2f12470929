-- Replacements, erasures, and insertions at an entry.
use Rattle.std.proofs.Common.{◌≡◌, ℕ, false, List, Option, None, Some, is_some, IsSome, refl, sym, ap, subst, ◌∙◌}
use Rattle.std.specs.Option.{option_and_then}
use Rattle.value_types.specs.declared.table_name.TableName.{TableName}
use Rattle.value_types.specs.declared.value.Value.{Value}
use Rattle.step_model.specs.declared.manner.Manner.{Manner}
use Rattle.step_model.specs.declared.op.Op.TheVariants.{Insert}
use Rattle.step_model.specs.declared.reply.Reply.{Reply}
use Rattle.step_model.specs.Entries.{Entry, entry_at, row_at, seen_by, place_at}
use Rattle.step_model.specs.State.{Engine}
use Rattle.step_model.specs.Claims.{Claim, Passes, claim_of, write_claim, insert_claim, with_claim}
use Rattle.step_model.specs.Step.{StepFrom, Does, Writes, Inserts, write_reply, write_at, insert_reply, insert_at}
use Rattle.history_laws.proofs.StepMoves.{granted_none}
use Rattle.engine_core.specs.AtKeys.{write_op}

module _ (now : Engine) (session : ℕ) (t : TableName) (k : List Value) where
  module _ (row : Option (List Value)) where
    pub write_asks : claim_of now (write_op t k row) ≡ write_claim (entry_at now.entries t k)
    write_asks = by_row row
      where
        by_row : (o : Option (List Value)) → claim_of now (write_op t k o) ≡ write_claim (entry_at now.entries t k)
        by_row None = refl
        by_row (Some r) = refl

    does_write : (reply : Reply) (new : Engine) → Writes session t k row now reply new → Does now session (write_op t k row) reply new
    does_write reply new = by_row row
      where
        by_row : (o : Option (List Value)) → Writes session t k o now reply new → Does now session (write_op t k o) reply new
        by_row None writes = writes
        by_row (Some r) writes = writes

    -- a write that passes is a step
    pub write_steps : (manner : Manner) (reply : Reply) (new : Engine) → Passes session (write_claim (entry_at now.entries t k)) now → reply ≡ write_reply (row_at session now.entries t k)
        → new ≡ write_at session t k row (row_at session now.entries t k) (with_claim session (write_claim (entry_at now.entries t k)) now) → StepFrom now session (write_op t k row) manner reply new
    write_steps manner reply new passes is grown = rw is (by_seen (row_at session now.entries t k) refl)
      where
        asks : Passes session (claim_of now (write_op t k row)) now
        asks = subst (λ (c : Option Claim). Passes session c now) (sym write_asks) passes

        by_seen : (o : Option (List Value)) → row_at session now.entries t k ≡ o → StepFrom now session (write_op t k row) manner (write_reply o) new
        by_seen None seen = (asks, does_write (write_reply None) new (ap write_reply (sym seen), grown))
        by_seen (Some r) seen = (asks, does_write (write_reply (Some r)) new (ap write_reply (sym seen), grown))

    -- where no entry is there is nothing to write
    pub write_misses : (manner : Manner) → is_some (entry_at now.entries t k) ≡ false → StepFrom now session (write_op t k row) manner (write_reply None) now
    write_misses manner none = write_steps manner (write_reply None) now (absent (λ c. Passes session c now) tt) (ap write_reply (sym unseen)) (absent (λ c. now ≡ write_at session t k row (row_at session now.entries t k) (with_claim session c now)) (rw unseen (sym (granted_none session now))))
      where
        no_entry : entry_at now.entries t k ≡ None
        no_entry = by_found (entry_at now.entries t k) none
          where
            by_found : (o : Option Entry) → is_some o ≡ false → o ≡ None
            by_found None is = refl
            by_found (Some e) is = cc

        absent : (P : Option Claim → Type 0) → P None → P (write_claim (entry_at now.entries t k))
        absent P p = subst (λ (o : Option Entry). P (write_claim o)) (sym no_entry) p

        unseen : row_at session now.entries t k ≡ None
        unseen = ap (option_and_then (seen_by session)) no_entry

  -- an insertion at an entry asks what a write does
  pub insert_asks : (row : List Value) → IsSome (entry_at now.entries t k) → claim_of now (Insert t k row) ≡ write_claim (entry_at now.entries t k)
  insert_asks row there = by_found (entry_at now.entries t k) there
    where
      by_found : (o : Option Entry) → IsSome o → Some (insert_claim t o (place_at now.entries t k)) ≡ write_claim o
      by_found None there = cc
      by_found (Some e) there = refl

  -- an insertion at an entry that passes is a step
  pub insert_steps : (row : List Value) (manner : Manner) (reply : Reply) (new : Engine) → IsSome (entry_at now.entries t k) → Passes session (write_claim (entry_at now.entries t k)) now → reply ≡ insert_reply (row_at session now.entries t k)
      → new ≡ insert_at session t k row (row_at session now.entries t k) (with_claim session (write_claim (entry_at now.entries t k)) now) → StepFrom now session (Insert t k row) manner reply new
  insert_steps row manner reply new there passes is grown = rw is (by_seen (row_at session now.entries t k) refl)
    where
      asks : Passes session (claim_of now (Insert t k row)) now
      asks = subst (λ (c : Option Claim). Passes session c now) (sym (insert_asks row there)) passes

      does : (r : Reply) → r ≡ insert_reply (row_at session now.entries t k) → Does now session (Insert t k row) r new
      does r answers = by_found (entry_at now.entries t k) refl there
        where
          by_found : (o : Option Entry) → entry_at now.entries t k ≡ o → IsSome o → Inserts session t k row o now r new
          by_found None found there = cc
          by_found (Some e) found there =
              let seen : row_at session now.entries t k ≡ seen_by session e = ap (option_and_then (seen_by session)) found in (
                answers ∙ ap insert_reply seen,
                grown ∙ ap (λ (s : Option (List Value)). insert_at session t k row s (with_claim session (write_claim (entry_at now.entries t k)) now)) seen
                    ∙ ap (λ (c : Option Claim). insert_at session t k row (seen_by session e) (with_claim session c now)) (sym (insert_asks row (rw found there))),
              )

      by_seen : (o : Option (List Value)) → row_at session now.entries t k ≡ o → StepFrom now session (Insert t k row) manner (insert_reply o) new
      by_seen None seen = (asks, does (insert_reply None) (ap insert_reply (sym seen)))
      by_seen (Some r) seen = (asks, does (insert_reply (Some r)) (ap insert_reply (sym seen)))
