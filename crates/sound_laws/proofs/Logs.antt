-- Where each commit is one of a batch, each database of the log is intact; and so it is sound.
use Rattle.std.proofs.Common.{◌≡◌, ℕ, zero, suc, ◌+◌, ◌-◌, ◌≤◌, ◌<◌, List, length, take, subst, arith}
use Rattle.step_model.specs.Database.{nothing}
use Rattle.step_model.specs.Log.{Commit as Logged, State}
use Rattle.write_laws.specs.Indexed.{own_rows}
use Rattle.write_laws.proofs.Indexed.{indexed_empty}
use Rattle.write_laws.proofs.Owned.{firm_nothing}
use Rattle.write_laws.proofs.Whole.{firm_sound}
use Rattle.sound_laws.specs.Laws.{IntactSound, IsOfBatch, LogSound, WholeLogSound}
use Rattle.sound_laws.specs.Stands.{Intact}
use Rattle.sound_laws.proofs.Serving.{served_keep}

pub intact_sound : IntactSound
intact_sound db intact = record { rows = firm_sound (own_rows db) intact.firm; indexed = intact.indexed }

-- so is one without rows
pub intact_empty : Intact nothing
intact_empty = record { firm = firm_nothing; indexed = indexed_empty }

-- one commit more
one_more : (log : List Logged) (place : ℕ) → IsOfBatch log place → Intact (State (take place log)) → Intact (State (take (place + 1) log))
one_more log place of intact =
    subst (λ (n : ℕ). Intact (State (take (place + n) log))) of.one
    ((served_keep of.session of.begin log of.mine of.tied of.before of.part of.later of.now of.split of.shut of.served).0 of.front of.behind of.exchange of.among of.commits place of.ended intact)

module _ (log : List Logged) (first : ℕ) (intact : Intact (State (take first log))) (each : (place : ℕ) → first ≤ place → place < length log → IsOfBatch log place) where
  so_many : (n : ℕ) → first + n ≤ length log → Intact (State (take (first + n) log))
  so_many zero high = let same : first ≡ first + 0 = omega arith in subst (λ (n : ℕ). Intact (State (take n log))) same intact
  so_many (suc n) high =
      let same : (first + n) + 1 ≡ first + suc n = omega arith in
      let below : first + n < length log = omega arith in
      let within : first + n ≤ length log = omega arith in
      let behind : first ≤ first + n = omega arith in
      subst (λ (n : ℕ). Intact (State (take n log))) same (one_more log (first + n) (each (first + n) behind below) (so_many n within))

pub log_sound : LogSound
log_sound log first intact each place low high =
    let same : first + (place - first) ≡ place = omega arith in
    let within : first + (place - first) ≤ length log = omega arith in
    subst (λ (n : ℕ). Intact (State (take n log))) same (so_many log first intact each (place - first) within)

pub whole_log_sound : WholeLogSound
whole_log_sound log each place high =
    log_sound log 0 intact_empty (λ place low. each place) place (omega arith) high
