-- Worked rows: scripts of two sessions, with the replies that the definitions give to them.
use Rattle.std.proofs.Common.{ℕ, List, [], ◌∷◌, None, Some, refl, arith, pos}
use Rattle.lock_modes.specs.declared.KeyPart.TheVariants.{S}
use Rattle.lock_modes.specs.Modes.{exclusive, shared, range_i_n}
use Rattle.value_types.specs.declared.table_name.TableName.{TableName}
use Rattle.value_types.specs.declared.value.Value.{Value}
use Rattle.value_types.specs.declared.value.Value.TheVariants.{Whole}
use Rattle.step_model.specs.declared.manner.Manner.{Manner}
use Rattle.step_model.specs.declared.manner.Patience.TheVariants.{Refuse}
use Rattle.step_model.specs.declared.range.Start.TheVariants.{First, Past}
use Rattle.step_model.specs.declared.range.Stop.TheVariants.{Last}
use Rattle.step_model.specs.declared.op.Hold.TheVariants.{Row as RowAlone, Range}
use Rattle.step_model.specs.declared.op.Op.{Op}
use Rattle.step_model.specs.declared.op.Op.TheVariants.{Begin, Fetch, Insert, Mark, BackTo, Commit}
use Rattle.step_model.specs.declared.reply.Reply.{Reply}
use Rattle.step_model.specs.declared.reply.Reply.TheVariants.{Began, Row, End, Done, Marked, Ended, Wait, TimedOut}
use Rattle.step_model.specs.declared.resource.Place.TheVariants.{At, End as EndOfTable}
use Rattle.step_model.specs.declared.resource.Span.TheVariants.{Transaction as ToEnd}
use Rattle.step_model.specs.Claims.{Claim, claim_of}
use Rattle.step_model.specs.Exchange.{IsSession, IsPriority}
use Rattle.step_model.specs.Moves.{without_wait}
use Rattle.step_model.specs.Runs.{Run, Asked, opening}
use Rattle.step_model.specs.State.{Engine}
use Rattle.step_model.proofs.Scripts.{passes, waits, times_out, then_does, then_waits, patient}

-- ---- range lock: a range keeps a new key out, but not its own session's

abbrev pub t : TableName
t = record { object = 116 ∷ []; part = 0 }

abbrev pub k : ℕ → List Value
k n = Whole (pos n) ∷ []

abbrev pub row : ℕ → ℕ → List Value
row n m = Whole (pos n) ∷ Whole (pos m) ∷ []

abbrev pub does : ℕ → Op → Reply → Asked
does session op reply = record { session = session; exchange = record { op = op; manner = patient; reply = reply } }

abbrev range_lock : List Asked
range_lock =
    does 1 Begin Began
    ∷ does 2 Begin Began
    ∷ does 1 (Fetch t First Last Range S) (End 0)
    ∷ does 2 (Insert t (k 5) (row 5 50)) (Wait 1)
    ∷ does 1 (Insert t (k 3) (row 3 30)) Done
    ∷ does 1 Commit (Ended 0)
    ∷ does 2 (Insert t (k 5) (row 5 50)) Done
    ∷ does 2 Commit (Ended 1)
    ∷ []

pub first_session : IsSession 1
first_session = (omega arith, omega arith)

pub second_session : IsSession 2
second_session = (omega arith, omega arith)

pub priority : IsPriority (pos 0)
priority = (omega arith, omega arith)

abbrev e1 : Engine
e1 = then_does 1 Begin opening

abbrev e2 : Engine
e2 = then_does 2 Begin e1

abbrev e3 : Engine
e3 = then_does 1 (Fetch t First Last Range S) e2

-- what the second session asks there
abbrev e3_claim : Claim
e3_claim = record { on = record { table = t; place = EndOfTable }; pair = range_i_n; kept = None }

abbrev e4 : Engine
e4 = then_waits 2 (Insert t (k 5) (row 5 50)) e3

abbrev e5 : Engine
e5 = then_does 1 (Insert t (k 3) (row 3 30)) e4

abbrev e6 : Engine
e6 = then_does 1 Commit e5

abbrev e7 : Engine
e7 = then_does 2 (Insert t (k 5) (row 5 50)) e6

abbrev e8 : Engine
e8 = then_does 2 Commit e7

pub range_lock_runs : Run opening range_lock e8
range_lock_runs = (
  e1,
  (first_session, (refl, priority)),
  (tt, (refl, refl)),
  (
    e2,
    (second_session, (refl, priority)),
    (tt, (refl, refl)),
    (
      e3,
      (first_session, ((refl, tt), priority)),
      (passes 1 (claim_of (without_wait 1 e2) (Fetch t First Last Range S)) (without_wait 1 e2) refl, (refl, refl)),
      (
        e4,
        (second_session, (refl, priority)),
        (waits 2 1 e3_claim (pos 0) (without_wait 2 e3) refl refl refl),
        (
          e5,
          (first_session, (refl, priority)),
          (passes 1 (claim_of (without_wait 1 e4) (Insert t (k 3) (row 3 30))) (without_wait 1 e4) refl, (refl, refl)),
          (
            e6,
            (first_session, (refl, priority)),
            (tt, (refl, refl)),
            (
              e7,
              (second_session, (refl, priority)),
              (passes 2 (claim_of (without_wait 2 e6) (Insert t (k 5) (row 5 50))) (without_wait 2 e6) refl, (refl, refl)),
              (
                e8,
                (second_session, (refl, priority)),
                (tt, (refl, refl)),
                refl,
              ),
            ),
          ),
        ),
      ),
    ),
  ),
)

-- ---- savepoints: what is taken back stays locked

abbrev savepoints : List Asked
savepoints =
    does 1 Begin Began
    ∷ does 2 Begin Began
    ∷ does 1 (Insert t (k 1) (row 1 10)) Done
    ∷ does 1 Mark (Marked 1)
    ∷ does 1 (Insert t (k 2) (row 2 20)) Done
    ∷ does 1 Mark (Marked 2)
    ∷ does 1 (BackTo 1) Done
    ∷ does 2 (Insert t (k 2) (row 2 21)) (Wait 1)
    ∷ does 1 Commit (Ended 0)
    ∷ does 2 (Insert t (k 2) (row 2 21)) Done
    ∷ does 2 Commit (Ended 1)
    ∷ []

abbrev m3 : Engine
m3 = then_does 1 (Insert t (k 1) (row 1 10)) e2

abbrev m4 : Engine
m4 = then_does 1 Mark m3

abbrev m5 : Engine
m5 = then_does 1 (Insert t (k 2) (row 2 20)) m4

abbrev m6 : Engine
m6 = then_does 1 Mark m5

abbrev m7 : Engine
m7 = then_does 1 (BackTo 1) m6

abbrev m7_claim : Claim
m7_claim = record { on = record { table = t; place = At (k 2) }; pair = exclusive; kept = Some ToEnd }

abbrev m8 : Engine
m8 = then_waits 2 (Insert t (k 2) (row 2 21)) m7

abbrev m9 : Engine
m9 = then_does 1 Commit m8

abbrev m10 : Engine
m10 = then_does 2 (Insert t (k 2) (row 2 21)) m9

abbrev m11 : Engine
m11 = then_does 2 Commit m10

pub savepoints_runs : Run opening savepoints m11
savepoints_runs = (
  e1,
  (first_session, (refl, priority)),
  (tt, (refl, refl)),
  (
    e2,
    (second_session, (refl, priority)),
    (tt, (refl, refl)),
    (
      m3,
      (first_session, (refl, priority)),
      (passes 1 (claim_of (without_wait 1 e2) (Insert t (k 1) (row 1 10))) (without_wait 1 e2) refl, (refl, refl)),
      (
        m4,
        (first_session, (refl, priority)),
        (tt, (refl, refl)),
        (
          m5,
          (first_session, (refl, priority)),
          (passes 1 (claim_of (without_wait 1 m4) (Insert t (k 2) (row 2 20))) (without_wait 1 m4) refl, (refl, refl)),
          (
            m6,
            (first_session, (refl, priority)),
            (tt, (refl, refl)),
            (
              m7,
              (first_session, ((refl, refl), priority)),
              (tt, (refl, refl)),
              (
                m8,
                (second_session, (refl, priority)),
                (waits 2 1 m7_claim (pos 0) (without_wait 2 m7) refl refl refl),
                (
                  m9,
                  (first_session, (refl, priority)),
                  (tt, (refl, refl)),
                  (
                    m10,
                    (second_session, (refl, priority)),
                    (passes 2 (claim_of (without_wait 2 m9) (Insert t (k 2) (row 2 21))) (without_wait 2 m9) refl, (refl, refl)),
                    (
                      m11,
                      (second_session, (refl, priority)),
                      (tt, (refl, refl)),
                      refl,
                    ),
                  ),
                ),
              ),
            ),
          ),
        ),
      ),
    ),
  ),
)

-- ---- fetching past a writer: an impatient fetch is refused, and comes again

abbrev impatient : Manner
impatient = record { patience = Refuse; priority = pos 0 }

abbrev scan : Op
scan = Fetch t First Last RowAlone S

abbrev onward : Op
onward = Fetch t (Past (k 1)) Last RowAlone S

abbrev tries : ℕ → Op → Reply → Asked
tries session op reply = record { session = session; exchange = record { op = op; manner = impatient; reply = reply } }

abbrev past_a_writer : List Asked
past_a_writer =
    does 1 Begin Began
    ∷ does 2 Begin Began
    ∷ does 1 (Insert t (k 1) (row 1 10)) Done
    ∷ tries 2 scan (TimedOut 1 exclusive shared (record { table = t; place = At (k 1) }))
    ∷ does 1 Commit (Ended 0)
    ∷ tries 2 scan (Row (k 1) (row 1 10) 1)
    ∷ tries 2 onward (End 1)
    ∷ []

abbrev n4 : Engine
n4 = without_wait 2 m3

abbrev n5 : Engine
n5 = then_does 1 Commit n4

abbrev n6 : Engine
n6 = then_does 2 scan n5

abbrev n7 : Engine
n7 = then_does 2 onward n6

pub past_a_writer_runs : Run opening past_a_writer n7
past_a_writer_runs = (
  e1,
  (first_session, (refl, priority)),
  (tt, (refl, refl)),
  (
    e2,
    (second_session, (refl, priority)),
    (tt, (refl, refl)),
    (
      m3,
      (first_session, (refl, priority)),
      (passes 1 (claim_of (without_wait 1 e2) (Insert t (k 1) (row 1 10))) (without_wait 1 e2) refl, (refl, refl)),
      (
        n4,
        (second_session, ((refl, tt), priority)),
        (times_out 2 1 (record { on = record { table = t; place = At (k 1) }; pair = shared; kept = None }) (without_wait 2 m3) refl, refl),
        (
          n5,
          (first_session, (refl, priority)),
          (tt, (refl, refl)),
          (
            n6,
            (second_session, ((refl, tt), priority)),
            (passes 2 (claim_of (without_wait 2 n5) scan) (without_wait 2 n5) refl, (refl, refl)),
            (
              n7,
              (second_session, ((refl, tt), priority)),
              (passes 2 (claim_of (without_wait 2 n6) onward) (without_wait 2 n6) refl, (refl, refl)),
              refl,
            ),
          ),
        ),
      ),
    ),
  ),
)
