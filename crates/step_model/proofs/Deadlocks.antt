-- Worked rows: scripts in which sessions wait for one another in a circle, with the replies that the definitions
-- give to them.
use Rattle.std.proofs.Common.{◌≡◌, ◌≢◌, ◌==◌, ℕ, false, List, [], ◌∷◌, None, Some, inl, inr, refl, sym, ◌∙◌, subst, arith, pos, negsuc, eq-eqb, true}
use Rattle.lock_modes.specs.declared.KeyPart.TheVariants.{S}
use Rattle.lock_modes.specs.Modes.{exclusive, shared, range_s_s, range_i_n}
use Rattle.value_types.specs.declared.table_name.TableName.{TableName}
use Rattle.step_model.specs.declared.edge.Edge.{Edge}
use Rattle.step_model.specs.declared.rank.Rank.{Rank}
use Rattle.step_model.specs.declared.manner.Manner.{Manner}
use Rattle.step_model.specs.declared.manner.Patience.TheVariants.{Forever}
use Rattle.step_model.specs.declared.range.Start.TheVariants.{First}
use Rattle.step_model.specs.declared.range.Stop.TheVariants.{Last}
use Rattle.step_model.specs.declared.op.Hold.TheVariants.{Row as RowAlone, Range}
use Rattle.step_model.specs.declared.op.Op.{Op}
use Rattle.step_model.specs.declared.op.Op.TheVariants.{Begin, Fetch, Insert, Commit, Rollback}
use Rattle.step_model.specs.declared.reply.Reply.{Reply}
use Rattle.step_model.specs.declared.reply.Reply.TheVariants.{Began, End, Done, Ended, Wait, Victim}
use Rattle.step_model.specs.declared.resource.Place.TheVariants.{At, End as EndOfTable}
use Rattle.step_model.specs.declared.resource.Resource.{Resource}
use Rattle.step_model.specs.Claims.{Claim, claim_of}
use Rattle.step_model.specs.Cycles.{Conflicts, IsCycleAt}
use Rattle.step_model.specs.Exchange.{IsSession, IsPriority}
use Rattle.step_model.specs.Moves.{without_wait, without_victim, after_fall}
use Rattle.step_model.specs.Runs.{Run, Asked, opening}
use Rattle.step_model.specs.State.{Engine}
use Rattle.step_model.specs.Victims.{FallsBefore, rank_of}
use Rattle.step_model.specs.Deadlocks.{IsEdge, Fells, ranks_of, wait_for}
use Rattle.step_model.proofs.Cycles.{each_waiter}
use Rattle.step_model.proofs.Rows.{t, k, row, does, first_session, second_session, priority}
use Rattle.step_model.proofs.Scripts.{passes, waits, then_does, then_waits, wait_at, foe, free}

-- ---- two sessions that both want to insert where both have fetched

abbrev scan : Op
scan = Fetch t First Last Range S

abbrev end_of_t : Resource
end_of_t = record { table = t; place = EndOfTable }

abbrev insert_one : Op
insert_one = Insert t (k 1) (row 1 10)

abbrev insert_two : Op
insert_two = Insert t (k 2) (row 2 20)

-- what both insertions ask
abbrev asked_there : Claim
asked_there = record { on = end_of_t; pair = range_i_n; kept = None }

abbrev edge_at_end : ℕ → ℕ → Edge
edge_at_end waiter holder = record { waiter = waiter; asked = range_i_n; on = end_of_t; holder = holder; held = range_s_s }

abbrev two_and_one : List Edge
two_and_one = edge_at_end 2 1 ∷ edge_at_end 1 2 ∷ []

differ : (a b : ℕ) → (a == b) ≡ false → a ≢ b
differ a b is same = let h : true ≡ false = sym (eq-eqb a b same) ∙ is in cc

-- two ranks that are known
known_falls : (one other a b : Rank) → FallsBefore one other → Some one ≡ Some a → Some other ≡ Some b → FallsBefore a b
known_falls one other a b falls a_is b_is =
    let first : one ≡ a = cc in
    let second : other ≡ b = cc in
    subst (λ (r : Rank). FallsBefore r b) first (subst (FallsBefore one) second falls)

abbrev deadlock : List Asked
deadlock =
    does 1 Begin Began
    ∷ does 2 Begin Began
    ∷ does 1 scan (End 0)
    ∷ does 2 scan (End 0)
    ∷ does 1 insert_one (Wait 2)
    ∷ does 2 insert_two (Victim two_and_one)
    ∷ does 2 Rollback (Ended 0)
    ∷ does 1 insert_one Done
    ∷ does 1 Commit (Ended 0)
    ∷ []

abbrev d1 : Engine
d1 = then_does 1 Begin opening

abbrev d2 : Engine
d2 = then_does 2 Begin d1

abbrev d3 : Engine
d3 = then_does 1 scan d2

abbrev d4 : Engine
d4 = then_does 2 scan d3

abbrev d5 : Engine
d5 = then_waits 1 insert_one d4

-- the second session would wait here
abbrev both_wait : Engine
both_wait = then_waits 2 insert_two d5

abbrev d6 : Engine
d6 = without_wait 2 both_wait

abbrev d7 : Engine
d7 = then_does 2 Rollback d6

abbrev d8 : Engine
d8 = then_does 1 insert_one d7

abbrev d9 : Engine
d9 = then_does 1 Commit d8

conflict_at_end : (waiter holder : ℕ) → (waiter == holder) ≡ false → Conflicts (edge_at_end waiter holder)
conflict_at_end waiter holder apart = (differ waiter holder apart, refl)

closes_two : IsCycleAt (IsEdge both_wait) 2 two_and_one
closes_two = record {
  closed = ((conflict_at_end 2 1 refl, (conflict_at_end 1 2 refl, tt)), ((differ 2 1 refl, tt), (tt, tt)), (refl, refl));
  begins = refl;
  among = (
    record { wait = wait_for asked_there (pos 0); waits = refl; on = refl; asked = refl; held = refl; conflicts = conflict_at_end 2 1 refl },
    (record { wait = wait_for asked_there (pos 0); waits = refl; on = refl; asked = refl; held = refl; conflicts = conflict_at_end 1 2 refl }, tt),
  );
}

-- neither has changed anything and both have one priority: the greater number falls
fells_second : Fells 2 both_wait two_and_one 2
fells_second = record {
  closes = closes_two;
  victim = record {
    waits = refl;
    first = λ other there apart a b a_is b_is. each_waiter (λ n. n ≢ 2 → (b : Rank) → rank_of n (ranks_of both_wait) ≡ Some b → FallsBefore a b) two_and_one
        ((λ apart b b_is. absurd (apart refl)), ((λ apart b b_is. known_falls _ _ a b (inr (refl, inr (refl, omega arith))) a_is b_is), tt)) other there apart b b_is;
  };
}

pub deadlock_runs : Run opening deadlock d9
deadlock_runs = (
  d1,
  (first_session, (refl, priority)),
  (tt, (refl, refl)),
  (
    d2,
    (second_session, (refl, priority)),
    (tt, (refl, refl)),
    (
      d3,
      (first_session, ((refl, tt), priority)),
      (passes 1 (claim_of (without_wait 1 d2) scan) (without_wait 1 d2) refl, (refl, refl)),
      (
        d4,
        (second_session, ((refl, tt), priority)),
        (passes 2 (claim_of (without_wait 2 d3) scan) (without_wait 2 d3) refl, (refl, refl)),
        (
          d5,
          (first_session, (refl, priority)),
          (waits 1 2 asked_there (pos 0) (without_wait 1 d4) refl refl refl),
          (
            d6,
            (second_session, (refl, priority)),
            (refl, record { broken = []; last = both_wait; breaks = refl; falls = fells_second; left = refl }),
            (
              d7,
              (second_session, (refl, priority)),
              (tt, (refl, refl)),
              (
                d8,
                (first_session, (refl, priority)),
                (passes 1 (claim_of (without_wait 1 d7) insert_one) (without_wait 1 d7) refl, (refl, refl)),
                (
                  d9,
                  (first_session, (refl, priority)),
                  (tt, (refl, refl)),
                  refl,
                ),
              ),
            ),
          ),
        ),
      ),
    ),
  ),
)

-- ---- the same, where the first session has a lower priority: it falls while it waits

abbrev low : Manner
low = record { patience = Forever; priority = negsuc 4 }

low_priority : IsPriority (negsuc 4)
low_priority = (omega arith, omega arith)

abbrev does_low : ℕ → Op → Reply → Asked
does_low session op reply = record { session = session; exchange = record { op = op; manner = low; reply = reply } }

abbrev other_falls : List Asked
other_falls =
    does_low 1 Begin Began
    ∷ does 2 Begin Began
    ∷ does_low 1 scan (End 0)
    ∷ does 2 scan (End 0)
    ∷ does_low 1 insert_one (Wait 2)
    ∷ does 2 insert_two (Wait 1)
    ∷ does_low 1 insert_one (Victim two_and_one)
    ∷ does_low 1 Rollback (Ended 0)
    ∷ does 2 insert_two Done
    ∷ []

abbrev b5 : Engine
b5 = wait_at 1 (claim_of (without_wait 1 d4) insert_one) (negsuc 4) (without_wait 1 d4)

abbrev in_a_circle : Engine
in_a_circle = then_waits 2 insert_two b5

abbrev b6 : Engine
b6 = after_fall 1 two_and_one in_a_circle

abbrev b7 : Engine
b7 = without_victim 1 (without_wait 1 b6)

abbrev b8 : Engine
b8 = then_does 1 Rollback b7

abbrev b9 : Engine
b9 = then_does 2 insert_two b8

closes_again : IsCycleAt (IsEdge in_a_circle) 2 two_and_one
closes_again = record {
  closed = closes_two.closed;
  begins = refl;
  among = (
    record { wait = wait_for asked_there (pos 0); waits = refl; on = refl; asked = refl; held = refl; conflicts = conflict_at_end 2 1 refl },
    (record { wait = wait_for asked_there (negsuc 4); waits = refl; on = refl; asked = refl; held = refl; conflicts = conflict_at_end 1 2 refl }, tt),
  );
}

fells_first : Fells 2 in_a_circle two_and_one 1
fells_first = record {
  closes = closes_again;
  victim = record {
    waits = refl;
    first = λ other there apart a b a_is b_is. each_waiter (λ n. n ≢ 1 → (b : Rank) → rank_of n (ranks_of in_a_circle) ≡ Some b → FallsBefore a b) two_and_one
        ((λ apart b b_is. known_falls _ _ a b (inl (omega arith)) a_is b_is), ((λ apart b b_is. absurd (apart refl)), tt)) other there apart b b_is;
  };
}

pub other_falls_runs : Run opening other_falls b9
other_falls_runs = (
  d1,
  (first_session, (refl, low_priority)),
  (tt, (refl, refl)),
  (
    d2,
    (second_session, (refl, priority)),
    (tt, (refl, refl)),
    (
      d3,
      (first_session, ((refl, tt), low_priority)),
      (passes 1 (claim_of (without_wait 1 d2) scan) (without_wait 1 d2) refl, (refl, refl)),
      (
        d4,
        (second_session, ((refl, tt), priority)),
        (passes 2 (claim_of (without_wait 2 d3) scan) (without_wait 2 d3) refl, (refl, refl)),
        (
          b5,
          (first_session, (refl, low_priority)),
          (waits 1 2 asked_there (negsuc 4) (without_wait 1 d4) refl refl refl),
          (
            b6,
            (second_session, (refl, priority)),
            (
              refl,
              (range_s_s, foe 2 1 asked_there (without_wait 2 b5) refl),
              record { broken = two_and_one ∷ []; breaks = (1, fells_first, differ 1 2 refl, refl); free = free 2 (wait_for asked_there (pos 0)) b6 refl refl },
            ),
            (
              b7,
              (first_session, (refl, low_priority)),
              (refl, refl),
              (
                b8,
                (first_session, (refl, low_priority)),
                (tt, (refl, refl)),
                (
                  b9,
                  (second_session, (refl, priority)),
                  (passes 2 (claim_of (without_wait 2 b8) insert_two) (without_wait 2 b8) refl, (refl, refl)),
                  refl,
                ),
              ),
            ),
          ),
        ),
      ),
    ),
  ),
)

-- ---- three sessions, each of which reads what the next one has written

abbrev table_of : ℕ → TableName
table_of letter = record { object = letter ∷ []; part = 0 }

abbrev writes : ℕ → Op
writes letter = Insert (table_of letter) (k 1) (row 1 1)

abbrev reads : ℕ → Op
reads letter = Fetch (table_of letter) First Last RowAlone S

abbrev key_of : ℕ → Resource
key_of letter = record { table = table_of letter; place = At (k 1) }

abbrev read_there : ℕ → Claim
read_there letter = record { on = key_of letter; pair = shared; kept = None }

abbrev edge_on : ℕ → ℕ → ℕ → Edge
edge_on letter waiter holder = record { waiter = waiter; asked = shared; on = key_of letter; holder = holder; held = exclusive }

abbrev all_three : List Edge
all_three = edge_on 97 3 1 ∷ edge_on 98 1 2 ∷ edge_on 99 2 3 ∷ []

abbrev circle : List Asked
circle =
    does 1 Begin Began
    ∷ does 2 Begin Began
    ∷ does 3 Begin Began
    ∷ does 1 (writes 97) Done
    ∷ does 2 (writes 98) Done
    ∷ does 3 (writes 99) Done
    ∷ does 1 (reads 98) (Wait 2)
    ∷ does 2 (reads 99) (Wait 3)
    ∷ does 3 (reads 97) (Victim all_three)
    ∷ []

third_session : IsSession 3
third_session = (omega arith, omega arith)

abbrev c3 : Engine
c3 = then_does 3 Begin d2

abbrev c4 : Engine
c4 = then_does 1 (writes 97) c3

abbrev c5 : Engine
c5 = then_does 2 (writes 98) c4

abbrev c6 : Engine
c6 = then_does 3 (writes 99) c5

abbrev c7 : Engine
c7 = then_waits 1 (reads 98) c6

abbrev c8 : Engine
c8 = then_waits 2 (reads 99) c7

abbrev all_wait : Engine
all_wait = then_waits 3 (reads 97) c8

abbrev c9 : Engine
c9 = without_wait 3 all_wait

conflict_on : (letter waiter holder : ℕ) → (waiter == holder) ≡ false → Conflicts (edge_on letter waiter holder)
conflict_on letter waiter holder apart = (differ waiter holder apart, refl)

closes_three : IsCycleAt (IsEdge all_wait) 3 all_three
closes_three = record {
  closed = (
    (conflict_on 97 3 1 refl, (conflict_on 98 1 2 refl, (conflict_on 99 2 3 refl, tt))),
    ((differ 3 1 refl, (differ 3 2 refl, tt)), ((differ 1 2 refl, tt), (tt, tt))),
    (refl, (refl, refl)),
  );
  begins = refl;
  among = (
    record { wait = wait_for (read_there 97) (pos 0); waits = refl; on = refl; asked = refl; held = refl; conflicts = conflict_on 97 3 1 refl },
    (record { wait = wait_for (read_there 98) (pos 0); waits = refl; on = refl; asked = refl; held = refl; conflicts = conflict_on 98 1 2 refl }, (record { wait = wait_for (read_there 99) (pos 0); waits = refl; on = refl; asked = refl; held = refl; conflicts = conflict_on 99 2 3 refl }, tt)),
  );
}

-- each has changed one key
fells_third : Fells 3 all_wait all_three 3
fells_third = record {
  closes = closes_three;
  victim = record {
    waits = refl;
    first = λ other there apart a b a_is b_is. each_waiter (λ n. n ≢ 3 → (b : Rank) → rank_of n (ranks_of all_wait) ≡ Some b → FallsBefore a b) all_three (
      (λ apart b b_is. absurd (apart refl)),
      ((λ apart b b_is. known_falls _ _ a b (inr (refl, inr (refl, omega arith))) a_is b_is), ((λ apart b b_is. known_falls _ _ a b (inr (refl, inr (refl, omega arith))) a_is b_is), tt)),
    ) other there apart b b_is;
  };
}

pub circle_runs : Run opening circle c9
circle_runs = (
  d1,
  (first_session, (refl, priority)),
  (tt, (refl, refl)),
  (
    d2,
    (second_session, (refl, priority)),
    (tt, (refl, refl)),
    (
      c3,
      (third_session, (refl, priority)),
      (tt, (refl, refl)),
      (
        c4,
        (first_session, (refl, priority)),
        (passes 1 (claim_of (without_wait 1 c3) (writes 97)) (without_wait 1 c3) refl, (refl, refl)),
        (
          c5,
          (second_session, (refl, priority)),
          (passes 2 (claim_of (without_wait 2 c4) (writes 98)) (without_wait 2 c4) refl, (refl, refl)),
          (
            c6,
            (third_session, (refl, priority)),
            (passes 3 (claim_of (without_wait 3 c5) (writes 99)) (without_wait 3 c5) refl, (refl, refl)),
            (
              c7,
              (first_session, ((refl, tt), priority)),
              (waits 1 2 (read_there 98) (pos 0) (without_wait 1 c6) refl refl refl),
              (
                c8,
                (second_session, ((refl, tt), priority)),
                (waits 2 3 (read_there 99) (pos 0) (without_wait 2 c7) refl refl refl),
                (
                  c9,
                  (third_session, ((refl, tt), priority)),
                  (refl, record { broken = []; last = all_wait; breaks = refl; falls = fells_third; left = refl }),
                  refl,
                ),
              ),
            ),
          ),
        ),
      ),
    ),
  ),
)
