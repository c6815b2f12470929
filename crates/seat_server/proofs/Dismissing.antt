-- The loops over doors and workers, which go from the last one to the first.
use Rattle.std.proofs.Common.{◌≡◌, ℕ, suc, ◌+◌, ◌<◌, ◌≤◌, Bool, false, List, [], ◌∷◌, ◌++◌, length, take, drop, reverse, Option, None, Some, IfSome, refl, sym, ap, ◌∙◌, subst, arith, append_assoc, append-nil, length-append}
use Rattle.std.specs.Prelude.{slice_index_or}
use Rattle.std.specs.List.{All, AllZip}
use Rattle.std.proofs.lemmas.List.Elements.{All-cons, All-head, All-nil, All-tail}
use mathlib.Core.List.{reverse_aux}
use Rattle.atomic_table.specs.Seated.{TableId}
use Rattle.outside_io.specs.Doors.{TakesOver, count_on, has_failed, one_if}
use Rattle.shared_port.specs.Asked.{EngineSeat}
use Rattle.seat_server.specs.declared.tally.Tally.{Tally}
use Rattle.shared_port.specs.SharedPort.{IsIdle}
use Rattle.seat_server.specs.declared.worker.Outcome.TheVariants.{Going}
use Rattle.seat_server.specs.declared.worker.Worker.{Worker}
use Rattle.seat_server.specs.Posts.{AreHired, Begins, IsNewDoor, IsUnmoved, StaysTold, TakesAll, count_after, counted, is_closed, is_failed, no_tally, seats_of, tally_after, with_seat}
use Rattle.seat_server.specs.Workers.{RisesBy, share_of}
use Rattle.seat_server.proofs.Courses.{count_none, count_twice}

-- the last is the first behind
last_first : {A : Type 0} (front : List A) (last : A) (behind : List A) → reverse_aux (front ++ last ∷ []) behind ≡ last ∷ reverse_aux front behind
last_first [] last behind = refl
last_first (x ∷ front) last behind = last_first front last (x ∷ behind)

pub reverse_last : {A : Type 0} (front : List A) (last : A) → reverse (front ++ last ∷ []) ≡ last ∷ reverse front
reverse_last front last = last_first front last []

zip_turned : {A B : Type 0} (R : A → B → Type 0) (xs vs : List A) (ys ws : List B) → AllZip R xs ys → AllZip R vs ws → AllZip R (reverse_aux xs vs) (reverse_aux ys ws)
zip_turned R [] vs [] ws all behind = behind
zip_turned R [] vs (y ∷ ys) ws all behind = absurd all
zip_turned R (x ∷ xs) vs [] ws all behind = absurd all
zip_turned R (x ∷ xs) vs (y ∷ ys) ws all behind = zip_turned R xs (x ∷ vs) ys (y ∷ ws) all.1 (all.0, behind)

pub zip_reverse : {A B : Type 0} (R : A → B → Type 0) (xs : List A) (ys : List B) → AllZip R xs ys → AllZip R (reverse xs) (reverse ys)
zip_reverse R xs ys all = zip_turned R xs [] ys [] all tt

long_turned : {A : Type 0} (xs behind : List A) → length (reverse_aux xs behind) ≡ length xs + length behind
long_turned [] behind = omega arith
long_turned (x ∷ xs) behind = omega (arith, long_turned xs (x ∷ behind))

pub long_reverse : {A : Type 0} (xs : List A) → length (reverse xs) ≡ length xs
long_reverse xs = omega (arith, long_turned xs [])

seats_behind : (o : Option EngineSeat) (seats : List EngineSeat) → with_seat o [] ++ seats ≡ with_seat o seats
seats_behind None seats = refl
seats_behind (Some seat) seats = refl

pub stays_self : {C : Type 0} (list : Option (List C)) → StaysTold list list
stays_self None = tt
stays_self (Some list) = refl

pub one_at_most : (o : Option EngineSeat) → length (with_seat o []) ≤ 1
one_at_most None = omega arith
one_at_most (Some seat) = omega arith

module _ {D C H : Type 0} (faults : D → ℕ) (is_out has_closed : D → Bool) (finished : D → ℕ) (told : D → Option (List C)) (hall_faults hall_finished hall_failed hall_closed : H → ℕ) (hall_told : H → Option (List C)) where
  -- the workers that are left, from the last to the first, make of what is here what all of them make of what was
  pub record Dismisses (all left : List (Worker D)) (hall_old hall_new : H) (seats_old seats_new : List EngineSeat) (tally : Tally) : Type 0 where
    pub home : All (λ worker. is_out worker.door ≡ false) left
    pub tallied : tally_after tally (reverse left) ≡ tally_after no_tally (reverse all)
    pub seats : seats_new ++ seats_of (reverse left) ≡ seats_old ++ seats_of (reverse all)
    pub faults_so : count_after faults (hall_faults hall_new) (reverse left) ≡ count_after faults (hall_faults hall_old) (reverse all)
    pub finished_so : count_after finished (hall_finished hall_new) (reverse left) ≡ count_after finished (hall_finished hall_old) (reverse all)
    pub failed_so : count_after (λ door. one_if (has_failed (faults door))) (hall_failed hall_new) (reverse left) ≡ count_after (λ door. one_if (has_failed (faults door))) (hall_failed hall_old) (reverse all)
    pub closed_so : count_after (λ door. one_if (has_closed door)) (hall_closed hall_new) (reverse left) ≡ count_after (λ door. one_if (has_closed door)) (hall_closed hall_old) (reverse all)
    pub told_so : (after : Option (List C)) → TakesAll told (hall_told hall_new) (reverse left) after → TakesAll told (hall_told hall_old) (reverse all) after

  pub dismisses_all : (all : List (Worker D)) (hall : H) (seats : List EngineSeat) → All (λ worker. is_out worker.door ≡ false) all → Dismisses all all hall hall seats seats no_tally
  dismisses_all all hall seats home = record {
    home = home;
    tallied = refl;
    seats = refl;
    faults_so = refl;
    finished_so = refl;
    failed_so = refl;
    closed_so = refl;
    told_so = λ after takes. takes;
  }

  -- one of them, and its door and seat
  pub dismisses_one : (all before left : List (Worker D)) (worker : Worker D) (hall_old hall_mid hall_new : H) (seats_old seats_mid seats_new : List EngineSeat) (tally_mid tally_new : Tally) → before ≡ left ++ worker ∷ []
      → tally_new ≡ counted tally_mid worker.served worker.starved worker.outcome → seats_new ≡ seats_mid ++ with_seat worker.seat []
      → hall_faults hall_new ≡ count_on (hall_faults hall_mid) (faults worker.door) → hall_finished hall_new ≡ count_on (hall_finished hall_mid) (finished worker.door)
      → hall_failed hall_new ≡ count_on (hall_failed hall_mid) (one_if (has_failed (faults worker.door))) → hall_closed hall_new ≡ count_on (hall_closed hall_mid) (one_if (has_closed worker.door))
      → TakesOver (hall_told hall_mid) (told worker.door) (hall_told hall_new) → All (λ worker. is_out worker.door ≡ false) left
      → Dismisses all before hall_old hall_mid seats_old seats_mid tally_mid → Dismisses all left hall_old hall_new seats_old seats_new tally_new
  dismisses_one all before left worker hall_old hall_mid hall_new seats_old seats_mid seats_new tally_mid tally_new popped tally_is seats_are faults_are finished_is failed_is closed_is takes home rest =
      let turned : reverse before ≡ worker ∷ reverse left = ap reverse popped ∙ reverse_last left worker in record {
        home = home;
        tallied = ap (λ (t : Tally). tally_after t (reverse left)) tally_is ∙ (ap (tally_after tally_mid) (sym turned) ∙ rest.tallied);
        seats = ap (λ (l : List EngineSeat). l ++ seats_of (reverse left)) seats_are ∙ (append_assoc seats_mid (with_seat worker.seat []) (seats_of (reverse left))
            ∙ (ap (λ (l : List EngineSeat). seats_mid ++ l) (seats_behind worker.seat (seats_of (reverse left))) ∙ (ap (λ (ws : List (Worker D)). seats_mid ++ seats_of ws) (sym turned) ∙ rest.seats)));
        faults_so = ap (λ n. count_after faults n (reverse left)) faults_are ∙ (ap (count_after faults (hall_faults hall_mid)) (sym turned) ∙ rest.faults_so);
        finished_so = ap (λ n. count_after finished n (reverse left)) finished_is ∙ (ap (count_after finished (hall_finished hall_mid)) (sym turned) ∙ rest.finished_so);
        failed_so = ap (λ n. count_after (λ door. one_if (has_failed (faults door))) n (reverse left)) failed_is ∙ (ap (count_after (λ door. one_if (has_failed (faults door))) (hall_failed hall_mid)) (sym turned) ∙ rest.failed_so);
        closed_so = ap (λ n. count_after (λ door. one_if (has_closed door)) n (reverse left)) closed_is ∙ (ap (count_after (λ door. one_if (has_closed door)) (hall_closed hall_mid)) (sym turned) ∙ rest.closed_so);
        told_so = λ after taken. rest.told_so after (subst (λ (ws : List (Worker D)). TakesAll told (hall_told hall_mid) ws after) (sym turned) (hall_told hall_new, takes, taken));
      }

  -- ---- doors at which no connection came in

  pub unmoved_self : (hall : H) → IsUnmoved hall_faults hall_finished hall_failed hall_closed hall_told hall hall
  unmoved_self hall = record {
    faults_same = λ bound. sym (count_none (hall_faults hall) bound);
    finished_same = λ bound. sym (count_none (hall_finished hall) bound);
    failed_same = λ bound. sym (count_none (hall_failed hall) bound);
    closed_same = λ bound. sym (count_none (hall_closed hall) bound);
    told_same = stays_self (hall_told hall);
  }

  stays_more : (old mid new : Option (List C)) → StaysTold old mid → StaysTold mid new → StaysTold old new
  stays_more old mid None first second = tt
  stays_more old None (Some new) first second = absurd (let no : None ≡ Some new = second in cc)
  stays_more old (Some mid) (Some new) first second = first ∙ second

  rises_none : (old mid new : ℕ) → RisesBy old mid 0 → RisesBy mid new 0 → RisesBy old new 0
  rises_none old mid new first second bound = let same : mid ≡ old = first bound ∙ count_none old bound in omega (arith, same, bound, second (omega (arith, same, bound)))

  pub unmoved_more : (old mid new : H) → IsUnmoved hall_faults hall_finished hall_failed hall_closed hall_told old mid → IsUnmoved hall_faults hall_finished hall_failed hall_closed hall_told mid new → IsUnmoved hall_faults hall_finished hall_failed hall_closed hall_told old new
  unmoved_more old mid new first second = record {
    faults_same = rises_none (hall_faults old) (hall_faults mid) (hall_faults new) first.faults_same second.faults_same;
    finished_same = rises_none (hall_finished old) (hall_finished mid) (hall_finished new) first.finished_same second.finished_same;
    failed_same = rises_none (hall_failed old) (hall_failed mid) (hall_failed new) first.failed_same second.failed_same;
    closed_same = rises_none (hall_closed old) (hall_closed mid) (hall_closed new) first.closed_same second.closed_same;
    told_same = stays_more (hall_told old) (hall_told mid) (hall_told new) first.told_same second.told_same;
  }

  -- a door is made
  pub unmoved_made : (old new : H) → hall_faults new ≡ hall_faults old → hall_finished new ≡ hall_finished old → hall_failed new ≡ hall_failed old → hall_closed new ≡ hall_closed old → hall_told new ≡ hall_told old
      → IsUnmoved hall_faults hall_finished hall_failed hall_closed hall_told old new
  unmoved_made old new faults_are finished_is failed_is closed_is told_is =
      let here = unmoved_self old in record {
        faults_same = λ bound. faults_are ∙ here.faults_same bound;
        finished_same = λ bound. finished_is ∙ here.finished_same bound;
        failed_same = λ bound. failed_is ∙ here.failed_same bound;
        closed_same = λ bound. closed_is ∙ here.closed_same bound;
        told_same = subst (StaysTold (hall_told old)) (sym told_is) here.told_same;
      }

  -- a list without any is behind none
  takes_nothing : (old door new : Option (List C)) → IfSome door (λ connections. connections ≡ []) → TakesOver old door new → StaysTold old new
  takes_nothing old door None nothing takes = tt
  takes_nothing (Some old) (Some door) (Some new) nothing takes = ap Some (sym (takes ∙ (ap (λ (l : List C). old ++ l) nothing ∙ append-nil old)))
  takes_nothing (Some old) None (Some new) nothing takes = absurd takes
  takes_nothing None None (Some new) nothing takes = absurd takes
  takes_nothing None (Some door) (Some new) nothing takes = absurd takes

  -- and goes back
  pub unmoved_back : (old new : H) (door : D) → IsNewDoor faults is_out has_closed finished told door → hall_faults new ≡ count_on (hall_faults old) (faults door) → hall_finished new ≡ count_on (hall_finished old) (finished door)
      → hall_failed new ≡ count_on (hall_failed old) (one_if (has_failed (faults door))) → hall_closed new ≡ count_on (hall_closed old) (one_if (has_closed door)) → TakesOver (hall_told old) (told door) (hall_told new)
      → IsUnmoved hall_faults hall_finished hall_failed hall_closed hall_told old new
  unmoved_back old new door fresh faults_are finished_is failed_is closed_is takes = record {
    faults_same = λ bound. faults_are ∙ ap (count_on (hall_faults old)) fresh.sound;
    finished_same = λ bound. finished_is ∙ ap (count_on (hall_finished old)) fresh.none;
    failed_same = λ bound. failed_is ∙ ap (λ n. count_on (hall_failed old) (one_if (has_failed n))) fresh.sound;
    closed_same = λ bound. closed_is ∙ ap (λ b. count_on (hall_closed old) (one_if b)) fresh.open_yet;
    told_same = takes_nothing (hall_told old) (told door) (hall_told new) fresh.nothing takes;
  }

-- ---- how many doors came back

-- of so many doors these are left, and the others came back
pub record SomeBack (old new all left : ℕ) : Type 0 where
  pub came : ℕ
  pub rises : RisesBy old new came
  pub rest : came + left ≡ all

-- a count that stands, and one that goes on
pub rises_self : (count : ℕ) → RisesBy count count 0
rises_self count = λ bound. sym (count_none count bound)

pub rises_next : (old mid new n m : ℕ) → RisesBy old mid n → new ≡ count_on mid 1 → m ≡ n + 1 → RisesBy old new m
rises_next old mid new n m rises is next = λ bound. is ∙ (ap (λ k. count_on k 1) (rises bound) ∙ (count_twice old n 1 ∙ ap (count_on old) (sym next)))

pub none_back : (count all : ℕ) → SomeBack count count all all
none_back count all = record { came = 0; rises = rises_self count; rest = omega arith }

pub one_back : (old mid new all left fewer : ℕ) → SomeBack old mid all left → new ≡ count_on mid 1 → left ≡ fewer + 1 → SomeBack old new all fewer
one_back old mid new all left fewer some is next = record { came = some.came + 1; rises = rises_next old mid new some.came (some.came + 1) some.rises is refl; rest = omega (arith, some.rest, next) }

pub all_back : (old new all left : ℕ) → SomeBack old new all left → left ≡ 0 → RisesBy old new all
all_back old new all left some none = let same : some.came ≡ all = omega (arith, some.rest, none) in subst (λ (n : ℕ). RisesBy old new n) same some.rises

-- and one that began where another stood
pub rises_from : (old mid new many n : ℕ) → mid ≡ old → RisesBy mid new many → many ≡ n → RisesBy old new n
rises_from old mid new many n same rises is = subst (λ (k : ℕ). RisesBy old new k) is (subst (λ (k : ℕ). RisesBy k new many) same rises)

-- a count of a hall behind a worker more
pub after_one : {D : Type 0} (at : D → ℕ) (before left : List (Worker D)) (worker : Worker D) (mid new all : ℕ) → before ≡ left ++ worker ∷ [] → new ≡ count_on mid (at worker.door) → count_after at mid (reverse before) ≡ all → count_after at new (reverse left) ≡ all
after_one at before left worker mid new all popped is rest =
    let turned : reverse before ≡ worker ∷ reverse left = ap reverse popped ∙ reverse_last left worker in
    ap (λ n. count_after at n (reverse left)) is ∙ (ap (count_after at mid) (sym turned) ∙ rest)

-- ---- workers that are hired

module _ {D C : Type 0} (faults : D → ℕ) (is_out has_closed : D → Bool) (finished : D → ℕ) (told : D → Option (List C)) where
  pub hires_one : (rounds : Option ℕ) (many : ℕ) (seats_old seats_new taken : List EngineSeat) (seat : EngineSeat) (workers_old workers_new : List (Worker D)) (worker : Worker D) (door : D) (share : Option ℕ) → seats_old ≡ seats_new ++ seat ∷ [] → workers_new ≡ workers_old ++ worker ∷ []
      → worker ≡ record { seat = Some seat; door = door; share = share; served = 0; starved = 0; outcome = Going } → share ≡ share_of rounds many (length seats_new) → IsNewDoor faults is_out has_closed finished told door
      → AreHired faults is_out has_closed finished told rounds many (length seats_old) taken (reverse workers_old) → AreHired faults is_out has_closed finished told rounds many (length seats_new) (seat ∷ taken) (reverse workers_new)
  hires_one rounds many seats_old seats_new taken seat workers_old workers_new worker door share popped pushed is share_is fresh rest =
      let turned : reverse workers_new ≡ worker ∷ reverse workers_old = ap reverse pushed ∙ reverse_last workers_old worker in
      let next : length seats_old ≡ length seats_new + 1 = ap length popped ∙ length-append seats_new (seat ∷ []) in
      subst (AreHired faults is_out has_closed finished told rounds many (length seats_new) (seat ∷ taken)) (sym turned) (
        record {
          has = ap (λ (w : Worker D). w.seat) is;
          share_is = ap (λ (w : Worker D). w.share) is ∙ share_is;
          served = ap (λ (w : Worker D). w.served) is;
          starved = ap (λ (w : Worker D). w.starved) is;
          going = ap (λ (w : Worker D). w.outcome) is;
          door = subst (IsNewDoor faults is_out has_closed finished told) (sym (ap (λ (w : Worker D). w.door) is)) fresh;
        },
        subst (λ (at : ℕ). AreHired faults is_out has_closed finished told rounds many at taken (reverse workers_old)) next rest,
      )

  pub hires_all : (rounds : Option ℕ) (many : ℕ) (all seats taken : List EngineSeat) (workers : List (Worker D)) → length seats ≡ 0 → all ≡ seats ++ taken → AreHired faults is_out has_closed finished told rounds many (length seats) taken (reverse workers)
      → AreHired faults is_out has_closed finished told rounds many 0 all (reverse workers)
  hires_all rounds many all [] taken workers none is are = subst (λ (l : List EngineSeat). AreHired faults is_out has_closed finished told rounds many 0 l (reverse workers)) (sym is) are
  hires_all rounds many all (seat ∷ seats) taken workers none is are = absurd (let no : ⊥ = omega (arith, none) in no)

  -- those that are hired at seats of a desk begin
  pub begin_all : (desk : TableId) (rounds : Option ℕ) (many at : ℕ) (seats : List EngineSeat) (workers : List (Worker D)) → AreHired faults is_out has_closed finished told rounds many at seats workers → All (λ seat. seat.desk ≡ desk) seats → All IsIdle seats
      → All (Begins faults is_out has_closed desk) workers
  begin_all desk rounds many at [] [] are here idle = All-nil (Begins faults is_out has_closed desk)
  begin_all desk rounds many at [] (worker ∷ workers) are here idle = absurd are
  begin_all desk rounds many at (seat ∷ seats) [] are here idle = absurd are
  begin_all desk rounds many at (seat ∷ seats) (worker ∷ workers) are here idle =
      All-cons (Begins faults is_out has_closed desk) worker workers (
        (
          seat,
          record {
            has = are.0.has;
            at_desk = All-head (λ (seat : EngineSeat). seat.desk ≡ desk) seat seats here;
            idle = All-head IsIdle seat seats idle;
            home = are.0.door.home;
            failed = ap (λ n. has_failed n) are.0.door.sound ∙ ap is_failed (sym are.0.going);
            closed = are.0.door.open_yet ∙ ap is_closed (sym are.0.going);
          },
        ),
        are.0.going,
        are.0.served,
      ) (begin_all desk rounds many (at + 1) seats workers are.1 (All-tail (λ (seat : EngineSeat). seat.desk ≡ desk) seat seats here) (All-tail IsIdle seat seats idle))

all_turned : {A : Type 0} (P : A → Type 0) (xs behind : List A) → All P (reverse_aux xs behind) → All P xs × All P behind
all_turned P [] behind all = (All-nil P, all)
all_turned P (x ∷ xs) behind all =
    let both : All P xs × All P (x ∷ behind) = all_turned P xs (x ∷ behind) all in
    (All-cons P x xs (All-head P x behind both.1) both.0, All-tail P x behind both.1)

-- what holds from the last to the first holds of all
pub all_reverse : {A : Type 0} (P : A → Type 0) (xs : List A) → All P (reverse xs) → All P xs
all_reverse P xs all = (all_turned P xs [] all).0

-- what is said place by place is said along both lists
pub zip_places : {A : Type 0} (R : A → A → Type 0) (xs ys : List A) → length ys ≡ length xs → ((k : ℕ) (d : A) → k < length xs → R (slice_index_or xs k d) (slice_index_or ys k d)) → AllZip R xs ys
zip_places R [] [] long each = tt
zip_places R [] (y ∷ ys) long each = absurd (let no : ⊥ = omega (arith, long) in no)
zip_places R (x ∷ xs) [] long each = absurd (let no : ⊥ = omega (arith, long) in no)
zip_places R (x ∷ xs) (y ∷ ys) long each = (each 0 x (omega arith), zip_places R xs ys (omega (arith, long)) (λ k d below. each (suc k) d (omega (arith, below))))

-- a list that was lent, and comes back
take_front : {A : Type 0} (xs ys : List A) → take (length xs) (xs ++ ys) ≡ xs
take_front [] ys = refl
take_front (x ∷ xs) ys = ap (λ l. x ∷ l) (take_front xs ys)

pub lent_back : {A : Type 0} (xs ys : List A) (n : ℕ) → length xs ≡ n → take n (xs ++ ys) ≡ xs
lent_back xs ys n long = subst (λ (m : ℕ). take m (xs ++ ys) ≡ xs) long (take_front xs ys)

-- what is said place by place of a list that was lent is said along the list before and the one that came back
pub lent_zip : {A : Type 0} (R : A → A → Type 0) (olds lent news : List A) (long : ℕ) → lent ≡ olds → length news ≡ length lent → long ≡ length olds → ((k : ℕ) (d : A) → k < length lent → R (slice_index_or lent k d) (slice_index_or news k d))
    → AllZip R olds (take long (news ++ drop (length news) olds))
lent_zip R olds lent news long is same_long long_is each =
    let back : take long (news ++ drop (length news) olds) ≡ news = lent_back news (drop (length news) olds) long (same_long ∙ (ap length is ∙ sym long_is)) in
    subst (AllZip R olds) (sym back) (subst (λ l. AllZip R l news) is (zip_places R lent news same_long each))

-- the share of a place
pub share_at : (rounds share : Option ℕ) (many here at place : ℕ) → share ≡ share_of rounds many at → many ≡ here → at ≡ place → share ≡ share_of rounds here place
share_at rounds share many here at place is same_many same_at = is ∙ (λ i. share_of rounds (same_many i) (same_at i))
