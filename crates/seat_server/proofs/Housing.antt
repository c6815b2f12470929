-- The seats of a house: what the engine knows of them at the end, and what has become of them behind connections.
use Rattle.std.proofs.Common.{◌≡◌, ◌≢◌, ◌⊎◌, inl, inr, ℕ, zero, suc, ◌+◌, ◌-◌, ◌<◌, ◌≤◌, if◌then◌else◌, List, [], ◌∷◌, ◌++◌, length, map, take, drop, refl, sym, ap, ◌∙◌, subst, arith, length-append, length-take, take-append-drop, eq-eqb}
use Rattle.std.specs.Prelude.{◌==◌, slice_index_or}
use Rattle.std.specs.List.{All}
use Rattle.std.proofs.lemmas.List.{length-map, map-append}
use Rattle.std.proofs.lemmas.List.Elements.{All-append, All-cons, All-head, All-nil, All-tail, All-weaker}
use mathlib.Core.List.{IsPrefix}
use Rattle.atomic_table.specs.Seated.{TableId}
use Rattle.step_model.specs.declared.reply.Reply.{Reply}
use Rattle.step_model.specs.Fits.{Fits}
use Rattle.step_model.specs.Log.{Commit as Logged, State}
use Rattle.step_model.specs.State.{Engine}
use Rattle.history_laws.proofs.Sessions.{apart, same_or_not}
use Rattle.engine_core.specs.Machine.{Ask, mine_in}
use Rattle.engine_core.specs.Machine.{KnowsSteps}
use Rattle.shared_port.specs.Asked.{EngineSeat}
use Rattle.shared_port.specs.SharedPort.{IsIdle}
use Rattle.connection_laws.specs.Laws.{Intact}
use Rattle.connection_laws.specs.Laws.{AreConnections}
use Rattle.connection_laws.proofs.Sound.{history_sound}
use Rattle.seat_server.specs.Served.{Course, Follow, HasServed, IsCourse, new_seat}
use Rattle.seat_server.specs.Workers.{AllFollow}
use Rattle.turn_desk.specs.Seats.{DeskState}
use Rattle.seat_server.specs.House.{AreHosted, HouseState, IsFull, KnowsSeat, SameNumbers, ServesFirst}
use Rattle.seat_server.proofs.Courses.{follow_append, follow_desk, follow_idle, follow_number}
use Rattle.seat_server.proofs.Dismissing.{lent_back}
use Rattle.seat_server.proofs.Stretches.{all_connections, no_connections}

-- ---- the end

-- the engine agrees with a seat
abbrev pub AgreesSeat : Engine → EngineSeat → Type 0
AgreesSeat engine seat = KnowsSteps engine seat.number seat.steps × IsPrefix seat.log engine.log

pub knows_seats : (engine : Engine) (seats : List EngineSeat) → All (AgreesSeat engine) seats → All (KnowsSeat engine) seats
knows_seats engine seats all k d below = let agrees : AgreesSeat engine (slice_index_or seats k d) = all k d below in (agrees.0.0, agrees.1)

-- the steps of the first seat of a number, or none
steps_at : ℕ → List EngineSeat → List (Ask × Reply)
steps_at number [] = []
steps_at number (seat ∷ seats) = if seat.number == number then seat.steps else steps_at number seats

module _ (engine : Engine) (number : ℕ) where
  -- they are known, and those of connections
  record Stands (steps : List (Ask × Reply)) : Type 0 where
    pub known : KnowsSteps engine number steps
    pub connections : AreConnections (mine_in steps)

  stands : (seats : List EngineSeat) → All (AgreesSeat engine) seats → All HasServed seats → (All (λ seat. seat.number ≢ number) seats → KnowsSteps engine number []) → Stands (steps_at number seats)
  unfolding steps_at
  stands [] agree served others = record { known = others (All-nil (λ (seat : EngineSeat). seat.number ≢ number)); connections = no_connections }
  stands (seat ∷ seats) agree served others =
      by_number (same_or_not seat.number number) (λ differ. stands seats (All-tail (AgreesSeat engine) seat seats agree) (All-tail HasServed seat seats served)
      (λ rest. others (All-cons (λ (seat : EngineSeat). seat.number ≢ number) seat seats differ rest)))
    where
      by_number : (seat.number ≡ number) ⊎ (seat.number ≢ number) → (seat.number ≢ number → Stands (steps_at number seats)) → Stands (if seat.number == number then seat.steps else steps_at number seats)
      by_number (inl same) rest = rw (eq-eqb seat.number number same) (record {
        known = subst (λ (n : ℕ). KnowsSteps engine n seat.steps) same (All-head (AgreesSeat engine) seat seats agree).0;
        connections = all_connections seat (All-head HasServed seat seats served);
      })
      by_number (inr differ) rest = rw (apart seat.number number differ) (rest differ)

pub all_intact : (engine : Engine) (seats : List EngineSeat) → All (AgreesSeat engine) seats → All HasServed seats → ((number : ℕ) → All (λ seat. seat.number ≢ number) seats → KnowsSteps engine number []) → (place : ℕ) → Intact (State (take place engine.log))
all_intact engine seats agree served others place =
    let each : (number : ℕ) → Stands engine number (steps_at number seats) = λ number. stands engine number seats agree served (others number) in
    let fits : (number : ℕ) → Fits number [] engine.log (mine_in (steps_at number seats)) = λ number. (each number).known.0.accords.fits in
    history_sound engine.log (λ number. mine_in (steps_at number seats)) (λ number. record {
      numbers = (fits number).numbers;
      fetches = (fits number).fetches;
      ranges = (fits number).ranges;
      inserts = (fits number).inserts;
      targets = (fits number).targets;
      commits = (fits number).commits;
      comes = (each number).known.1;
    }) fits (λ number. (each number).connections) place

-- ---- seats that serve

pub served_idle : (seat : EngineSeat) → HasServed seat → IsIdle seat
served_idle seat served = follow_idle (new_seat seat) seat served.0 refl served.1

-- it has served these too
pub served_more : (old new : EngineSeat) (courses : List Course) → HasServed old → Follow old courses new → HasServed new
served_more old new courses served follow =
    let same : new_seat old ≡ new_seat new = λ i. record { desk = sym (follow_desk old new courses follow) i; number = sym (follow_number old new courses follow) i; steps = []; log = [] } in
    (served.0 ++ courses, subst (λ (seat : EngineSeat). Follow seat (served.0 ++ courses) new) same (follow_append (new_seat old) old new served.0 courses served.1 follow))

pub all_long : (olds news : List EngineSeat) (each : List (List Course)) → AllFollow olds each news → length news ≡ length olds
all_long [] [] [] follow = refl
all_long [] (new ∷ news) [] follow = absurd follow
all_long [] news (courses ∷ each) follow = absurd follow
all_long (old ∷ olds) news [] follow = absurd follow
all_long (old ∷ olds) [] (courses ∷ each) follow = absurd follow
all_long (old ∷ olds) (new ∷ news) (courses ∷ each) follow = ap suc (all_long olds news each follow.1)

all_at : (desk : TableId) (olds news : List EngineSeat) (each : List (List Course)) → AllFollow olds each news → All (λ seat. seat.desk ≡ desk) olds → All (λ seat. seat.desk ≡ desk) news
all_at desk [] [] [] follow all = all
all_at desk [] (new ∷ news) [] follow all = absurd follow
all_at desk [] news (courses ∷ each) follow all = absurd follow
all_at desk (old ∷ olds) news [] follow all = absurd follow
all_at desk (old ∷ olds) [] (courses ∷ each) follow all = absurd follow
all_at desk (old ∷ olds) (new ∷ news) (courses ∷ each) follow all =
    All-cons (λ (seat : EngineSeat). seat.desk ≡ desk) new news (follow_desk old new courses follow.0 ∙ All-head (λ (seat : EngineSeat). seat.desk ≡ desk) old olds all)
    (all_at desk olds news each follow.1 (All-tail (λ (seat : EngineSeat). seat.desk ≡ desk) old olds all))

all_served : (olds news : List EngineSeat) (each : List (List Course)) → AllFollow olds each news → All HasServed olds → All HasServed news
all_served [] [] [] follow all = all
all_served [] (new ∷ news) [] follow all = absurd follow
all_served [] news (courses ∷ each) follow all = absurd follow
all_served (old ∷ olds) news [] follow all = absurd follow
all_served (old ∷ olds) [] (courses ∷ each) follow all = absurd follow
all_served (old ∷ olds) (new ∷ news) (courses ∷ each) follow all =
    All-cons HasServed new news (served_more old new courses (All-head HasServed old olds all) follow.0) (all_served olds news each follow.1 (All-tail HasServed old olds all))

-- ---- the first one

module _ (desk : TableId) where
  pub first_hosted : (olds news : List EngineSeat) (first : EngineSeat) (rest : List EngineSeat) (new : EngineSeat) (course : Course) → olds ≡ first ∷ rest → news ≡ new ∷ rest → course.old ≡ first → course.new ≡ new → IsCourse course → AreHosted desk olds → AreHosted desk news
  first_hosted olds news first rest new course olds_are news_are from to is hosted =
      let here : AreHosted desk (first ∷ rest) = subst (AreHosted desk) olds_are hosted in
      let follow : Follow first (course ∷ []) new = (from, is, sym to) in
      subst (AreHosted desk) (sym news_are) (record {
        few = here.few;
        at_desk = All-cons (λ (seat : EngineSeat). seat.desk ≡ desk) new rest (follow_desk first new (course ∷ []) follow ∙ All-head (λ (seat : EngineSeat). seat.desk ≡ desk) first rest here.at_desk) (All-tail (λ (seat : EngineSeat). seat.desk ≡ desk) first rest here.at_desk);
        served = All-cons HasServed new rest (served_more first new (course ∷ []) (All-head HasServed first rest here.served) follow) (All-tail HasServed first rest here.served);
      })

-- a list whose first has gone to the end, and come back as another
pub record Turned {A : Type 0} (olds news : List A) (old new : A) : Type 0 where
  pub rest : List A
  pub olds_are : olds ≡ old ∷ rest
  pub news_are : news ≡ new ∷ rest

drop_front : {A : Type 0} (xs ys : List A) → drop (length xs) (xs ++ ys) ≡ ys
drop_front [] ys = refl
drop_front (x ∷ xs) ys = drop_front xs ys

take_front : {A : Type 0} (xs ys : List A) → take (length xs) (xs ++ ys) ≡ xs
take_front [] ys = refl
take_front (x ∷ xs) ys = ap (λ l. x ∷ l) (take_front xs ys)

pub turned : {A : Type 0} (olds left pushed news : List A) (old new : A) → 0 < length olds → old ≡ slice_index_or olds 0 old → left ≡ take 0 olds ++ drop (0 + 1) olds → pushed ≡ left ++ new ∷ [] → news ≡ drop (length pushed - 1) pushed ++ take (length pushed - 1) pushed
    → Turned olds news old new
turned [] left pushed news old new some is left_is pushed_is news_are = absurd (let no : ⊥ = omega (arith, some) in no)
turned {A} (x ∷ olds) left pushed news old new some is left_is pushed_is news_are =
    let whole : pushed ≡ olds ++ new ∷ [] = pushed_is ∙ ap (λ l. l ++ new ∷ []) left_is in
    let at : length pushed - 1 ≡ length olds = omega (arith, ap length whole, length-append olds (new ∷ [])) in
    record {
      rest = olds;
      olds_are = ap (λ (y : A). y ∷ olds) (sym is);
      news_are = news_are ∙ (λ i. drop (at i) (whole i) ++ take (at i) (whole i)) ∙ (λ i. drop_front olds (new ∷ []) i ++ take_front olds (new ∷ []) i);
    }

-- as the code has it: the list was lent as a slice, and turned
pub turned_lent : {A : Type 0} (olds left pushed lent turned_so : List A) (long : ℕ) (old new : A) → 0 < length olds → old ≡ slice_index_or olds 0 old → left ≡ take 0 olds ++ drop (0 + 1) olds → pushed ≡ left ++ new ∷ [] → lent ≡ pushed
    → turned_so ≡ drop (length lent - 1) lent ++ take (length lent - 1) lent → length turned_so ≡ length lent → long ≡ length pushed → Turned olds (take long (turned_so ++ drop (length turned_so) pushed)) old new
turned_lent olds left pushed lent turned_so long old new some is left_is pushed_is lent_is turned_is same_long long_is =
    let back : take long (turned_so ++ drop (length turned_so) pushed) ≡ turned_so = lent_back turned_so (drop (length turned_so) pushed) long (same_long ∙ (ap length lent_is ∙ sym long_is)) in
    turned olds left pushed (take long (turned_so ++ drop (length turned_so) pushed)) old new some is left_is pushed_is (back ∙ (turned_is ∙ (λ i. drop (length (lent_is i) - 1) (lent_is i) ++ take (length (lent_is i) - 1) (lent_is i))))

-- the first one serves, and the others do nothing
pub serves_first : (does : EngineSeat → EngineSeat → Type 0) (olds news : List EngineSeat) (old new : EngineSeat) → Turned olds news old new → does old new → ServesFirst does olds news
serves_first does olds news old new turned is =
    subst (λ (l : List EngineSeat). ServesFirst does l news) (sym turned.olds_are) (subst (λ (l : List EngineSeat). ServesFirst does (old ∷ turned.rest) l) (sym turned.news_are) (is, refl))

-- ---- the first ones

pub take_these : {A : Type 0} (xs ys zs : List A) (n : ℕ) → length xs ≡ n → zs ≡ xs ++ ys → take n zs ≡ xs
take_these xs ys zs n long is = ap (take n) is ∙ subst (λ (m : ℕ). take m (xs ++ ys) ≡ xs) long (take_front xs ys)

pub drop_these : {A : Type 0} (xs ys zs : List A) (n : ℕ) → length xs ≡ n → zs ≡ xs ++ ys → drop n zs ≡ ys
drop_these xs ys zs n long is = ap (drop n) is ∙ subst (λ (m : ℕ). drop m (xs ++ ys) ≡ ys) long (drop_front xs ys)

front_of : (P : EngineSeat → Type 0) (xs ys : List EngineSeat) → All P (xs ++ ys) → All P xs
front_of P [] ys all = All-nil P
front_of P (x ∷ xs) ys all = All-cons P x xs (All-head P x (xs ++ ys) all) (front_of P xs ys (All-tail P x (xs ++ ys) all))

behind_of : (P : EngineSeat → Type 0) (xs ys : List EngineSeat) → All P (xs ++ ys) → All P ys
behind_of P [] ys all = all
behind_of P (x ∷ xs) ys all = behind_of P xs ys (All-tail P x (xs ++ ys) all)

-- all seats of a house, of which the first ones have served
pub many_hosted : (desk : TableId) (olds firsts others news : List EngineSeat) (new_firsts : List EngineSeat) (each : List (List Course)) → olds ≡ firsts ++ others → news ≡ new_firsts ++ others → AllFollow firsts each new_firsts → AreHosted desk olds → AreHosted desk news
many_hosted desk olds firsts others news new_firsts each olds_are news_are follow hosted =
    let here : AreHosted desk (firsts ++ others) = subst (AreHosted desk) olds_are hosted in
    subst (AreHosted desk) (sym news_are) (record {
      few = omega (arith, here.few, length-append firsts others, length-append new_firsts others, all_long firsts new_firsts each follow);
      at_desk = All-append (λ (seat : EngineSeat). seat.desk ≡ desk) new_firsts others (all_at desk firsts new_firsts each follow (front_of (λ (seat : EngineSeat). seat.desk ≡ desk) firsts others here.at_desk)) (behind_of (λ (seat : EngineSeat). seat.desk ≡ desk) firsts others here.at_desk);
      served = All-append HasServed new_firsts others (all_served firsts new_firsts each follow (front_of HasServed firsts others here.served)) (behind_of HasServed firsts others here.served);
    })

-- the first ones stand alone, and the others come back behind them
pub record StoodAside (olds firsts others news new_firsts : List EngineSeat) (many : ℕ) : Type 0 where
  pub split : olds ≡ firsts ++ others
  pub long : length firsts ≡ many
  pub back : news ≡ new_firsts ++ others

pub stood_split : (olds firsts others : List EngineSeat) (many : ℕ) → firsts ≡ take many olds → others ≡ drop many olds → olds ≡ firsts ++ others
stood_split olds firsts others many firsts_are others_are = sym (take-append-drop many olds) ∙ (λ i. sym firsts_are i ++ sym others_are i)

pub stood_aside : (olds firsts others news new_firsts : List EngineSeat) (many : ℕ) → many ≤ length olds → firsts ≡ take many olds → others ≡ drop many olds → news ≡ new_firsts ++ others → StoodAside olds firsts others news new_firsts many
stood_aside olds firsts others news new_firsts many few firsts_are others_are back = record {
  split = stood_split olds firsts others many firsts_are others_are;
  long = omega (arith, ap length firsts_are, length-take many olds, few);
  back = back;
}

pub firsts_idle : (desk : TableId) (olds firsts others : List EngineSeat) → olds ≡ firsts ++ others → AreHosted desk olds → All IsIdle firsts
firsts_idle desk olds firsts others split hosted =
    All-weaker HasServed IsIdle served_idle firsts (front_of HasServed firsts others (subst (All HasServed) split hosted.served))

-- ---- full houses

number_at : (seats : List EngineSeat) (k : ℕ) (d : EngineSeat) → (slice_index_or seats k d).number ≡ slice_index_or (map (λ seat. seat.number) seats) k d.number
number_at [] k d = refl
number_at (seat ∷ seats) zero d = refl
number_at (seat ∷ seats) (suc k) d = number_at seats k d

-- a house that was full is, where its desk is the same and its seats have the same numbers
full_still : (old new : HouseState) → new.desk ≡ old.desk → SameNumbers old.seats new.seats → AreHosted new.desk.desk new.seats → (many : ℕ) → IsFull many old → IsFull many new
full_still old new same numbers hosted many full =
    let long : length new.seats ≡ length old.seats = sym (length-map new.seats (λ (seat : EngineSeat). seat.number)) ∙ (ap length numbers ∙ length-map old.seats (λ (seat : EngineSeat). seat.number)) in record {
      desk_many = ap (λ (desk : DeskState Logged). desk.seats) same ∙ full.desk_many;
      all = long ∙ full.all;
      numbers = λ k d below. number_at new.seats k d ∙ (ap (λ (l : List ℕ). slice_index_or l k d.number) numbers ∙ (sym (number_at old.seats k d) ∙ full.numbers k d below));
      idle = All-weaker HasServed IsIdle served_idle new.seats hosted.served;
    }

-- as the code has it, with the desk and the list of the seats apart
pub full_more : (desk : DeskState Logged) (olds news : List EngineSeat) (house : HouseState) → record { desk = desk; seats = olds } ≡ house → SameNumbers olds news → AreHosted desk.desk news → (many : ℕ) → IsFull many house → IsFull many (record { desk = desk; seats = news })
full_more desk olds news house is numbers hosted many full = full_still (record { desk = desk; seats = olds }) (record { desk = desk; seats = news }) refl numbers hosted many (subst (IsFull many) (sym is) full)

pub first_numbers : (olds news : List EngineSeat) (old new : EngineSeat) (course : Course) → Turned olds news old new → course.old ≡ old → course.new ≡ new → IsCourse course → SameNumbers olds news
first_numbers olds news old new course turned from to is =
    let same : new.number ≡ old.number = follow_number old new (course ∷ []) (from, is, sym to) in
    ap (map (λ (seat : EngineSeat). seat.number)) turned.news_are ∙ ((λ i. same i ∷ map (λ (seat : EngineSeat). seat.number) turned.rest) ∙ ap (map (λ (seat : EngineSeat). seat.number)) (sym turned.olds_are))

all_numbers : (olds news : List EngineSeat) (each : List (List Course)) → AllFollow olds each news → SameNumbers olds news
all_numbers [] [] [] follow = refl
all_numbers [] (new ∷ news) [] follow = absurd follow
all_numbers [] news (courses ∷ each) follow = absurd follow
all_numbers (old ∷ olds) news [] follow = absurd follow
all_numbers (old ∷ olds) [] (courses ∷ each) follow = absurd follow
all_numbers (old ∷ olds) (new ∷ news) (courses ∷ each) follow = λ i. follow_number old new courses follow.0 i ∷ all_numbers olds news each follow.1 i

pub many_numbers : (olds firsts others news new_firsts : List EngineSeat) (each : List (List Course)) → olds ≡ firsts ++ others → news ≡ new_firsts ++ others → AllFollow firsts each new_firsts → SameNumbers olds news
many_numbers olds firsts others news new_firsts each olds_are news_are follow =
    ap (map (λ (seat : EngineSeat). seat.number)) news_are ∙ (map-append (λ (seat : EngineSeat). seat.number) new_firsts others
    ∙ (ap (λ (l : List ℕ). l ++ map (λ (seat : EngineSeat). seat.number) others) (all_numbers firsts new_firsts each follow)
    ∙ (sym (map-append (λ (seat : EngineSeat). seat.number) firsts others) ∙ ap (map (λ (seat : EngineSeat). seat.number)) (sym olds_are))))
