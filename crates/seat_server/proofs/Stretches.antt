-- What a seat has done since an entry, from the steps that it has made since; and connections one behind another.
use Rattle.std.proofs.Common.{◌≡◌, ℕ, ◌+◌, ◌≤◌, List, [], ◌∷◌, ◌++◌, length, refl, sym, ap, ◌∙◌, subst, arith, append_assoc, append-nil, length-append}
use Rattle.std.specs.List.{AllByRecursion, flat_map}
use Rattle.step_model.specs.declared.reply.Reply.{Reply}
use Rattle.step_model.specs.Exchange.{Exchange, MayCome}
use Rattle.step_model.specs.Fits.{Fits, all_numbers, numbers_of}
use Rattle.step_model.specs.Log.{Commit as Logged}
use Rattle.step_model.specs.Own.{Progress, none_open, progress_after, progress_from, progress_of, standing_at}
use Rattle.history_laws.proofs.Since.{fits_since}
use Rattle.engine_core.specs.Machine.{Ask, mine_in}
use Rattle.engine_core.specs.Machine.{FitsSteps, come}
use Rattle.shared_port.specs.Asked.{EngineSeat}
use Rattle.shared_port.specs.SharedPort.{IsIdle, Since}
use Rattle.shared_port.proofs.Mine.{mine_append}
use Rattle.connection_laws.specs.Laws.{AreConnections, IsConnection}
use Rattle.connection_laws.proofs.Sound.{connections_keep}
use Rattle.seat_server.specs.Served.{Course, Follow, HasServed, IsCourse, Stretch, new_seat}

-- ---- lists

progress_both : (p : Progress) (one other : List Exchange) → progress_from p (one ++ other) ≡ progress_from (progress_from p one) other
progress_both p [] other = refl
progress_both p (e ∷ one) other = progress_both (progress_after p e.op e.reply) one other

all_both : {A : Type 0} (P : A → Type 0) (xs ys : List A) → AllByRecursion P xs → AllByRecursion P ys → AllByRecursion P (xs ++ ys)
all_both P [] ys first second = second
all_both P (x ∷ xs) ys first second = (first.0, all_both P xs ys first.1 second)

flat_both : {A B : Type 0} (f : A → List B) (xs ys : List A) → flat_map f (xs ++ ys) ≡ flat_map f xs ++ flat_map f ys
flat_both f [] ys = refl
flat_both f (x ∷ xs) ys = ap (λ l. f x ++ l) (flat_both f xs ys) ∙ sym (append_assoc (f x) (flat_map f xs) (flat_map f ys))

-- behind exchanges that left nothing open, those that follow were asked where they may come
come_since : (before mine : List Exchange) → progress_of before ≡ none_open → come (before ++ mine) → come mine
come_since before mine closed comes front exchange later split =
    subst (λ (p : Progress). MayCome (standing_at p) exchange.op) (progress_both none_open before front ∙ ap (λ (p : Progress). progress_from p front) closed)
    (comes (before ++ front) exchange later (ap (λ (es : List Exchange). before ++ es) split ∙ sym (append_assoc before front (exchange ∷ later))))

-- ---- a stretch

module _ (old new : EngineSeat) (exchanges : List Exchange) (since : Since old new exchanges) where
  -- all exchanges of the seat are those before and these
  mine_are : mine_in new.steps ≡ mine_in old.steps ++ exchanges
  mine_are = ap mine_in since.steps ∙ (mine_append old.steps since.later ∙ ap (λ (es : List Exchange). mine_in old.steps ++ es) since.mine)

  pub fits_now : IsIdle old → Fits new.number [] new.log (mine_in new.steps) → Fits old.number old.log new.log exchanges
  fits_now idle within =
      let here : Fits old.number [] new.log (mine_in old.steps ++ exchanges) = subst (λ (es : List Exchange). Fits old.number [] new.log es) mine_are (subst (λ (n : ℕ). Fits n [] new.log (mine_in new.steps)) since.number within) in
      let grown : new.log ≡ old.log ++ since.log.0 = sym since.log.1 in
      let parts : length new.log ≡ length old.log + length since.log.0 = ap length grown ∙ length-append old.log since.log.0 in
      fits_since old.number old.log since.log.0 new.log (mine_in old.steps) exchanges grown since.before here idle since.numbers (omega (arith, parts))

  pub stretch_of : IsIdle old → FitsSteps new.log new.number new.steps → IsIdle new → AreConnections exchanges → Stretch old new exchanges
  stretch_of idle within idle_new connections =
      let fits : Fits old.number old.log new.log exchanges = fits_now idle within.0 in
      record {
        since = since;
        within = within;
        fits = fits;
        commits = fits.commits.1;
        keeps = connections_keep old.number old.log new.log exchanges (record {
          numbers = fits.numbers;
          fetches = fits.fetches;
          ranges = fits.ranges;
          inserts = fits.inserts;
          targets = fits.targets;
          commits = fits.commits;
          comes = come_since (mine_in old.steps) exchanges idle (subst come mine_are within.1);
        }) connections;
        idle = idle_new;
      }

-- ---- several

pub one_connection : (exchanges : List Exchange) → IsConnection exchanges → AreConnections exchanges
one_connection exchanges connection = record { each = exchanges ∷ []; split = sym (append-nil exchanges); connections = (connection, tt) }

pub no_connections : AreConnections []
no_connections = record { each = []; split = refl; connections = tt }

pub more_connections : (xs ys : List Exchange) → AreConnections xs → AreConnections ys → AreConnections (xs ++ ys)
more_connections xs ys first second = record {
  each = first.each ++ second.each;
  split = (λ i. first.split i ++ second.split i) ∙ sym (flat_both (λ (exchanges : List Exchange). exchanges) first.each second.each);
  connections = all_both IsConnection first.each second.each first.connections second.connections;
}

-- a seat has made these steps more, which are those of connections
pub record Made (old new : EngineSeat) : Type 0 where
  pub later : List (Ask × Reply)
  pub steps : new.steps ≡ old.steps ++ later
  pub connections : AreConnections (mine_in later)

pub made_by : (old new : EngineSeat) (courses : List Course) → Follow old courses new → Made old new
made_by old new [] follow = record { later = []; steps = ap (λ (seat : EngineSeat). seat.steps) follow ∙ sym (append-nil old.steps); connections = no_connections }
made_by old new (course ∷ courses) follow =
    let rest : Made course.new new = made_by course.new new courses follow.2 in
    let one : IsCourse course = follow.1 in
    let since = one.stretch.since in record {
      later = since.later ++ rest.later;
      steps = rest.steps ∙ (ap (λ (s : List (Ask × Reply)). s ++ rest.later) (since.steps ∙ ap (λ (seat : EngineSeat). seat.steps ++ since.later) follow.0) ∙ append_assoc old.steps since.later rest.later);
      connections = subst AreConnections (sym (mine_append since.later rest.later))
          (more_connections (mine_in since.later) (mine_in rest.later) (one_connection (mine_in since.later) (subst IsConnection (sym since.mine) one.connection)) rest.connections);
    }

-- all that a seat has done, where all of it were connections
pub all_connections : (seat : EngineSeat) → HasServed seat → AreConnections (mine_in seat.steps)
all_connections seat served =
    let made : Made (new_seat seat) seat = made_by (new_seat seat) seat served.0 served.1 in
    subst (λ (s : List (Ask × Reply)). AreConnections (mine_in s)) (sym made.steps) made.connections

-- nothing was done since itself
since_none : (seat : EngineSeat) → Fits seat.number [] seat.log (mine_in seat.steps) → Since seat seat []
since_none seat fits = record {
  desk = refl;
  number = refl;
  before = fits;
  later = [];
  steps = sym (append-nil seat.steps);
  mine = refl;
  log = ([], append-nil seat.log);
  numbers = tt;
  idle = λ idle closed. idle;
}

above_all : (low mid : ℕ) (numbers : List ℕ) → low ≤ mid → AllByRecursion (λ number. mid ≤ number) numbers → AllByRecursion (λ number. low ≤ number) numbers
above_all low mid [] bound all = tt
above_all low mid (number ∷ numbers) bound all = (omega (arith, bound, all.0), above_all low mid numbers bound all.1)

since_both : (old mid new : EngineSeat) (xs ys : List Exchange) → IsIdle mid → Since old mid xs → Since mid new ys → Since old new (xs ++ ys)
since_both old mid new xs ys idle first second =
    let longer : length old.log ≤ length mid.log = omega (arith, length-append old.log first.log.0, ap length first.log.1) in record {
      desk = second.desk ∙ first.desk;
      number = second.number ∙ first.number;
      before = first.before;
      later = first.later ++ second.later;
      steps = second.steps ∙ (ap (λ (s : List (Ask × Reply)). s ++ second.later) first.steps ∙ append_assoc old.steps first.later second.later);
      mine = mine_append first.later second.later ∙ (λ i. first.mine i ++ second.mine i);
      log = (first.log.0 ++ second.log.0, sym (append_assoc old.log first.log.0 second.log.0) ∙ (ap (λ (l : List Logged). l ++ second.log.0) first.log.1 ∙ second.log.1));
      numbers = subst (AllByRecursion (λ number. length old.log ≤ number)) (sym (flat_both (λ (e : Exchange). numbers_of e.reply) xs ys))
          (all_both (λ number. length old.log ≤ number) (all_numbers xs) (all_numbers ys) first.numbers (above_all (length old.log) (length mid.log) (all_numbers ys) longer second.numbers));
      idle = λ was closed. second.idle idle closed;
    }

-- in connections one behind another
record Followed (old new : EngineSeat) : Type 0 where
  pub exchanges : List Exchange
  pub since : Since old new exchanges
  pub idle : IsIdle new
  pub connections : AreConnections exchanges

followed : (old new : EngineSeat) (courses : List Course) → Fits new.number [] new.log (mine_in new.steps) → IsIdle old → Follow old courses new → Followed old new
followed old new [] fits idle follow =
    subst (λ (seat : EngineSeat). Followed seat new) follow
    (record { exchanges = []; since = since_none new fits; idle = subst IsIdle (sym follow) idle; connections = no_connections })
followed old new (course ∷ courses) fits idle follow =
    let one : IsCourse course = follow.1 in
    let rest : Followed course.new new = followed course.new new courses fits one.stretch.idle follow.2 in record {
      exchanges = one.exchanges ++ rest.exchanges;
      since = since_both old course.new new one.exchanges rest.exchanges one.stretch.idle (subst (λ (seat : EngineSeat). Since seat course.new one.exchanges) follow.0 one.stretch.since) rest.since;
      idle = rest.idle;
      connections = more_connections one.exchanges rest.exchanges (one_connection one.exchanges one.connection) rest.connections;
    }

pub one_stretch : (old new : EngineSeat) (courses : List Course) → FitsSteps new.log new.number new.steps → IsIdle old → Follow old courses new → (exchanges : List Exchange) × Stretch old new exchanges × AreConnections exchanges
one_stretch old new courses within idle follow =
    let all : Followed old new = followed old new courses within.0 idle follow in
    (all.exchanges, stretch_of old new all.exchanges all.since idle within all.idle all.connections, all.connections)
