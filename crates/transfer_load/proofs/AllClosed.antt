-- The connections of workers that are done were closed by their clients, where none of them was short of memory; and each worker has one.
use Rattle.std.proofs.Common.{◌≡◌, ℕ, ◌+◌, ◌<◌, ◌≤◌, Bool, List, [], ◌∷◌, ◌++◌, length, take, drop, refl, sym, ap, ◌∙◌, subst, arith, length-append, length-take}
use Rattle.std.specs.Prelude.{Option, Some, filter}
use Rattle.std.specs.List.{AllByRecursion, AllZip}
use Rattle.std.proofs.lemmas.List.Elements.{filter-append}
use Rattle.tds_login.specs.declared.config.Config.{Config}
use Rattle.tds_login.specs.declared.config.Entry.TheVariants.{Bare}
use Rattle.tds_tokens.specs.declared.token.Token.{Token}
use Rattle.session_server.specs.declared.end.End.TheVariants.{Closed, Memory}
use Rattle.seat_server.specs.Served.{Course}
use Rattle.shared_port.specs.Asked.{EngineSeat}
use Rattle.seat_server.specs.declared.tally.Tally.{Tally}
use Rattle.seat_server.specs.Workers.{AllWorked, AreWithin, IsServedIn, TellsCourses, all_courses, is_memory, starved_in}
use Rattle.transfer_load.specs.Load.{Transferred}
use Rattle.transfer_load.specs.Batches.{batches_bytes, worker_texts}
use Rattle.transfer_load.specs.Connections.{AreDone, Connection, IsDone, line_given, line_left, line_written, read_faults, write_faults}
use Rattle.transfer_load.proofs.Messages.{worker_bytes_few, worker_short}
use Rattle.transfer_load.proofs.Closing.{closed_end}
use Rattle.transfer_load.proofs.OneEach.{each_long, few_each, one_each, zip_long}

abbrev Served : Config → Course → Connection → Type 0
Served config course connection = IsServedIn line_left line_given read_faults line_written write_faults config course connection

one_closed : (config : Config) (transfers worker : ℕ) (course : Course) (connection : Connection) (replies : List (List Token)) → config.entry ≡ Bare → transfers ≤ 10000
    → Served config course connection → IsDone transfers worker connection replies → (course.end ≡ Memory → ⊥) → course.end ≡ Closed
one_closed config transfers worker course connection replies bare many served done plenty =
    let heard = served.served.conversation.heard in
    let none : served.first.source.given ≡ [] = let is = served.untouched.0 in cc in
    let taken : heard.taken ≡ batches_bytes (worker_texts transfers worker) =
    sym (heard.from_source.to_given ∙ ap (λ (s : List ℕ). s ++ heard.taken) none) ∙ done.taken in
    closed_end config _ _ _ _ _ course.end heard (worker_texts transfers worker) bare (worker_short transfers worker) taken
    (omega (arith, ap length taken, worker_bytes_few transfers worker many))
    (record { read = λ is. omega (arith, served.reads.risen is); write = λ is. omega (arith, served.writes.risen is); memory = plenty })

starved_cons : (course : Course) (courses : List Course) → starved_in (course ∷ courses) ≡ 0 → (course.end ≡ Memory → ⊥) × (starved_in courses ≡ 0)
starved_cons course courses zero_in =
    let p : Course → Bool = λ c. is_memory c.end in
    let parts : length (filter p (course ∷ [])) + length (filter p courses) ≡ 0 =
    sym (ap length (filter-append p (course ∷ []) courses) ∙ length-append (filter p (course ∷ [])) (filter p courses)) ∙ zero_in in
    (λ is. let one : length (filter p (course ∷ [])) ≡ 1 = rw (ap is_memory is) refl in omega (arith, one, parts), omega (arith, parts))

pub all_closed : (config : Config) (transfers worker : ℕ) (courses : List Course) (connections : List Connection) (each : List (List (List Token))) → config.entry ≡ Bare → transfers ≤ 10000
    → AllZip (Served config) courses connections → AreDone transfers worker connections each → starved_in courses ≡ 0 → AllByRecursion (λ course. course.end ≡ Closed) courses
all_closed config transfers worker [] connections each bare many served done plenty = tt
all_closed config transfers worker (course ∷ courses) [] each bare many served done plenty = absurd served
all_closed config transfers worker (course ∷ courses) (c ∷ connections) [] bare many served done plenty = absurd done
all_closed config transfers worker (course ∷ courses) (c ∷ connections) (r ∷ each) bare many served done plenty =
    let memory = starved_cons course courses plenty in (
      one_closed config transfers worker course c r bare many served.0 done.0 memory.0,
      all_closed config transfers (worker + 1) courses connections each bare many served.1 done.1 memory.1,
    )

told_apart : (config : Config) (courses : List Course) (connections : List Connection) → TellsCourses line_left line_given read_faults line_written write_faults config courses (Some []) (Some connections)
    → AllZip (Served config) courses connections
told_apart config courses connections told =
    let none : told.0 ≡ [] = let is = told.2 in cc in
    let all : connections ≡ told.1 = told.3 ∙ ap (λ (s : List Connection). s ++ told.1) none in
    subst (AllZip (Served config) courses) (sym all) told.4

abbrev Worked : Config → ℕ → List EngineSeat → List EngineSeat → Option (List Connection) → Option (List Connection) → Tally → Type 0
Worked config rounds olds news old new tally = AllWorked line_left line_given read_faults line_written write_faults config (Some rounds) olds news old new tally

pub transferred_all : (config : Config) (workers transfers : ℕ) (olds news : List EngineSeat) (tally : Tally) (told_old told_new : Option (List Connection)) (connections : List Connection) (each : List (List (List Token)))
    → config.entry ≡ Bare → 0 < workers → workers ≤ length olds → transfers ≤ 10000 → Worked config workers (take workers olds) (take workers news) told_old told_new tally → told_old ≡ Some [] → told_new ≡ Some connections
    → tally.starved ≡ 0 → drop workers news ≡ drop workers olds → length connections ≡ workers → AreDone transfers 0 connections each → Transferred config workers transfers olds news each
transferred_all config workers transfers olds news tally told_old told_new connections each bare some enough few worked old new plenty others many done =
    let served : Worked config workers (take workers olds) (take workers news) (Some []) (Some connections) tally =
    subst (λ (told : Option (List Connection)). Worked config workers (take workers olds) (take workers news) (Some []) told tally) new
    (subst (λ (told : Option (List Connection)). Worked config workers (take workers olds) (take workers news) told told_new tally) old worked) in
    let none : starved_in (all_courses served.each) ≡ 0 = omega (arith, plenty, served.starved) in
    let told : AllZip (Served config) (all_courses served.each) connections = told_apart config (all_courses served.each) connections served.told in
    let long : length (take workers olds) ≡ workers = omega (arith, length-take workers olds, enough) in
    let within : AreWithin (Some workers) workers 0 served.each = subst (λ (n : ℕ). AreWithin (Some workers) n 0 served.each) long served.within in
    let all : length served.each ≤ length (all_courses served.each) =
    omega (arith, each_long (take workers olds) served.each (take workers news) served.follow, long, zip_long (Served config) (all_courses served.each) connections told, many) in record {
      tally = tally;
      connections = connections;
      served = served;
      one = one_each served.each (few_each workers 0 served.each some within) all;
      closed = all_closed config transfers 0 (all_courses served.each) connections each bare few told done none;
      others = others;
      many = many;
      done = done;
    }
