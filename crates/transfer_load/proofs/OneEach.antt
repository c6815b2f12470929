-- Workers have one connection each, where that is the share of each of them, and there are as many connections as workers.
use Rattle.std.proofs.Common.{◌≡◌, ℕ, ◌+◌, ◌*◌, ◌/◌, ◌%◌, ◌<◌, ◌≤◌, ltb, List, [], ◌∷◌, length, refl, sym, ap, ◌∙◌, arith, length-append}
use Rattle.std.specs.Prelude.{Some}
use Rattle.std.specs.List.{AllByRecursion, AllZip}
use Rattle.std.proofs.lemmas.Nat.{div-mul-add, mod-mul-add}
use Rattle.outside_io.specs.Doors.{one_if}
use Rattle.shared_port.specs.Asked.{EngineSeat}
use Rattle.seat_server.specs.Served.{Course}
use Rattle.seat_server.specs.Workers.{AllFollow, AreWithin, all_courses}
use Rattle.seat_server.proofs.Shares.{one_below}

-- a list for each seat, and one of a pair for each other
pub each_long : (olds : List EngineSeat) (each : List (List Course)) (news : List EngineSeat) → AllFollow olds each news → length each ≡ length olds
each_long [] [] [] follow = refl
each_long [] [] (new ∷ news) follow = absurd follow
each_long [] (courses ∷ each) news follow = absurd follow
each_long (old ∷ olds) [] news follow = absurd follow
each_long (old ∷ olds) (courses ∷ each) [] follow = absurd follow
each_long (old ∷ olds) (courses ∷ each) (new ∷ news) follow = omega (arith, each_long olds each news follow.1)

pub zip_long : {A B : Type 0} (R : A → B → Type 0) (xs : List A) (ys : List B) → AllZip R xs ys → length xs ≡ length ys
zip_long R [] [] all = refl
zip_long R [] (y ∷ ys) all = absurd all
zip_long R (x ∷ xs) [] all = absurd all
zip_long R (x ∷ xs) (y ∷ ys) all = omega (arith, zip_long R xs ys all.1)

-- of as many rounds as workers each has one
single_share : (workers at : ℕ) → 0 < workers → workers / workers + one_if (ltb at (workers % workers)) ≡ 1
single_share workers at some =
    let same : 1 * workers + 0 ≡ workers = omega arith in
    let whole : workers / workers ≡ 1 = ap (λ (n : ℕ). n / workers) (sym same) ∙ div-mul-add 1 workers 0 some in
    let rest : workers % workers ≡ 0 = ap (λ (n : ℕ). n % workers) (sym same) ∙ mod-mul-add 1 workers 0 some in
    omega (arith, whole, one_below at (workers % workers), rest)

pub few_each : (workers at : ℕ) (each : List (List Course)) → 0 < workers → AreWithin (Some workers) workers at each → AllByRecursion (λ courses. length courses ≤ 1) each
few_each workers at [] some within = tt
few_each workers at (courses ∷ each) some within =
    let here : length courses ≤ workers / workers + one_if (ltb at (workers % workers)) = within.0 in
    (omega (arith, here, single_share workers at some), few_each workers (at + 1) each some within.1)

joined : (courses : List Course) (each : List (List Course)) → length (all_courses (courses ∷ each)) ≡ length courses + length (all_courses each)
joined courses each = length-append courses (all_courses each)

few_in_all : (each : List (List Course)) → AllByRecursion (λ courses. length courses ≤ 1) each → length (all_courses each) ≤ length each
few_in_all [] few = omega arith
few_in_all (courses ∷ each) few = let here : length courses ≤ 1 = few.0 in omega (arith, here, few_in_all each few.1, joined courses each)

pub one_each : (each : List (List Course)) → AllByRecursion (λ courses. length courses ≤ 1) each → length each ≤ length (all_courses each) → AllByRecursion (λ courses. length courses ≡ 1) each
one_each [] few all = tt
one_each (courses ∷ each) few all =
    let here : length courses ≤ 1 = few.0 in
    let bound : length (all_courses each) ≤ length each = few_in_all each few.1 in
    (omega (arith, here, bound, joined courses each, all), one_each each few.1 (omega (arith, here, joined courses each, all)))
