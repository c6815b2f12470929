-- Courses one behind another: what was followed, told and counted.
use Rattle.std.proofs.Common.{◌≡◌, ℕ, ◌+◌, ◌-◌, ◌^◌, ◌≤◌, Bool, true, false, List, [], ◌∷◌, ◌++◌, length, filter, cond, Option, None, Some, refl, sym, ap, ◌∙◌, subst, arith, append_assoc, append-nil, length-append}
use Rattle.std.specs.List.{AllZip}
use Rattle.tds_login.specs.declared.config.Config.{Config}
use Rattle.outside_io.specs.Doors.{count_on, one_if}
use Rattle.shared_port.specs.Asked.{EngineSeat}
use Rattle.shared_port.specs.SharedPort.{IsIdle}
use Rattle.seat_server.specs.Served.{Course, Follow, IsCourse}
use Rattle.seat_server.specs.Workers.{IsServedIn, TellsCourses, is_memory, starved_in}

-- ---- lists

pub some_is : {A : Type 0} {x y : A} → Some x ≡ Some y → x ≡ y
some_is is = cc

pub none_some : {A : Type 0} {x : A} → None ≡ Some x → ⊥
none_some is = absurd cc

pub zip_append : {A B : Type 0} (R : A → B → Type 0) (xs vs : List A) (ys ws : List B) → AllZip R xs ys → AllZip R vs ws → AllZip R (xs ++ vs) (ys ++ ws)
zip_append R [] vs [] ws first second = second
zip_append R [] vs (y ∷ ys) ws first second = absurd first
zip_append R (x ∷ xs) vs [] ws first second = absurd first
zip_append R (x ∷ xs) vs (y ∷ ys) ws first second = (first.0, zip_append R xs vs ys ws first.1 second)

filter_append : {A : Type 0} (test : A → Bool) (xs ys : List A) → filter test (xs ++ ys) ≡ filter test xs ++ filter test ys
filter_append test [] ys = refl
filter_append {A} test (x ∷ xs) ys = by_test (test x) (filter_append test xs ys)
  where
    by_test : (b : Bool) → filter test (xs ++ ys) ≡ filter test xs ++ filter test ys → cond b (x ∷ filter test (xs ++ ys)) (filter test (xs ++ ys)) ≡ cond b (x ∷ filter test xs) (filter test xs) ++ filter test ys
    by_test true rest = ap (λ (l : List A). x ∷ l) rest
    by_test false rest = rest

-- ---- counts

pub starved_append : (xs ys : List Course) → starved_in (xs ++ ys) ≡ starved_in xs + starved_in ys
starved_append xs ys = ap length (filter_append (λ (course : Course). is_memory course.end) xs ys) ∙ length-append (filter (λ (course : Course). is_memory course.end) xs) (filter (λ (course : Course). is_memory course.end) ys)

pub starved_one : (course : Course) → starved_in (course ∷ []) ≡ one_if (is_memory course.end)
starved_one course = by_test (is_memory course.end)
  where
    by_test : (b : Bool) → length (cond b (course ∷ []) []) ≡ one_if b
    by_test true = refl
    by_test false = refl

pub count_twice : (n a b : ℕ) → count_on (count_on n a) b ≡ count_on n (a + b)
count_twice n a b = omega arith

pub count_fresh : (n b : ℕ) → count_on n (count_on 0 b) ≡ count_on n b
count_fresh n b = omega arith

pub count_none : (n : ℕ) → n ≤ 2 ^ 64 - 1 → count_on n 0 ≡ n
count_none n bound = omega (arith, bound)

-- ---- seats

pub follow_append : (old mid new : EngineSeat) (xs ys : List Course) → Follow old xs mid → Follow mid ys new → Follow old (xs ++ ys) new
follow_append old mid new [] ys first second = subst (λ (seat : EngineSeat). Follow seat ys new) first second
follow_append old mid new (x ∷ xs) ys first second = (first.0, first.1, follow_append x.new mid new xs ys first.2 second)

pub follow_one : (course : Course) (old : EngineSeat) → course.old ≡ old → IsCourse course → Follow old (course ∷ []) course.new
follow_one course old is one = (is, one, refl)

-- what stays behind courses: the desk and the number of a seat, and that nothing is open
pub follow_desk : (old new : EngineSeat) (courses : List Course) → Follow old courses new → new.desk ≡ old.desk
follow_desk old new [] follow = ap (λ (seat : EngineSeat). seat.desk) follow
follow_desk old new (course ∷ courses) follow = follow_desk course.new new courses follow.2 ∙ (follow.1.stretch.since.desk ∙ ap (λ (seat : EngineSeat). seat.desk) follow.0)

pub follow_number : (old new : EngineSeat) (courses : List Course) → Follow old courses new → new.number ≡ old.number
follow_number old new [] follow = ap (λ (seat : EngineSeat). seat.number) follow
follow_number old new (course ∷ courses) follow = follow_number course.new new courses follow.2 ∙ (follow.1.stretch.since.number ∙ ap (λ (seat : EngineSeat). seat.number) follow.0)

pub follow_idle : (old new : EngineSeat) (courses : List Course) → IsIdle old → Follow old courses new → IsIdle new
follow_idle old new [] idle follow = subst IsIdle (sym follow) idle
follow_idle old new (course ∷ courses) idle follow = follow_idle course.new new courses follow.1.stretch.idle follow.2

-- ---- what is told

module _ {L : Type 0} (left given : L → Option (List ℕ)) (read_faults : L → ℕ) (written : L → Option (List ℕ)) (write_faults : L → ℕ) (config : Config) where
  pub tells_none : (told : Option (List L)) → TellsCourses left given read_faults written write_faults config [] told told
  tells_none None = tt
  tells_none (Some connections) = (connections, [], refl, sym (append-nil connections), tt)

  pub tells_append : (xs ys : List Course) (before mid after : Option (List L)) → TellsCourses left given read_faults written write_faults config xs before mid → TellsCourses left given read_faults written write_faults config ys mid after
      → TellsCourses left given read_faults written write_faults config (xs ++ ys) before after
  tells_append xs ys before mid None first second = tt
  tells_append xs ys before None (Some after) first second = absurd (none_some second.2)
  tells_append xs ys before (Some mid) (Some after) first second =
      let same : second.0 ≡ mid = sym (some_is second.2) in (
        first.0,
        first.1 ++ second.1,
        first.2,
        second.3 ∙ (ap (λ (l : List L). l ++ second.1) (same ∙ first.3) ∙ append_assoc first.0 first.1 second.1),
        zip_append (IsServedIn left given read_faults written write_faults config) xs ys first.1 second.1 first.4 second.4,
      )
