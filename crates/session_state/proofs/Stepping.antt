-- What is done without the port, step by step.
use Rattle.std.proofs.Common.{◌≡◌, ℕ, suc, ◌+◌, ◌<◌, inl, inr, Bool, true, false, List, ◌∷◌, ◌++◌, drop, length, get_or, add-one, [], Result, Ok, Err, refl, sym, ap, ◌∙◌, subst, if◌then◌else◌}
use Rattle.std.proofs.Math.Seq.{drop-cons}
use Rattle.step_model.specs.Port.{PortPast}
use Rattle.std.specs.Result.{IsErr}
use Rattle.value_types.specs.declared.memory.Memory.{Memory}
use Rattle.batch_meaning.specs.declared.failure.Failure.{Failure}
use Rattle.batch_meaning.specs.Progress.{SessionProgress, SessionStep, assigns, made}
use Rattle.batch_meaning.specs.Doing.{Doing, over, reads, makes, room, Held, Left, Did}
use Rattle.batch_meaning.specs.Asking.{assigns_all}
use Rattle.step_model.proofs.Pasts.{goes_nowhere}
use Rattle.batch_meaning.proofs.Composed.{left_nothing}
use Rattle.batch_meaning.specs.Values.{Assigned}
use Rattle.session_state.specs.Parts.{IsOrMemory, Stepped, assigned_all}

-- it is what was meant, where it succeeded
pub meant_ok : {A : Type 0} (meant : Result A Failure) (a : A) → IsOrMemory meant (Ok a) → meant ≡ Ok a
meant_ok meant a (inl same) = sym same
meant_ok meant a (inr none) = absurd cc

pub next_of : {A : Type 0} (l : List A) (i : ℕ) (item : A) → item ≡ get_or l i item → i < length l → drop i l ≡ item ∷ drop (i + 1) l
next_of {A = A} l i item is within = drop-cons l i item within ∙ ap (λ (x : A). x ∷ drop (suc i) l) (sym is) ∙ ap (λ (n : ℕ). item ∷ drop n l) (sym (add-one i))

-- ---- what is done without the port

-- what is done without the port
pub does_stepped : {past : PortPast} {A : Type 0} {tree : Doing A} {p new : SessionProgress} {result : Result A Memory} → Stepped tree p result new → Did past past tree p result new
does_stepped {past = past} was = record { exchanges = []; past = goes_nowhere past; came = was.came }

pub stepped_over : {A : Type 0} {a : A} {p new : SessionProgress} → new ≡ p → Stepped (over a) p (Ok a) new
unfolding Held
stepped_over same = record { came = (refl, refl, same) }

pub stepped_made : {A : Type 0} {made result : A} {p : SessionProgress} → result ≡ made → Stepped (over made) p (Ok result) p
stepped_made {made = made} {p = p} is = subst (λ r. Stepped (over made) p (Ok r) p) (sym is) (stepped_over refl)

pub stepped_makes : {A : Type 0} {step : SessionStep} {next : Doing A} {p q new : SessionProgress} {result : Result A Memory} → q ≡ made step p → Stepped next q result new → Stepped (makes step next) p result new
unfolding Held Left
stepped_makes {next = next} {new = new} {result = Ok a} same was = record { came = subst (λ (x : SessionProgress). Held next x [] a new) same was.came }
stepped_makes {next = next} {new = new} {result = Err m} same was = record { came = inr (subst (λ (x : SessionProgress). Left next x [] new) same was.came) }

pub stepped_out : {A : Type 0} {tree : Doing A} {p new : SessionProgress} (result : Result A Memory) → IsErr result → new ≡ p → Stepped tree p result new
stepped_out (Ok a) err same = absurd (let no : false ≡ true = err in cc)
stepped_out {tree = tree} {p = p} (Err memory) err same = record { came = subst (λ (x : SessionProgress). Left tree p [] x) (sym same) (left_nothing tree p) }

pub stepped_yes : {A : Type 0} (test : Bool) (first other : Doing A) {p new : SessionProgress} {result : Result A Memory} → test ≡ true → Stepped first p result new → Stepped (if test then first else other) p result new
stepped_yes test first other holds was = rw holds was

pub stepped_no : {A : Type 0} (test : Bool) (first other : Doing A) {p new : SessionProgress} {result : Result A Memory} → test ≡ false → Stepped other p result new → Stepped (if test then first else other) p result new
stepped_no test first other fails was = rw fails was

pub stepped_reads : {A : Type 0} {look : SessionProgress → Doing A} {p new : SessionProgress} {result : Result A Memory} → Stepped (look p) p result new → Stepped (reads look) p result new
unfolding Held Left
stepped_reads {result = Ok a} was = record { came = was.came }
stepped_reads {result = Err m} was = record { came = was.came }

pub stepped_room : {A : Type 0} {go : Bool → Doing A} {p new : SessionProgress} {result : Result A Memory} (enough : Bool) → Stepped (go enough) p result new → Stepped (room go) p result new
unfolding Held Left
stepped_room {result = Ok a} enough was = record { came = (enough, was.came) }
stepped_room {result = Err m} enough was = record { came = (enough, was.came) }

-- ---- variables that are assigned one after another

stepped_sets : {A : Type 0} (sets : List Assigned) (next : Doing A) {p new : SessionProgress} {result : Result A Memory} → Stepped next (assigned_all sets p) result new → Stepped (assigns_all sets next) p result new
unfolding assigns_all
stepped_sets [] next was = was
stepped_sets (one ∷ rest) next was = stepped_makes refl (stepped_sets rest next was)

pub stepped_assigned : {A : Type 0} (sets : List Assigned) (next : Doing A) {p q new : SessionProgress} {result : Result A Memory} → q ≡ assigned_all sets p → Stepped next q result new → Stepped (assigns_all sets next) p result new
stepped_assigned sets next {new = new} {result = result} same was = stepped_sets sets next (subst (λ (x : SessionProgress). Stepped next x result new) same was)

-- nothing else is changed by that
pub assigned_only : (sets : List Assigned) (p : SessionProgress) → assigned_all sets p ≡ record p { vars = (assigned_all sets p).vars }
assigned_only [] p = refl
assigned_only (one ∷ rest) p = assigned_only rest (made (assigns one.0 one.1) p)

-- one more
pub assigned_more : (sets : List Assigned) (one : Assigned) (p : SessionProgress) → assigned_all (sets ++ one ∷ []) p ≡ made (assigns one.0 one.1) (assigned_all sets p)
assigned_more [] one p = refl
assigned_more (first ∷ sets) one p = assigned_more sets one (made (assigns first.0 first.1) p)
