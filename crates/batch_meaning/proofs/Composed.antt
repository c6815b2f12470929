-- What a tree does, from what its parts do.
use Rattle.std.proofs.Common.{◌≡◌, Bool, true, false, if◌then◌else◌, inl, inr, List, [], ◌∷◌, ◌++◌, Option, Result, Ok, Err, refl, sym, subst, append_assoc}
use Rattle.step_model.proofs.Pasts.{goes_nowhere, goes_further}
use Rattle.std.specs.Result.{IsErr, IsErrAnd}
use Rattle.value_types.specs.declared.memory.Memory.{Memory}
use Rattle.step_model.specs.declared.op.Op.{Op}
use Rattle.step_model.specs.declared.reply.Reply.{Reply}
use Rattle.step_model.specs.Exchange.{Exchange}
use Rattle.step_model.specs.Port.{PortPast}
use Rattle.tsql_tree.specs.declared.definition.Definition.{Definition}
use Rattle.value_types.specs.declared.value.Value.{Value}
use Rattle.table_rows.specs.Definitions.{IsDefinitionIn}
use Rattle.batch_meaning.specs.Progress.{SessionProgress, SessionStep, made, asked}
use Rattle.batch_meaning.specs.Doing.{Doing, over, reads, makes, defines, asks, room, never, ◌then◌, Held, Left, Came, Did, Exchanged, Leads}
use Rattle.batch_meaning.specs.Asking.{on_ok, ◌>>=◌}
use Rattle.batch_meaning.specs.declared.failure.Failure.{Failure}

-- ---- fronts

pub left_nothing : {A : Type 0} (tree : Doing A) (p : SessionProgress) → Left tree p [] p
unfolding Left
left_nothing (over a) p = (refl, refl)
left_nothing (reads look) p = left_nothing (look p) p
left_nothing (makes step next) p = inl (refl, refl)
left_nothing (defines entry go) p = inl (refl, refl)
left_nothing (asks op go) p = refl
left_nothing (room go) p = (false, left_nothing (go false) p)
left_nothing never p = (refl, refl)

-- ---- one tree behind another

pub held_then : {A B : Type 0} (tree : Doing A) (go : A → Doing B) (p mid new : SessionProgress) (first second : List Exchange) (a : A) (b : B)
    → Held tree p first a mid → Held (go a) mid second b new → Held (tree then go) p (first ++ second) b new
unfolding Held ◌then◌
held_then (over c) go p mid new first second a b held more = rw (held.0) (subst (λ q. Held (go c) q second b new) held.2 (subst (λ x. Held (go x) mid second b new) held.1 more))
held_then (reads look) go p mid new first second a b held more = held_then (look p) go p mid new first second a b held more
held_then (makes step next) go p mid new first second a b held more = held_then next go (made step p) mid new first second a b held more
held_then (defines entry next) go p mid new first second a b held more = (held.0, held.1, held_then (next held.0) go p mid new first second a b held.2 more)
held_then (asks op next) go p mid new [] second a b held more = absurd held
held_then (asks op next) go p mid new (x ∷ first) second a b held more = (held.0, held.1, held.2, held_then (next x.reply) go (asked op x.reply p) mid new first second a b held.3 more)
held_then (room next) go p mid new first second a b held more = (held.0, held_then (next held.0) go p mid new first second a b held.1 more)
held_then never go p mid new first second a b held more = absurd held

pub held_left : {A B : Type 0} (tree : Doing A) (go : A → Doing B) (p mid new : SessionProgress) (first second : List Exchange) (a : A)
    → Held tree p first a mid → Left (go a) mid second new → Left (tree then go) p (first ++ second) new
unfolding Held Left ◌then◌
held_left (over c) go p mid new first second a held more = rw (held.0) (subst (λ q. Left (go c) q second new) held.2 (subst (λ x. Left (go x) mid second new) held.1 more))
held_left (reads look) go p mid new first second a held more = held_left (look p) go p mid new first second a held more
held_left (makes step next) go p mid new first second a held more = inr (held_left next go (made step p) mid new first second a held more)
held_left (defines entry next) go p mid new first second a held more = inr (held.0, held.1, held_left (next held.0) go p mid new first second a held.2 more)
held_left (asks op next) go p mid new [] second a held more = absurd held
held_left (asks op next) go p mid new (x ∷ first) second a held more = (held.0, held.1, held.2, held_left (next x.reply) go (asked op x.reply p) mid new first second a held.3 more)
held_left (room next) go p mid new first second a held more = (held.0, held_left (next held.0) go p mid new first second a held.1 more)
held_left never go p mid new first second a held more = absurd held

pub left_then : {A B : Type 0} (tree : Doing A) (go : A → Doing B) (p new : SessionProgress) (exchanges : List Exchange) → Left tree p exchanges new → Left (tree then go) p exchanges new
unfolding Left ◌then◌
left_then (over c) go p new exchanges left = rw (left.0, left.1) (left_nothing (go c) p)
left_then (reads look) go p new exchanges left = left_then (look p) go p new exchanges left
left_then (makes step next) go p new exchanges (inl here) = inl here
left_then (makes step next) go p new exchanges (inr later) = inr (left_then next go (made step p) new exchanges later)
left_then (defines entry next) go p new exchanges (inl here) = inl here
left_then (defines entry next) go p new exchanges (inr later) = inr (later.0, later.1, left_then (next later.0) go p new exchanges later.2)
left_then (asks op next) go p new [] left = left
left_then (asks op next) go p new (x ∷ later) left = (left.0, left.1, left.2, left_then (next x.reply) go (asked op x.reply p) new later left.3)
left_then (room next) go p new exchanges left = (left.0, left_then (next left.0) go p new exchanges left.1)
left_then never go p new exchanges left = left

-- what comes behind a tree that came to a value
pub came_then : {A B : Type 0} (tree : Doing A) (go : A → Doing B) (p mid new : SessionProgress) (first second : List Exchange) (a : A) (result : Result B Memory)
    → Held tree p first a mid → Came (go a) mid second result new → Came (tree then go) p (first ++ second) result new
came_then tree go p mid new first second a (Ok b) held came = held_then tree go p mid new first second a b held came
came_then tree go p mid new first second a (Err memory) held came = held_left tree go p mid new first second a held came

-- ---- between two pasts of the port

pub does_over : {before : PortPast} {A : Type 0} {a : A} {p new : SessionProgress} → new ≡ p → Did before before (over a) p (Ok a) new
unfolding Held
does_over {before = before} same = record { exchanges = []; past = goes_nowhere before; came = (refl, refl, same) }

pub does_reads : {before after : PortPast} {A : Type 0} {look : SessionProgress → Doing A} {p new : SessionProgress} {result : Result A Memory} → Did before after (look p) p result new → Did before after (reads look) p result new
unfolding Held Left
does_reads {A = A} {look = look} {p = p} {new = new} {result = Ok a} does = record { exchanges = does.exchanges; past = does.past; came = does.came }
does_reads {A = A} {look = look} {p = p} {new = new} {result = Err m} does = record { exchanges = does.exchanges; past = does.past; came = does.came }

pub does_makes : {before after : PortPast} {A : Type 0} {step : SessionStep} {next : Doing A} {p q new : SessionProgress} {result : Result A Memory} → q ≡ made step p → Did before after next q result new → Did before after (makes step next) p result new
unfolding Held Left
does_makes {A = A} {step = step} {next = next} {p = p} {q = q} {new = new} {result = Ok a} same does = record { exchanges = does.exchanges; past = does.past; came = subst (λ (x : SessionProgress). Held next x does.exchanges a new) same does.came }
does_makes {A = A} {step = step} {next = next} {p = p} {q = q} {new = new} {result = Err m} same does = record { exchanges = does.exchanges; past = does.past; came = inr (subst (λ (x : SessionProgress). Left next x does.exchanges new) same does.came) }

pub does_room : {before after : PortPast} {A : Type 0} {go : Bool → Doing A} {p new : SessionProgress} {result : Result A Memory} (enough : Bool) → Did before after (go enough) p result new → Did before after (room go) p result new
unfolding Held Left
does_room {A = A} {go = go} {p = p} {new = new} {result = Ok a} enough does = record { exchanges = does.exchanges; past = does.past; came = (enough, does.came) }
does_room {A = A} {go = go} {p = p} {new = new} {result = Err m} enough does = record { exchanges = does.exchanges; past = does.past; came = (enough, does.came) }

pub does_defines : {before after : PortPast} {A : Type 0} {entry : List Value × List Value} {go : Option Definition → Doing A} {p new : SessionProgress} {result : Result A Memory} (found : Option Definition) → IsDefinitionIn entry found → Did before after (go found) p result new → Did before after (defines entry go) p result new
unfolding Held Left
does_defines {A = A} {go = go} {p = p} {new = new} {result = Ok a} found is does = record { exchanges = does.exchanges; past = does.past; came = (found, is, does.came) }
does_defines {A = A} {go = go} {p = p} {new = new} {result = Err m} found is does = record { exchanges = does.exchanges; past = does.past; came = inr (found, is, does.came) }

-- one operation, and what its reply leads to
pub does_asks : {before mid after : PortPast} {A : Type 0} {op : Op} {go : Reply → Doing A} {p q new : SessionProgress} {reply : Reply} {result : Result A Memory}
    → Exchanged before mid op p reply q → Did mid after (go reply) q result new → Did before after (asks op go) p result new
unfolding Held Left
does_asks {before = before} {mid = mid} {after = after} {A = A} {op = op} {go = go} {p = p} {q = q} {new = new} {reply = reply} {result = Ok a} first does = record {
  exchanges = record { op = op; manner = p.settings.manner; reply = reply } ∷ does.exchanges;
  past = goes_further before mid after (record { op = op; manner = p.settings.manner; reply = reply } ∷ []) does.exchanges first.past does.past;
  came = (refl, refl, first.can, subst (λ (x : SessionProgress). Held (go reply) x does.exchanges a new) first.same does.came);
}
does_asks {before = before} {mid = mid} {after = after} {A = A} {op = op} {go = go} {p = p} {q = q} {new = new} {reply = reply} {result = Err m} first does = record {
  exchanges = record { op = op; manner = p.settings.manner; reply = reply } ∷ does.exchanges;
  past = goes_further before mid after (record { op = op; manner = p.settings.manner; reply = reply } ∷ []) does.exchanges first.past does.past;
  came = (refl, refl, first.can, subst (λ (x : SessionProgress). Left (go reply) x does.exchanges new) first.same does.came);
}

pub does_then : {before mid after : PortPast} {A B : Type 0} (tree : Doing A) (go : A → Doing B) {p q new : SessionProgress} {a : A} {result : Result B Memory}
    → Did before mid tree p (Ok a) q → Did mid after (go a) q result new → Did before after (tree then go) p result new
does_then {before = before} {mid = mid} {after = after} {A = A} {B = B} tree go {p = p} {q = q} {new = new} {a = a} {result = result} first second = record {
  exchanges = first.exchanges ++ second.exchanges;
  past = goes_further before mid after first.exchanges second.exchanges first.past second.past;
  came = came_then tree go p q new first.exchanges second.exchanges a result first.came second.came;
}

-- a test, where it holds and where it does not
pub does_yes : {before after : PortPast} {A : Type 0} (test : Bool) (first other : Doing A) {p new : SessionProgress} {result : Result A Memory} → test ≡ true → Did before after first p result new → Did before after (if test then first else other) p result new
does_yes test first other holds does = rw holds does

pub does_no : {before after : PortPast} {A : Type 0} (test : Bool) (first other : Doing A) {p new : SessionProgress} {result : Result A Memory} → test ≡ false → Did before after other p result new → Did before after (if test then first else other) p result new
does_no test first other fails does = rw fails does

-- a way out by want of memory
pub does_out : {before : PortPast} {A : Type 0} {tree : Doing A} {p new : SessionProgress} (result : Result A Memory) → IsErr result → new ≡ p → Did before before tree p result new
does_out (Ok a) err same = absurd (let no : false ≡ true = err in cc)
does_out {before = before} {tree = tree} {p = p} (Err memory) err same = record { exchanges = []; past = goes_nowhere before; came = subst (λ (x : SessionProgress). Left tree p [] x) (sym same) (left_nothing tree p) }

-- behind a part that was left
pub does_leave : {before after : PortPast} {A B : Type 0} (tree : Doing A) (go : A → Doing B) {p new : SessionProgress} {memory : Memory} (result : Result B Memory) → IsErr result → Did before after tree p (Err memory) new → Did before after (tree then go) p result new
does_leave tree go (Ok b) err first = absurd (let no : false ≡ true = err in cc)
does_leave {A = A} {B = B} tree go {p = p} {new = new} (Err memory) err first = record { exchanges = first.exchanges; past = first.past; came = left_then tree go p new first.exchanges first.came }

-- ---- what is left to do

pub leads_here : {now : PortPast} {A : Type 0} {tree : Doing A} {p : SessionProgress} → Leads now now tree p tree p
leads_here {now = now} = record { front = []; past = goes_nowhere now; goes = λ later result new came. came }

pub leads_to : {before now after : PortPast} {A : Type 0} {whole rest : Doing A} {old mid new : SessionProgress} {result : Result A Memory} → Leads before now whole old rest mid → Did now after rest mid result new → Did before after whole old result new
leads_to {before = before} {now = now} {after = after} {new = new} {result = result} leads does = record {
  exchanges = leads.front ++ does.exchanges;
  past = goes_further before now after leads.front does.exchanges leads.past does.past;
  came = leads.goes does.exchanges result new does.came;
}

-- each way to go on, of a rest
came_reads : {A : Type 0} (look : SessionProgress → Doing A) (p : SessionProgress) (later : List Exchange) (result : Result A Memory) (new : SessionProgress) → Came (look p) p later result new → Came (reads look) p later result new
unfolding Held Left
came_reads look p later (Ok a) new came = came
came_reads look p later (Err m) new came = came

pub leads_reads : {before now : PortPast} {A : Type 0} {whole : Doing A} {look : SessionProgress → Doing A} {old mid : SessionProgress} → Leads before now whole old (reads look) mid → Leads before now whole old (look mid) mid
leads_reads {look = look} {mid = mid} leads = record { front = leads.front; past = leads.past; goes = λ later result new came. leads.goes later result new (came_reads look mid later result new came) }

came_makes : {A : Type 0} (step : SessionStep) (next : Doing A) (p : SessionProgress) (later : List Exchange) (result : Result A Memory) (new : SessionProgress) → Came next (made step p) later result new → Came (makes step next) p later result new
unfolding Held Left
came_makes step next p later (Ok a) new came = came
came_makes step next p later (Err m) new came = inr came

pub leads_makes : {before now : PortPast} {A : Type 0} {whole next : Doing A} {step : SessionStep} {old mid q : SessionProgress} → q ≡ made step mid → Leads before now whole old (makes step next) mid → Leads before now whole old next q
leads_makes {next = next} {step = step} {mid = mid} {q = q} same leads = record { front = leads.front; past = leads.past; goes = λ later result new came. leads.goes later result new (came_makes step next mid later result new (subst (λ (x : SessionProgress). Came next x later result new) same came)) }

pub leads_yes : {before now : PortPast} {A : Type 0} {whole : Doing A} (test : Bool) (first other : Doing A) {old mid : SessionProgress} → test ≡ true → Leads before now whole old (if test then first else other) mid → Leads before now whole old first mid
leads_yes test first other holds leads = rw holds at leads

pub leads_no : {before now : PortPast} {A : Type 0} {whole : Doing A} (test : Bool) (first other : Doing A) {old mid : SessionProgress} → test ≡ false → Leads before now whole old (if test then first else other) mid → Leads before now whole old other mid
leads_no test first other fails leads = rw fails at leads

pub leads_then : {before now after : PortPast} {A B : Type 0} {whole : Doing B} (tree : Doing A) (go : A → Doing B) {old mid q : SessionProgress} {a : A} → Leads before now whole old (tree then go) mid → Did now after tree mid (Ok a) q → Leads before after whole old (go a) q
leads_then {before = before} {now = now} {after = after} {whole = whole} tree go {old = old} {mid = mid} {q = q} {a = a} leads does = record {
  front = leads.front ++ does.exchanges;
  past = goes_further before now after leads.front does.exchanges leads.past does.past;
  goes = λ later result new came. subst (λ (x : List Exchange). Came whole old x result new) (sym (append_assoc leads.front does.exchanges later))
      (leads.goes (does.exchanges ++ later) result new (came_then tree go mid q new does.exchanges later a result does.came came));
}

-- an operation was asked, and the rest goes on by its reply
pub leads_asks : {before now after : PortPast} {A : Type 0} {whole : Doing A} {op : Op} (go : Reply → Doing A) {old mid q : SessionProgress} {reply : Reply} → Exchanged now after op mid reply q → Leads before now whole old (asks op go) mid → Leads before after whole old (go reply) q
unfolding ◌then◌
leads_asks {op = op} go {reply = reply} was leads = leads_then (asks op over) go leads (does_asks was (does_over refl))

-- there was room, or none
pub leads_room : {before now : PortPast} {A : Type 0} {whole : Doing A} (enough : Bool) (go : Bool → Doing A) {old mid : SessionProgress} → Leads before now whole old (room go) mid → Leads before now whole old (go enough) mid
unfolding ◌then◌
leads_room enough go leads = leads_then (room over) go leads (does_room enough (does_over refl))

-- where the rest comes to the same
pub leads_same : {before now : PortPast} {A : Type 0} {whole rest other : Doing A} {old mid : SessionProgress}
    → ((later : List Exchange) (result : Result A Memory) (new : SessionProgress) → Came other mid later result new → Came rest mid later result new) → Leads before now whole old rest mid → Leads before now whole old other mid
leads_same same leads = record { front = leads.front; past = leads.past; goes = λ later result new came. leads.goes later result new (same later result new came) }

-- ---- parts that may fail

-- behind a part that succeeded
pub does_bind : {before mid after : PortPast} {A B : Type 0} (tree : Doing (Result A Failure)) (go : A → Doing (Result B Failure)) {p q new : SessionProgress} {a : A} {result : Result (Result B Failure) Memory}
    → Did before mid tree p (Ok (Ok a)) q → Did mid after (go a) q result new → Did before after (tree >>= go) p result new
does_bind tree go first second = does_then tree (on_ok go) first second

-- behind one that failed
pub does_fail : {before mid : PortPast} {A B : Type 0} (tree : Doing (Result A Failure)) (go : A → Doing (Result B Failure)) {p q : SessionProgress} {failure : Failure} (result : Result B Failure)
    → IsErr result → IsErrAnd result (λ x. x ≡ failure) → Did before mid tree p (Ok (Err failure)) q → Did before mid (tree >>= go) p (Ok result) q
does_fail tree go (Ok b) err same first = absurd (let no : false ≡ true = err in cc)
does_fail {before = before} {mid = mid} {B = B} tree go {p = p} {q = q} (Err x) err same first = subst (λ (f : Failure). Did {A = Result B Failure} before mid (tree >>= go) p (Ok (Err f)) q) (sym same) (does_then tree (on_ok go) first (does_over refl))
