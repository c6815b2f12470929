-- What one asking does to the past of a port.
use Rattle.std.proofs.Common.{◌≡◌, inr, ℕ, ◌≤◌, true, false, List, [], ◌∷◌, ◌++◌, map, length, Option, None, Some, refl, sym, ap, ◌∙◌, subst, append-nil, append_assoc, length-append, arith}
use Rattle.std.specs.List.{AllByRecursion}
use Rattle.std.proofs.lemmas.Grind.{flat_map-append}
use mathlib.Core.List.{IsPrefix}
use Rattle.step_model.specs.declared.op.Op.{Op}
use Rattle.step_model.specs.declared.op.Op.TheVariants.{Replace, Erase}
use Rattle.step_model.specs.declared.reply.Reply.{Reply}
use Rattle.step_model.specs.declared.reply.Reply.TheVariants.{Missing}
use Rattle.step_model.specs.Exchange.{Exchange, CanReply}
use Rattle.step_model.specs.Fits.{Fits, all_numbers, is_wait, numbers_of}
use Rattle.step_model.specs.Own.{progress_of, standing_at, none_open}
use Rattle.step_model.specs.Port.{GoesOn, AnswersSure, standing_after}
use Rattle.step_model.specs.Step.{Step}
use Rattle.history_laws.specs.Quiet.{EndsInWait}
use Rattle.history_laws.specs.Sure.{Sure}
use Rattle.history_laws.proofs.Replies.{step_can_reply}
use Rattle.history_laws.proofs.Since.{idle_outside, fits_since}
use Rattle.history_laws.proofs.Splits.{Split, at_end, within, split_end, progress_more, numbers_more, all_both}
use Rattle.history_laws.proofs.SureRows.{keeps_sure, sure_not_missing}
use Rattle.engine_core.specs.Machine.{Ask, exchange_of, exchanges_of, mine_in}
use Rattle.engine_core.proofs.Asking.{stands_after}
use Rattle.shared_port.specs.Asked.{EngineSeat, IsAsked}
use Rattle.shared_port.specs.SharedPort.{IsAtRest, Since, SinceEntry, FitsSince, seat_standing, shared_past}
use Rattle.shared_port.proofs.Mine.{exchanges_append, mine_append, mine_waits, mine_one}
use Rattle.shared_port.proofs.Numbers.{step_numbers}
use Rattle.shared_port.proofs.Waits.{prefix_trans, acts_grow, waited_mine, waited_hears}

-- ---- one asking

module _ (old : EngineSeat) (call : Ask) (reply : Reply) (new : EngineSeat) (asked : IsAsked old call reply new) (rests : IsAtRest old) where
  abbrev mid : EngineSeat
  mid = asked.waiting

  -- the steps that it adds
  abbrev later : List (Ask × Reply)
  later = map (λ reply. (call, reply)) asked.waited.waits ++ (call, reply) ∷ []

  asked_steps : new.steps ≡ old.steps ++ later
  asked_steps =
      asked.acts.steps ∙ ap (λ (steps : List (Ask × Reply)). steps ++ (call, reply) ∷ []) asked.waited.steps
      ∙ append_assoc old.steps (map (λ reply. (call, reply)) asked.waited.waits) ((call, reply) ∷ [])

  -- of which one exchange counts
  later_mine : mine_in later ≡ exchange_of (call, reply) ∷ []
  later_mine =
      mine_append (map (λ reply. (call, reply)) asked.waited.waits) ((call, reply) ∷ [])
      ∙ (λ i. mine_waits call asked.waited.waits asked.waited.all_wait i ++ mine_one call reply asked.passes i)

  asked_mine : mine_in new.steps ≡ mine_in old.steps ++ exchange_of (call, reply) ∷ []
  asked_mine = ap mine_in asked_steps ∙ mine_append old.steps later ∙ ap (λ (es : List Exchange). mine_in old.steps ++ es) later_mine

  asked_number : new.number ≡ old.number
  asked_number = asked.acts.number ∙ asked.waited.number

  asked_log : IsPrefix old.log new.log
  asked_log = prefix_trans old.log mid.log new.log asked.waited.log (acts_grow mid new call reply asked.acts)

  -- the reply is one that may come
  pub asked_replies : CanReply call.op reply
  asked_replies =
      step_can_reply asked.acts.before asked.acts.after mid.number call.op call.manner reply
      (waited_hears old mid call asked.waited rests asked.acts.before asked.acts.agrees.0.0) asked.acts.moves asked.passes

  -- where a row is sure it isn't Missing
  pub asked_sure : AnswersSure (Sure (mine_in old.steps)) call.op reply
  asked_sure = by_reply call.op reply asked.acts.moves
    where
      by_reply : (op : Op) (reply : Reply) → Step asked.acts.before mid.number op call.manner reply asked.acts.after → AnswersSure (Sure (mine_in old.steps)) op reply
      by_reply (Replace table key row) Missing step = λ span sure.
          sure_not_missing asked.acts.before asked.acts.after mid.number (exchanges_of mid.steps) (Replace table key row) call.manner asked.acts.agrees.0.0.accords step span table key (refl, refl)
          (subst (λ (mine : List Exchange). Sure mine span table key) (sym (waited_mine old mid call asked.waited)) sure)
      by_reply (Erase table key) Missing step = λ span sure.
          sure_not_missing asked.acts.before asked.acts.after mid.number (exchanges_of mid.steps) (Erase table key) call.manner asked.acts.agrees.0.0.accords step span table key (refl, refl)
          (subst (λ (mine : List Exchange). Sure mine span table key) (sym (waited_mine old mid call asked.waited)) sure)
      by_reply op reply step = tt

  -- the seat is at rest again
  pub asked_rests : IsAtRest new
  asked_rests = inr (λ ends. not_last ends (split_end (exchanges_of mid.steps) (exchange_of (call, reply)) ends.before ends.last [] (sym (ap exchanges_of asked.acts.steps ∙ exchanges_append mid.steps ((call, reply) ∷ [])) ∙ ends.split)))
    where
      not_last : (ends : EndsInWait (exchanges_of new.steps)) → Split (exchanges_of mid.steps) (exchange_of (call, reply)) ends.before ends.last [] → ⊥
      not_last ends (at_end front same none) = let h : true ≡ false = sym ends.told ∙ ap (λ (e : Exchange). is_wait e.reply) same ∙ asked.passes in cc
      not_last ends (within rest front back) = no_more rest back
        where
          no_more : (rest : List Exchange) → [] ≡ rest ++ exchange_of (call, reply) ∷ [] → ⊥
          no_more [] is = cc
          no_more (x ∷ rest) is = cc

  -- where its session stands then
  stands : seat_standing new ≡ standing_after (seat_standing old) call.op reply
  stands =
      ap (λ (mine : List Exchange). standing_at (progress_of mine)) asked_mine ∙ ap standing_at (progress_more none_open (mine_in old.steps) (exchange_of (call, reply)))
      ∙ stands_after (progress_of (mine_in old.steps)) call.op reply

  -- ---- since an entry

  -- each number that it is told is the length of a log that goes on from the entry's
  told_above : (entry : EngineSeat) (earlier : List Exchange) → Since entry old earlier → AllByRecursion (λ number. length entry.log ≤ number) (numbers_of reply)
  told_above entry earlier since = all_above (numbers_of reply) (step_numbers asked.acts.before asked.acts.after mid.number call.op call.manner reply asked.acts.moves)
    where
      grown : IsPrefix entry.log asked.acts.before.log
      grown = prefix_trans entry.log old.log asked.acts.before.log since.log (prefix_trans old.log mid.log asked.acts.before.log asked.waited.log asked.acts.agrees.1)

      low : length entry.log ≤ length asked.acts.before.log
      low = let h = ap length grown.1 in let n = length-append entry.log grown.0 in omega (arith, h, n)

      all_above : (numbers : List ℕ) → AllByRecursion (λ number. number ≡ length asked.acts.before.log) numbers → AllByRecursion (λ number. length entry.log ≤ number) numbers
      all_above [] all = tt
      all_above (n ∷ numbers) all = (rw all.0 low, all_above numbers all.1)

  since_more : (entry : EngineSeat) (earlier : List Exchange) → Since entry old earlier → Since entry new (earlier ++ exchange_of (call, reply) ∷ [])
  since_more entry earlier since = record {
    desk = asked.acts.desk ∙ asked.waited.desk ∙ since.desk;
    number = asked_number ∙ since.number;
    before = since.before;
    later = since.later ++ later;
    steps = asked_steps ∙ ap (λ (steps : List (Ask × Reply)). steps ++ later) since.steps ∙ append_assoc entry.steps since.later later;
    mine = mine_append since.later later ∙ (λ i. since.mine i ++ later_mine i);
    log = prefix_trans entry.log old.log new.log since.log asked_log;
    numbers = subst (AllByRecursion (λ number. length entry.log ≤ number)) (sym (numbers_more earlier (exchange_of (call, reply))))
        (all_both (λ number. length entry.log ≤ number) (all_numbers earlier) (numbers_of reply) since.numbers (told_above entry earlier since));
    idle = λ idle closed. idle_outside asked.acts.after new.number (exchanges_of new.steps) asked.acts.known.0.accords (asked.acts.known.0.accords.tied.is_open ∙ closed);
  }

  since_entry : (entry : Option EngineSeat) (earlier : List Exchange) → SinceEntry entry old earlier → SinceEntry entry new (earlier ++ exchange_of (call, reply) ∷ [])
  since_entry None earlier since = tt
  since_entry (Some entry) earlier since = since_more entry earlier since

  -- the port's past goes on by the exchange
  pub asked_goes : (entry : Option EngineSeat) → GoesOn (shared_past entry old) (shared_past entry new) (exchange_of (call, reply) ∷ [])
  asked_goes entry = record {
    session = asked_number;
    standing = stands;
    sure = λ span t x sure. subst (λ (mine : List Exchange). Sure mine span t x) (sym asked_mine) (keeps_sure (mine_in old.steps) call.op call.manner reply asked_replies span t x sure);
    told = asked_mine;
    led = since_entry entry;
  }

-- the same of what is equal
pub asked_as : (seat port : EngineSeat) (built call : Ask) (reply : Reply) (new : EngineSeat) → seat ≡ port → built ≡ call → IsAsked seat built reply new → IsAsked port call reply new
asked_as seat port built call reply new same made asked = subst (λ (old : EngineSeat). IsAsked old call reply new) same (subst (λ (ask : Ask). IsAsked seat ask reply new) made asked)

-- ---- an entry, and what was done since

-- a seat has done nothing since itself
pub since_itself : (seat : EngineSeat) → Fits seat.number [] seat.log (mine_in seat.steps) → Since seat seat []
since_itself seat fits = record {
  desk = refl;
  number = refl;
  before = fits;
  later = [];
  steps = sym (append-nil seat.steps);
  mine = refl;
  log = ([], append-nil seat.log);
  numbers = tt;
  idle = λ idle closed. idle;
}

-- what it has done since an entry, and then since a moment at which no transaction was open
pub since_joined : (entry mid seat : EngineSeat) (first second : List Exchange) → Since entry mid first → (seat_standing mid).is_open ≡ false → Since mid seat second → Since entry seat (first ++ second)
since_joined entry mid seat first second one closed two = record {
  desk = two.desk ∙ one.desk;
  number = two.number ∙ one.number;
  before = one.before;
  later = one.later ++ two.later;
  steps = two.steps ∙ ap (λ (steps : List (Ask × Reply)). steps ++ two.later) one.steps ∙ append_assoc entry.steps one.later two.later;
  mine = mine_append one.later two.later ∙ (λ i. one.mine i ++ two.mine i);
  log = prefix_trans entry.log mid.log seat.log one.log two.log;
  numbers = subst (AllByRecursion (λ number. length entry.log ≤ number)) (sym (flat_map-append (λ (exchange : Exchange). numbers_of exchange.reply) first second))
      (all_both (λ number. length entry.log ≤ number) (all_numbers first) (all_numbers second) one.numbers (all_above (all_numbers second) two.numbers));
  idle = λ idle. two.idle (one.idle idle closed);
}
  where
    all_above : (numbers : List ℕ) → AllByRecursion (λ number. length mid.log ≤ number) numbers → AllByRecursion (λ number. length entry.log ≤ number) numbers
    all_above [] all = tt
    all_above (n ∷ numbers) all =
        let h = ap length one.log.1 in let sum = length-append entry.log one.log.0 in let above = all.0 in (omega (arith, h, sum, above), all_above numbers all.1)

-- from an entry with no transaction open, what it has done since fits what the log has grown by
pub since_fits : (entry seat : EngineSeat) → Fits seat.number [] seat.log (mine_in seat.steps) → FitsSince entry seat
since_fits entry seat fits exchanges idle since =
    fits_since seat.number entry.log since.log.0 seat.log (mine_in entry.steps) exchanges (sym since.log.1)
    (subst (λ (number : ℕ). Fits number [] entry.log (mine_in entry.steps)) (sym since.number) since.before)
    (subst (Fits seat.number [] seat.log) (ap mine_in since.steps ∙ mine_append entry.steps since.later ∙ ap (λ (es : List Exchange). mine_in entry.steps ++ es) since.mine) fits)
    idle since.numbers (let h = ap length since.log.1 in let n = length-append entry.log since.log.0 in omega (arith, h, n))

-- what a port tells of its past since it was made is what its seat has done since then
pub led_since : (entry : Option EngineSeat) (seat before after : EngineSeat) (exchanges : List Exchange) → entry ≡ Some seat → before ≡ seat → Since before before []
    → GoesOn (shared_past entry before) (shared_past entry after) exchanges → Since seat after exchanges
led_since entry seat before after exchanges is same start goes =
    subst (λ (entry : Option EngineSeat). SinceEntry entry after exchanges) is
    (goes.led [] (subst (λ (entry : Option EngineSeat). SinceEntry entry before []) (sym is) (subst (λ (seat : EngineSeat). Since seat before []) same start)))
