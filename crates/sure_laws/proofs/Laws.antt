-- The laws.
use Rattle.std.proofs.Common.{◌≡◌, List, [], ◌∷◌, ◌++◌, Ok, Err, false, refl, sym, subst}
use Rattle.std.specs.Prelude.{◌≢◌}
use Rattle.std.specs.List.{AllByRecursion}
use Rattle.value_types.specs.declared.memory.Memory.{Memory}
use Rattle.step_model.specs.declared.op.Op.{Op}
use Rattle.step_model.specs.declared.op.Op.TheVariants as ops
use Rattle.step_model.specs.declared.reply.Reply.{Reply}
use Rattle.step_model.specs.declared.reply.Reply.TheVariants as replies
use Rattle.step_model.specs.Exchange.{CanReply, Exchange}
use Rattle.step_model.specs.Port.{AnswersSure}
use Rattle.step_model.specs.Sure.{SureKeys, sure_after}
use Rattle.batch_meaning.specs.Doing.{Doing, Held, asks, defines, makes, never, over, reads, room}
use Rattle.batch_meaning.specs.Meaning.{batch, mean_of}
use Rattle.batch_meaning.specs.Progress.{SessionProgress, asked, made}
use Rattle.batch_meaning.specs.Rpc.{rpc}
use Rattle.ample_laws.specs.Ample.{Ample, NoneRefused, is_refusal}
use Rattle.ample_laws.proofs.Amply.{ample_held}
use Rattle.ample_laws.proofs.Refusals.{ample_batches, ample_calls}
use Rattle.sure_laws.specs.Asked.{AnsweredSure, AreSure, AreTold, AsksSure, NoneMissing, none_sure}
use Rattle.sure_laws.specs.Laws.{BatchesSure, BothSure, CallsSure, StatementsSure, SureAnswered, UnhinderedBatches, UnhinderedCalls, WritesSure, is_hindrance}
use Rattle.sure_laws.proofs.Sures.{Any}
use Rattle.sure_laws.proofs.Trees.{Surely, are_more, sures_held, sures_left}
use Rattle.sure_laws.proofs.Meanings.{batch_surely, call_surely, mean_surely}

-- ---- what is asked

writes_sure : {A : Type 0} (tree : Doing A) → ((old : SessionProgress) → Surely old.settings.manner tree) → WritesSure tree
writes_sure tree sure old new exchanges (Ok result) told held = sures_held old.settings.manner Any [] [] tree old new exchanges result (sure old []) tt told held
writes_sure tree sure old new exchanges (Err memory) told left = sures_left old.settings.manner Any [] [] tree old new exchanges (sure old []) tt told left

pub statements_sure : StatementsSure
statements_sure levels around statement = writes_sure (mean_of levels statement around) (λ old. mean_surely old.settings.manner levels statement around)

pub batches_sure : BatchesSure
batches_sure read = writes_sure (batch read) (λ old. batch_surely old.settings.manner read)

pub calls_sure : CallsSure
calls_sure call read = writes_sure (rpc call read) (λ old. call_surely old.settings.manner call read)

both_from : (sure : SureKeys) (front back : List Exchange) → AreSure sure front → AreSure none_sure back → AreSure sure (front ++ back)
both_from sure [] back one other = are_more none_sure sure back (λ span t x none. absurd none) other
both_from sure (x ∷ front) back one other = (one.0, both_from (sure_after sure x.op x.reply) front back one.1 other)

pub both_sure : BothSure
both_sure front back one other = both_from none_sure front back one other

-- ---- what is answered

-- where the reply is Missing the operation is one that a port does not answer so
not_so : (sure : SureKeys) (op : Op) → CanReply op replies.Missing → AsksSure sure op → AnswersSure sure op replies.Missing → ⊥
not_so sure (ops.Replace table key row) can sured answers = answers sured.0 sured.1
not_so sure (ops.Erase table key) can sured answers = answers sured.0 sured.1
not_so sure op can sured answers = absurd can

not_missing : (sure : SureKeys) (op : Op) (reply : Reply) → CanReply op reply → AsksSure sure op → AnswersSure sure op reply → reply ≢ replies.Missing
not_missing sure op reply can sured answers is = not_so sure op (subst (λ (r : Reply). CanReply op r) is can) sured (subst (λ (r : Reply). AnswersSure sure op r) is answers)

answered_from : (sure : SureKeys) (exchanges : List Exchange) → AllByRecursion (λ x. CanReply x.op x.reply) exchanges → AreSure sure exchanges → AnsweredSure sure exchanges → NoneMissing exchanges
answered_from sure [] can are answered = tt
answered_from sure (x ∷ later) can are answered = (not_missing sure x.op x.reply can.0 are.0 answered.0, answered_from (sure_after sure x.op x.reply) later can.1 are.1 answered.1)

pub sure_answered : SureAnswered
sure_answered exchanges can are answered = answered_from none_sure exchanges can are answered

-- ---- nothing is refused

none_refused : (exchanges : List Exchange) → NoneMissing exchanges → AllByRecursion (λ x. is_hindrance x.reply ≡ false) exchanges → NoneRefused exchanges
none_refused [] none free = tt
none_refused (x ∷ later) none free = (by_reply x.reply none.0 free.0, none_refused later none.1 free.1)
  where
    by_reply : (reply : Reply) → reply ≢ replies.Missing → is_hindrance reply ≡ false → is_refusal reply ≡ false
    by_reply replies.Missing other free = absurd (other refl)
    by_reply replies.Memory other free = free
    by_reply (replies.TimedOut holder held wanted on) other free = free
    by_reply (replies.Victim cycle) other free = free
    by_reply reply other free = refl

held_can : {A : Type 0} (tree : Doing A) (p new : SessionProgress) (exchanges : List Exchange) (a : A) → Held tree p exchanges a new → AllByRecursion (λ x. CanReply x.op x.reply) exchanges
unfolding Held
held_can (over c) p new exchanges a held = subst (AllByRecursion (λ x. CanReply x.op x.reply)) (sym held.0) tt
held_can (reads look) p new exchanges a held = held_can (look p) p new exchanges a held
held_can (makes step next) p new exchanges a held = held_can next (made step p) new exchanges a held
held_can (defines entry go) p new exchanges a held = held_can (go held.0) p new exchanges a held.2
held_can (asks op go) p new [] a held = absurd held
held_can (asks op go) p new (x ∷ later) a held = (subst (λ (o : Op). CanReply o x.reply) (sym held.0) held.2, held_can (go x.reply) (asked op x.reply p) new later a held.3)
held_can (room go) p new exchanges a held = held_can (go held.0) p new exchanges a held.1
held_can never p new exchanges a held = absurd held

unrefused : (tree : Doing (Unit {0})) (old new : SessionProgress) (exchanges : List Exchange) → WritesSure tree → AllByRecursion (λ x. is_hindrance x.reply ≡ false) exchanges → AreTold [] exchanges → AnsweredSure none_sure exchanges
    → Ample tree old exchanges tt new → NoneRefused exchanges
unrefused tree old new exchanges sure free told answered ample =
    let held : Held tree old exchanges tt new = ample_held tree old new exchanges tt ample in
    none_refused exchanges (sure_answered exchanges (held_can tree old new exchanges tt held) (sure old new exchanges (Ok tt) told held) answered) free

pub unhindered_batches : UnhinderedBatches
unhindered_batches units read old new exchanges reads_so free told answered ample = ample_batches units read old new exchanges reads_so (unrefused (batch read) old new exchanges (batches_sure read) free told answered ample) ample

pub unhindered_calls : UnhinderedCalls
unhindered_calls call read old new exchanges reads_so free told answered ample = ample_calls call read old new exchanges reads_so (unrefused (rpc call read) old new exchanges (calls_sure call read) free told answered ample) ample
