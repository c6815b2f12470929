-- What a batch that was left has open is rolled back.
use Rattle.std.proofs.Common.{◌≡◌, Bool, true, false, if◌then◌else◌, List, [], ◌∷◌, refl, ap, ◌∙◌}
use Rattle.step_model.specs.declared.op.Op.TheVariants as ops
use Rattle.step_model.specs.declared.reply.Reply.{Reply}
use Rattle.step_model.specs.declared.reply.Reply.TheVariants as replies
use Rattle.step_model.specs.Exchange.{CanReply, Exchange}
use Rattle.batch_meaning.specs.Doing.{Doing, over, asks, Held}
use Rattle.batch_meaning.specs.Asking.{where_ended}
use Rattle.batch_meaning.specs.Meaning.{rolls_back_open}
use Rattle.batch_meaning.specs.Progress.{SessionProgress, asked}

abbrev nothing_more : Doing (Unit {0})
nothing_more = over tt

-- behind that no transaction is open
pub rolled_shut : (p new : SessionProgress) (exchanges : List Exchange) → Held rolls_back_open p exchanges tt new → new.is_open ≡ false
unfolding rolls_back_open Held
rolled_shut p new exchanges held = by_test p.is_open refl exchanges held
  where
    by_reply : (reply : Reply) (later : List Exchange) → CanReply ops.Rollback reply → Held (where_ended nothing_more reply) (asked ops.Rollback reply p) later tt new → new.is_open ≡ false
    by_reply (replies.Ended place) later can was = ap (λ (q : SessionProgress). q.is_open) was.2
    by_reply reply later can was = absurd can

    by_test : (test : Bool) → p.is_open ≡ test → (exchanges : List Exchange) → Held (if test then asks ops.Rollback (where_ended nothing_more) else nothing_more) p exchanges tt new → new.is_open ≡ false
    by_test true is [] was = absurd was
    by_test true is (x ∷ later) was = by_reply x.reply later was.2 was.3
    by_test false is exchanges was = ap (λ (q : SessionProgress). q.is_open) was.2 ∙ is
