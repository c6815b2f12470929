use Rattle.std.proofs.Common.{ℕ, List, [], ◌∷◌, ap, ◌∙◌, subst, refl}
use Rattle.transfer_load.specs.Replies.{AreReplies, number_in}
use Rattle.transfer_load.proofs.ReadReplies.{all_read, none_read, one_read}
use Rattle.transfer_load.proofs.replies.read_number.Goals as goal

pub returns : goal.returns
returns c =
    let reply = c.in_ok-reply.reply.items in
    let took = c.in_ok-reply.ensures in
    let none = none_read _ c.new-source.result c.new-reader.result (ap (λ s. s.given) c.new-source.ensures) refl c.new-reader.ensures in
    let one = one_read _ c.new-source.result c.next_reply.new.source c.new-reader.result [] none took.0 took.1 reply c.next_reply.new.reader took.2 took.3 in
    let over = c.in_ok-ends.ensures in (
      reply,
      subst (λ (s : List ℕ). AreReplies s (reply ∷ [])) (ap (λ s. s.left) c.new-source.ensures) (all_read _ c.next_reply.new.source c.ends.new.source c.next_reply.new.reader (reply ∷ []) one over.0 over.1 over.2),
      c.number_in.ensures ∙ ap number_in c.deref.ensures.value,
    )
