use Rattle.std.proofs.Common.{◌≡◌, ℕ, ◌+◌, List, [], ◌∷◌, ◌++◌, length, refl, sym, ap, ◌∙◌, subst, arith, length-append}
use Rattle.std.specs.Prelude.{true, false}
use Rattle.transfer_load.specs.Replies.{AreReplies, is_refused}
use Rattle.transfer_load.proofs.ReadReplies.{all_read, none_read, one_read, refused_more, refused_same, transfers_more, transfers_same}
use Rattle.transfer_load.proofs.replies.count_replies.Goals as goal
use Rattle.transfer_load.proofs.replies.count_replies.Goals.{then-is_refused, else-is_refused}

pub loop-reply-init : goal.loop-reply-init
loop-reply-init c = record {
  all = refl;
  read = ([], none_read _ c.new-source.result c.new-reader.result (ap (λ s. s.given) c.new-source.ensures) refl c.new-reader.ensures, refl, refl, refl);
}

pub loop-reply-preserved : goal.loop-reply-preserved
loop-reply-preserved c =
    let reply = c.in_ok-next_reply.field-0.items in
    let before = c.loop-reply.invariant.read in
    let took = c.in_ok-next_reply.ensures in
    let so : c.is_refused.result ≡ is_refused reply = c.is_refused.ensures ∙ ap is_refused c.deref.ensures.value in
    let read = one_read _ c.loop-reply.source c.next_reply.new.source c.loop-reply.reader before.0 before.1 took.0 took.1 reply c.next_reply.new.reader took.2 took.3 in
    let many : length (before.0 ++ reply ∷ []) ≡ c.loop-reply._reply + 1 = omega (arith, length-append before.0 (reply ∷ []), before.2) in
    elim c.if-is_refused.branch [
      | then-is_refused w ↦
          let is : is_refused reply ≡ true = sym so ∙ w.if-is_refused.true in
          record {
            all = omega (arith, ap (λ s. s.transfers) w.counts-is, ap (λ s. s.refused) w.counts-is, c.loop-reply.invariant.all);
            read = (before.0 ++ reply ∷ [], read, many, ap (λ s. s.transfers) w.counts-is ∙ before.3 ∙ sym (transfers_same before.0 reply is), omega (arith, ap (λ s. s.refused) w.counts-is, before.4, refused_more before.0 reply is));
          }
      | else-is_refused w ↦
          let is : is_refused reply ≡ false = sym so ∙ w.if-is_refused.false in
          record {
            all = omega (arith, ap (λ s. s.transfers) w.counts-is, ap (λ s. s.refused) w.counts-is, c.loop-reply.invariant.all);
            read = (before.0 ++ reply ∷ [], read, many, omega (arith, ap (λ s. s.transfers) w.counts-is, before.3, transfers_more before.0 reply is), ap (λ s. s.refused) w.counts-is ∙ before.4 ∙ sym (refused_same before.0 reply is));
          }
    ]

pub returns : goal.returns
returns c =
    let before = c.loop-reply.invariant.read in
    let took = c.in_ok-ends.ensures in (
      before.0,
      subst (λ (s : List ℕ). AreReplies s before.0) (ap (λ s. s.left) c.new-source.ensures) (all_read _ c.loop-reply.source c.ends.new.source c.loop-reply.reader before.0 before.1 took.0 took.1 took.2),
      omega (arith, before.2, c.loop-reply-test.false, c.loop-reply.auto._reply-end),
      before.3,
      before.4,
      omega (arith, c.loop-reply.invariant.all, c.loop-reply-test.false, c.loop-reply.auto._reply-end),
    )
