use Rattle.std.proofs.Common.{◌≡◌, ◌+◌, List, length}
use Rattle.tds_tokens.specs.declared.token.Token.{Token}
use Rattle.transfer_load.specs.Replies.{refused_in, transfers_in}
use Rattle.transfer_load.proofs.ReadReplies.{HasRead}
use Rattle.transfer_load.proofs.replies.count_replies.Given as goal

-- the replies so far were read and counted
abbrev pub invariant-loop-reply : goal.invariant-loop-reply
invariant-loop-reply l = record {
  all : l.counts.transfers + l.counts.refused ≡ l._reply;
  read : (replies : List (List Token)) × HasRead l.initial.source.left l.source l.reader replies × (length replies ≡ l._reply) × (l.counts.transfers ≡ transfers_in replies) × (l.counts.refused ≡ refused_in replies);
}
