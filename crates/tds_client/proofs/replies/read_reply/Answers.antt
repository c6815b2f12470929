use Rattle.tds_client.proofs.replies.read_reply.Goals as goal

pub returns-in-Err-clause-unread : goal.returns-in-Err-clause-unread
returns-in-Err-clause-unread c = (c.in-Err.fault, c.end_of_tokens.ensures.value, c.in-Err.ensures.bad)
