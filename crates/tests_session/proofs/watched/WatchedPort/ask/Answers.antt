use Rattle.std.proofs.Common.{◌∙◌, sym}
use Rattle.tests_session.proofs.Fetches.{fetch_stands}
use Rattle.tests_session.proofs.watched.WatchedPort.ask.Goals as goal

-- a fetch's reply is hidden as one of a fetch
pub returns-in-Fetch-clause-reply : goal.returns-in-Fetch-clause-reply
returns-in-Fetch-clause-reply c = rw c.in-Fetch.is (c.shown.ensures c.in-Fetch.table c.in-Fetch.start c.in-Fetch.stop c.in-Fetch.hold c.in-Fetch.part (rw c.in-Fetch.is at c.ask-reply.ensures.reply))

pub returns-in-Fetch-clause-past : goal.returns-in-Fetch-clause-past
returns-in-Fetch-clause-past c =
    let can = rw c.in-Fetch.is at c.ask-reply.ensures.reply in
    let past = rw c.in-Fetch.is at c.ask-reply.ensures.past in
    let hidden = c.shown.ensures c.in-Fetch.table c.in-Fetch.start c.in-Fetch.stop c.in-Fetch.hold c.in-Fetch.part can in
    rw c.in-Fetch.is (record {
      session = past.session;
      standing = past.standing ∙ fetch_stands _ c.in-Fetch.table c.in-Fetch.start c.in-Fetch.stop c.in-Fetch.hold c.in-Fetch.part _ can ∙ sym (fetch_stands _ c.in-Fetch.table c.in-Fetch.start c.in-Fetch.stop c.in-Fetch.hold c.in-Fetch.part _ hidden);
      sure = λ span t x sure. tt;
      told = tt;
      led = λ earlier led. tt;
    })
