use Rattle.std.proofs.Common.{refl, sym}
use Rattle.tests_session.proofs.Fetches.{fetch_stands}
use Rattle.tests_session.proofs.counting.CountingPort.ask.Goals as goal

-- what is counted is a reply to the fetch
pub returns-in-Fetch-clause-reply : goal.returns-in-Fetch-clause-reply
returns-in-Fetch-clause-reply c = rw c.in-Fetch.is (c.first.ensures c.in-Fetch.table c.in-Fetch.hold c.in-Fetch.part)

pub returns-in-Fetch-clause-past : goal.returns-in-Fetch-clause-past
returns-in-Fetch-clause-past c = rw c.in-Fetch.is (record {
  session = refl;
  standing = sym (fetch_stands _ c.in-Fetch.table c.in-Fetch.start c.in-Fetch.stop c.in-Fetch.hold c.in-Fetch.part _ (c.first.ensures c.in-Fetch.table c.in-Fetch.hold c.in-Fetch.part));
  sure = λ span t x sure. tt;
  told = tt;
  led = λ earlier led. tt;
})
