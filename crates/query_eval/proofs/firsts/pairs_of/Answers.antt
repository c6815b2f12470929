use Rattle.std.proofs.Common.{◌≡◌, ◌∙◌, ap}
use Rattle.std.proofs.lemmas.Iterator.{YieldsList-from_zip, items_from_collect}
use Rattle.std.proofs.lemmas.Iterator.Adapters.{YieldsList-from_vec}
use Rattle.std.proofs.lemmas.Result.{IfOk-at_ok}
use Rattle.std.specs.List.{zip}
use Rattle.query_eval.proofs.firsts.pairs_of.Goals as goal

pub returns : goal.returns
returns c =
    IfOk-at_ok (λ pairs. pairs.items ≡ zip c.args.rows.items c.args.values.items) c.in_ok-collect.was
    (items_from_collect c.collect.result c.collect.ensures.ran
    (YieldsList-from_zip
    (YieldsList-from_vec c.args.rows.items (ap (λ s. s.rest.items) c.zip.ensures.first ∙ c.into_iter.ensures.rest) (ap (λ s. s.rest.len) c.zip.ensures.first ∙ c.into_iter.ensures.len ∙ c.args.rows.ok.0))
    (YieldsList-from_vec c.args.values.items c.zip.ensures.second.0 (c.zip.ensures.second.1 ∙ c.args.values.ok.0))))
