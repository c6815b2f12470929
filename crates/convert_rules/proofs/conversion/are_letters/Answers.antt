use Rattle.std.proofs.Common.{rules, tests}
use Rattle.std.proofs.lemmas.Iterator.{YieldsList-from_slice, YieldsList-from_zip}
use Rattle.std.proofs.lemmas.Iterator.Search.{all_from_yields_List}
use Rattle.convert_rules.specs.Conversion.{is_letter}
use Rattle.convert_rules.proofs.conversion.are_letters.Goals as goal

pub returns : goal.returns
returns c =
    let units = c.args.units.now in
    let word = c.args.word.now in
    all_from_yields_List is_letter c.all.new.self _ c.all.result c.all.ensures.ran (YieldsList-from_zip (YieldsList-from_slice units cc) (YieldsList-from_slice word cc)) (λ x b q k. search (rules, tests))
