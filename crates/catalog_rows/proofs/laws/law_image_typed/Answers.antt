use Rattle.catalog_rows.proofs.Fitting.{image_typed}
use Rattle.catalog_rows.proofs.laws.law_image_typed.Goals as goal

pub returns : goal.returns
returns c = image_typed
