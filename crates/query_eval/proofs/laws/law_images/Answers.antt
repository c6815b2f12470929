use Rattle.query_eval.proofs.Images.{images_left}
use Rattle.query_eval.proofs.laws.law_images.Goals as goal

pub returns : goal.returns
returns c = λ vars system query stock left rows is. images_left vars system query stock (rows, left) is
