use Rattle.write_laws.proofs.Images.{images_fetch, images_read}
use Rattle.write_laws.proofs.law_images.Goals as goal

pub returns-clause-fetch : goal.returns-clause-fetch
returns-clause-fetch c = images_fetch

pub returns-clause-read : goal.returns-clause-read
returns-clause-read c = images_read
