use Rattle.std.proofs.Common.{refl}
use Rattle.batch_forms.proofs.Taken.{fits_so, named_is, system_is}
use Rattle.batch_forms.proofs.drivers.take_call.Goals as goal

pub returns-in-Named-clause-taken : goal.returns-in-Named-clause-taken
returns-in-Named-clause-taken c = named_is _ _ c.args.prepared.now c.args.call c.in-Named.name c.in-Named.is refl c.named_errand.ensures

pub returns-in-Named-clause-fits : goal.returns-in-Named-clause-fits
returns-in-Named-clause-fits c = fits_so c.named_errand.result c.args.prepared.now c.args.prepared.now c.args.call c.requires.fits
    (named_is _ _ c.args.prepared.now c.args.call c.in-Named.name c.in-Named.is refl c.named_errand.ensures)

pub returns-in-System-clause-taken : goal.returns-in-System-clause-taken
returns-in-System-clause-taken c = system_is _ _ c.args.prepared.now c.args.call c.in-System.procedure c.in-System.is (rw c.into_vec.ensures at c.take_served.ensures)

pub returns-in-System-clause-fits : goal.returns-in-System-clause-fits
returns-in-System-clause-fits c = fits_so c.take_served.result c.take_served.new.prepared c.args.prepared.now c.args.call c.requires.fits
    (system_is _ _ c.args.prepared.now c.args.call c.in-System.procedure c.in-System.is (rw c.into_vec.ensures at c.take_served.ensures))
