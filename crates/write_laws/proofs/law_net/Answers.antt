use Rattle.write_laws.proofs.Nets.{net_leaves}
use Rattle.write_laws.proofs.law_net.Goals as goal

pub returns : goal.returns
returns c = net_leaves
