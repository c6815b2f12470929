use Rattle.std.proofs.Common.{◌≡◌, ◌+◌, ◌*◌, ◌≤◌, List, take}
use Rattle.tds_tokens.specs.declared.token.Token.{Token}
use Rattle.transfer_load.specs.Connections.{AreDone, all_replies}
use Rattle.transfer_load.specs.Replies.{refused_in, transfers_in}
use Rattle.transfer_load.proofs.transfers.count_all.Given as goal

-- the connections so far are done and counted
abbrev pub invariant-loop-connection : goal.invariant-loop-connection
invariant-loop-connection l = record {
  place : l.worker ≡ l.connection-index;
  few : l.all.transfers + l.all.refused ≤ l.worker * 10000;
  all : l.all.transfers + l.all.refused ≡ l.worker * l.transfers;
  done : (each : List (List (List Token))) × AreDone l.transfers 0 (take l.connection-index l.connections) each × (l.all.transfers ≡ transfers_in (all_replies each)) × (l.all.refused ≡ refused_in (all_replies each));
}
