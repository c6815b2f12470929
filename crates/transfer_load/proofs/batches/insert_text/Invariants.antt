use Rattle.std.proofs.Common.{◌≡◌, ◌+◌, ◌++◌, string_bytes, codes}
use Rattle.std.specs.List.{flat_map}
use Rattle.tds_packets.specs.Packets.{count_up}
use Rattle.transfer_load.specs.Batches.{account_text}
use Rattle.transfer_load.proofs.batches.insert_text.Given as goal

-- the accounts so far stand in the text
abbrev pub invariant-loop-k : goal.invariant-loop-k
invariant-loop-k l = string_bytes l.text ≡ codes "INSERT INTO accounts VALUES (1, 10000)" ++ flat_map (λ k. account_text (k + 2)) (count_up l.k)
