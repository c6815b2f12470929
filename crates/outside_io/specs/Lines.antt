-- Own: a line, which is one value that is both a source and a sink: what bytes that go through the one side leave of the other. Code that
-- knows a source alone, or a sink alone, carries that along by a member of its trait.
use Rattle.std.specs.Prelude.{ℕ, List, [], Option, None}

-- what reading leaves as it is: what was written through the same value, with how many faults, and the references that it holds, by their
-- names in proofs
pub record SinkSide : Type 0 where
  pub written : Option (List ℕ)
  pub faults : ℕ
  pub held : List ℕ

-- what writing leaves: what the same value gives and has given, with how many faults, and the references that it holds
pub record SourceSide : Type 0 where
  pub left : Option (List ℕ)
  pub given : Option (List ℕ)
  pub faults : ℕ
  pub held : List ℕ

-- those of a value that is no line, and holds no reference
abbrev pub no_sink : SinkSide
no_sink = record { written = None; faults = 0; held = [] }

abbrev pub no_source : SourceSide
no_source = record { left = None; given = None; faults = 0; held = [] }
