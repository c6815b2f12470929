-- Rounds that are dealt out: how many the shares from a place on come to.
use Rattle.std.proofs.Common.{◌≡◌, ℕ, zero, suc, ◌+◌, ◌-◌, ◌*◌, ◌/◌, ◌%◌, ◌<◌, min, ltb, ◌∙◌, arith}
use Rattle.outside_io.specs.Doors.{one_if}

-- so many workers from a place on, where the first `more` have one more
abbrev pub dealt_from : ℕ → ℕ → ℕ → ℕ → ℕ
dealt_from each more at zero = 0
dealt_from each more at (suc many) = (each + one_if (ltb at more)) + dealt_from each more (at + 1) many

pub one_below : (at more : ℕ) → one_if (ltb at more) ≡ min 1 (more - at)
one_below at more = grind arith

dealt_is : (each more at many : ℕ) → dealt_from each more at many ≡ many * each + min many (more - at)
dealt_is each more at zero = omega arith
dealt_is each more at (suc many) = omega (arith, dealt_is each more (at + 1) many, one_below at more)

pub all_dealt : (all many : ℕ) → 0 < many → dealt_from (all / many) (all % many) 0 many ≡ all
all_dealt all many some = dealt_is (all / many) (all % many) 0 many ∙ omega arith
