use Rattle.std.proofs.Common.{◌≡◌, ◌+◌, ◌-◌, ◌≤◌, List, ℕ, length, take, drop, arith, subst, sym, ◌∙◌, length-take}
use borrow.Rule.Slice.PartMut.{same_len_mid}
use Rattle.outside_io.specs.Bytes.{Takes}
use Rattle.tds_packets.proofs.Taken.{Takes-trans, take-refilled}
use Rattle.tds_packets.proofs.reader.Reader.fill.Goals as goal

pub loop-filled-preserved : goal.loop-filled-preserved
loop-filled-preserved g c =
    let n = c.in-Ok.n in
    let filled = c.loop-filled.filled in
    let into = c.loop-filled.into in
    let part = take (filled + c.min.result - filled) (drop filled into) in
    let kept : length c.read.new.into ≡ length part = c.read.auto.into in
    let room : length part ≤ c.min.result = omega (arith, length-take (filled + c.min.result - filled) (drop filled into)) in
    record {
      within = omega (arith, c.in-Ok.ensures.bound, c.min.ensures, same_len_mid filled (filled + c.min.result - filled) into c.read.new.into kept);
      took = subst (λ (bytes : List ℕ). Takes g.S.Source.left g.S.Source.given c.args.source.now c.read.new.self bytes) (sym (take-refilled filled _ n into c.read.new.into c.loop-filled.invariant.within (omega (arith, c.in-Ok.ensures.bound))))
          (Takes-trans g.S.Source.left g.S.Source.given c.args.source.now c.loop-filled.source c.read.new.self (take filled into) (take n c.read.new.into) c.loop-filled.invariant.took c.in-Ok.ensures.gives);
      taken = omega arith;
      limit = omega (arith, c.in-Ok.ensures.bound, c.min.ensures);
      no_fault = c.in-Ok.ensures.no_fault ∙ c.loop-filled.invariant.no_fault;
      beside = c.read.ensures.beside ∙ c.loop-filled.invariant.beside;
    }
