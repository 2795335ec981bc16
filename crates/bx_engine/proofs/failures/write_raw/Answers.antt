use Rattle.std.proofs.Common.{◌≡◌, ◌-◌, arith, drop, length, take}
use Rattle.std.proofs.KnownBytes.{Appends-trans}
use Rattle.std.proofs.lemmas.List.{length-drop, take_all}
use Rattle.bx_engine.proofs.TextLemmas.{raw_text-take}
use Rattle.bx_engine.proofs.failures.write_raw.Goals as goal

pub loop-done-preserved : goal.loop-done-preserved
loop-done-preserved g c =
    let done = c.loop-done.done in
    let name = c.args.name.now in
    let rest : take (length name - done) (drop done name) ≡ drop done name = grind (arith, take_all, length-drop) in
    let part = rw rest at c.in_ok-done.ensures in
    record {
      written = rw (raw_text-take done c.in_ok-done.field-0 name)
          (Appends-trans _ _ _ _ _ c.loop-done.invariant.written part.part);
      within = omega (arith, part.within.1, length-drop done name);
    }
