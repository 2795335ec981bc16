use Rattle.std.proofs.Common.{refl, sym, ◌∙◌}
use Rattle.bx_signals.proofs.Maps.{covers_both, covers_same}
use Rattle.bx_signals.proofs.channels.Channels.same.Goals as goal

pub returns-then-rows_are_covered : goal.returns-then-rows_are_covered
returns-then-rows_are_covered c =
    let there = c.deref-then-rows_are_covered in
    let here = c.deref-then-rows_are_covered-2 in
    let last = c.rows_are_covered-then-rows_are_covered in
    let one = rw (c.deref.ensures.value, c.deref-2.ensures.value) at (c.if-rows_are_covered.ensures.0 refl) in (
      λ yes. sym c.self.view_is ∙ covers_both _ _ one (rw (there.ensures.value, here.ensures.value) at (last.ensures.0 yes)) ∙ c.other.view_is,
      λ same. last.ensures.1 (rw (there.ensures.value, here.ensures.value) (covers_same _ _ (c.other.view_is ∙ sym same ∙ sym c.self.view_is))),
    )

pub returns-else-rows_are_covered : goal.returns-else-rows_are_covered
returns-else-rows_are_covered c = (
  λ yes. cc (c.if-rows_are_covered.false, yes),
  λ same. c.rows_are_covered.ensures.1 (rw (c.deref.ensures.value, c.deref-2.ensures.value) (covers_same _ _ (c.self.view_is ∙ same ∙ sym c.other.view_is))),
)
