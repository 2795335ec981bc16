use Rattle.std.proofs.Common.{map, ap, ◌∙◌}
use Rattle.bx_asm.specs.Operands.{Tables}
use Rattle.bx_asm.specs.Spelling.{spelled_item}
use Rattle.bx_asm.proofs.SpelledAlike.{unit_again}
use Rattle.bx_asm.proofs.unit.Unit.deep_copy.Goals as goal

pub invariant_of-result : goal.invariant_of-result
invariant_of-result c =
    let t : Tables = record { literals = c.self.inside.named.literals.items; imports = c.self.inside.named.imports.keys } in
    unit_again t c.self.inside.heads.items c.in_ok-heads.heads.items c.self.inside.items.items c.in_ok-items.items.items c.self.invariant
    (c.in_ok-heads.ensures.items ∙ c.deref-2.ensures.value)
    (c.in_ok-items.ensures t ∙ ap (map (spelled_item t)) c.deref-3.ensures.value)
