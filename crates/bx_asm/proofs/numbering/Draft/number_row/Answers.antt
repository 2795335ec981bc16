use Rattle.std.proofs.Common.{◌+◌, List, take, subst, sym}
use Rattle.bx_asm.specs.declared.operands.Operand.{Operand}
use Rattle.bx_asm.specs.Drafts.{SpellsRow, ExtendsTables, tables_of}
use Rattle.bx_asm.specs.Limits.{is_register}
use Rattle.bx_asm.specs.Operands.{Tables}
use Rattle.bx_asm.proofs.Growth.{tables_then, row_next, all_next}
use Rattle.bx_asm.proofs.numbering.Draft.number_row.Goals as goal

pub loop-operand-preserved : goal.loop-operand-preserved
loop-operand-preserved c =
    let inv = c.loop-operand.invariant in
    let row = c.args.row.now in
    let i = c.loop-operand.operand-index in
    let t : Tables = tables_of c.loop-operand.self in
    let u : Tables = record { literals = c.number_operand.new.literals.items; imports = c.number_operand.new.imports.keys } in
    let more : ExtendsTables t u = record { literals = c.number_operand.ensures.literals; imports = c.number_operand.ensures.imports } in
    let spells : SpellsRow u c.push.new.self.items (take (i + 1) row) =
    subst (λ (ns : List Operand). SpellsRow u ns (take (i + 1) row)) (sym c.in_ok-push.ensures.ok)
    (row_next t u c.loop-operand.numbered.items row i c.operand-item.result c.in_ok-next.next c.loop-operand-test.true c.operand-item.is more c.in_ok-next.ensures.ok inv.spells) in
    record {
      spells = spells;
      items = inv.items;
      extends = tables_then (tables_of c.args.self.now) t u inv.extends more;
      registers = (all_next is_register row i c.operand-item.result c.loop-operand-test.true c.operand-item.is inv.registers).1;
    }
