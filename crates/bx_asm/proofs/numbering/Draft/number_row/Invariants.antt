use Rattle.std.proofs.Common.{◌≡◌, true, take, drop}
use Rattle.std.specs.List.{list_all}
use Rattle.bx_asm.specs.Drafts.{SpellsRow, ExtendsTables, tables_of}
use Rattle.bx_asm.specs.Limits.{is_register}
use Rattle.bx_asm.proofs.numbering.Draft.number_row.Given as goal

abbrev pub invariant-loop-operand : goal.invariant-loop-operand
invariant-loop-operand l = record {
  spells : SpellsRow (tables_of l.self) l.numbered.items (take l.operand-index l.row);
  items : l.self.items ≡ l.fn.self.items;
  extends : ExtendsTables (tables_of l.fn.self) (tables_of l.self);
  registers : list_all is_register (drop l.operand-index l.row) ≡ true;
}
