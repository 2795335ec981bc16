use Rattle.std.proofs.Common.{refl, ap, ◌∙◌, ◌∷◌, [], ◌++◌}
use Rattle.bx_listing.specs.Items.{seen_item}
use Rattle.bx_asm.specs.declared.numbering.Draft.{Draft}
use Rattle.bx_asm.specs.declared.operands.NumberedItem.{NumberedItem}
use Rattle.bx_asm.proofs.Growing.{grows_by}
use Rattle.bx_asm.proofs.numbering.Draft.add.Goals as goal

pub returns : goal.returns
returns c =
    let i : NumberedItem = record { op = c.args.item.op; operands = c.in_ok-operands.operands } in
    let after : Draft = record { items = c.push.new.self; literals = c.number_row.new.self.literals; imports = c.number_row.new.self.imports } in
    grows_by c.args.self.now after i (seen_item c.args.item)
    (record { literals = c.in_ok-operands.ensures.extends.literals; imports = c.in_ok-operands.ensures.extends.imports })
    (c.in_ok-push.ensures.items ∙ ap (λ is. is.items ++ i ∷ []) c.in_ok-operands.ensures.items)
    (record { op = refl; row = c.in_ok-operands.ensures.spells })
