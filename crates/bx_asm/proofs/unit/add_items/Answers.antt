use Rattle.std.proofs.Common.{subst, arith}
use Rattle.std.proofs.lemmas.List.{take_all, length-map}
use Rattle.bx_listing.specs.Items.{PlacedItem}
use Rattle.bx_listing.specs.Code.{items_of}
use Rattle.bx_asm.specs.Drafts.{Grows}
use Rattle.bx_asm.proofs.Growing.{none_at, grows_none, grows_next}
use Rattle.bx_asm.proofs.unit.add_items.Goals as goal

pub add_item-requires : goal.add_item-requires
add_item-requires c = (none_at c.args.function.now.items c.loop-number.number c.loop-number.invariant.1).0

pub loop-number-init : goal.loop-number-init
loop-number-init c = (grows_none c.args.draft.now, c.requires)

pub loop-number-preserved : goal.loop-number-preserved
loop-number-preserved c = (
  grows_next c.args.draft.now c.loop-number.draft c.add_item.new.draft (items_of c.args.function.now.items) c.loop-number.number c.loop-number.invariant.0 c.in_ok-add_item.ensures,
  (none_at c.args.function.now.items c.loop-number.number c.loop-number.invariant.1).1,
)

pub returns : goal.returns
returns c = subst (Grows c.args.draft.now c.loop-number.draft)
    (take_all c.loop-number.number (items_of c.args.function.now.items) (omega (arith, c.loop-number-test.false, c.item_count-number-end.ensures, length-map c.args.function.now.items (λ (p : PlacedItem). p.item)))) c.loop-number.invariant.0
