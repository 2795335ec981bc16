use Rattle.std.proofs.Common.{◌++◌, List, ◌∷◌, [], sym, ap, ◌∙◌, arith}
use Rattle.std.proofs.lemmas.List.{append-nil, length-map}
use Rattle.bx_listing.specs.Items.{PlacedItem}
use Rattle.bx_listing.specs.Code.{items_of}
use Rattle.bx_asm.specs.declared.unit.Head.{Head}
use Rattle.bx_asm.specs.Drafts.{Grows, head_of}
use Rattle.bx_asm.specs.Limits.{first, register_fault}
use Rattle.bx_asm.proofs.Growing.{first_none, count_next, grows_none, grows_function, heads_next}
use Rattle.bx_asm.proofs.unit.add_functions.Goals as goal

pub add_items-requires : goal.add_items-requires
add_items-requires c =
    (first_none (λ f. first register_fault f.items) c.args.functions.now c.loop-function.function-index c.function-item.result c.loop-function-test.true c.function-item.is c.loop-function.invariant.2).0

pub make_head-requires : goal.make_head-requires
make_head-requires c =
    omega (
      arith,
      c.loop-function.invariant.3,
      c.requires.few,
      count_next c.args.functions.now c.loop-function.function-index c.function-item.result c.loop-function-test.true c.function-item.is,
    )

pub loop-function-init : goal.loop-function-init
loop-function-init c = (grows_none c.args.draft.now, sym (append-nil c.args.heads.now.items), c.requires.registers, omega arith)

pub loop-function-preserved : goal.loop-function-preserved
loop-function-preserved c =
    let fs = c.args.functions.now in
    let i = c.loop-function.function-index in
    let f = c.function-item.result in
    let more : Grows c.loop-function.draft c.add_items.new.draft (items_of f.items) = c.in_ok-add_items.ensures in (
      grows_function c.args.draft.now c.loop-function.draft c.add_items.new.draft fs i f c.loop-function-test.true c.function-item.is c.loop-function.invariant.0 more,
      c.in_ok-push.ensures.items ∙ ap (λ (h : Head). c.loop-function.heads.items ++ h ∷ []) c.make_head.ensures
          ∙ ap (λ (hs : List Head). hs ++ head_of f ∷ []) c.loop-function.invariant.1
          ∙ sym (heads_next c.args.heads.now.items fs i f c.loop-function-test.true c.function-item.is),
      (first_none (λ f. first register_fault f.items) fs i f c.loop-function-test.true c.function-item.is c.loop-function.invariant.2).1,
      omega (arith, c.loop-function.invariant.3, more.length_is, length-map f.items (λ (q : PlacedItem). q.item), count_next fs i f c.loop-function-test.true c.function-item.is),
    )
