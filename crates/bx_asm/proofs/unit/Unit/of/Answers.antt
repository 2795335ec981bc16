use Rattle.std.proofs.Common.{◌≡◌, List, [], ◌++◌, ◌≤◌, map, sym, ap, subst, ◌∙◌, arith}
use Rattle.bx_listing.specs.Code.{function_code_of}
use Rattle.bx_asm.specs.declared.operands.NumberedItem.{NumberedItem}
use Rattle.bx_asm.specs.declared.unit.Head.{Head}
use Rattle.bx_asm.specs.Spelling.{spelled_item}
use Rattle.bx_asm.specs.Drafts.{Spells, tables_of, head_of, all_items}
use Rattle.bx_asm.specs.Limits.{count}
use Rattle.bx_asm.specs.Unit.{functions, IsUnit}
use Rattle.bx_asm.proofs.Units.{unit_of, code_of_unit}
use Rattle.bx_asm.proofs.unit.Unit.of.Goals as goal

pub invariant_of-result : goal.invariant_of-result
invariant_of-result c =
    let fs = c.functions.result.now in
    let t = tables_of c.add_functions.new.draft in
    let start : Spells (tables_of c.new-draft.result) c.new-draft.result.items.items [] = subst (λ (ns : List NumberedItem). Spells (tables_of c.new-draft.result) ns []) (sym c.new-draft.ensures.items) tt in
    let spells : Spells t c.add_functions.new.draft.items.items (all_items fs) = c.in_ok-add_functions.ensures.items.spells [] start in
    let heads : c.add_functions.new.heads.items ≡ map head_of fs = c.in_ok-add_functions.ensures.heads ∙ ap (λ (hs : List Head). hs ++ map head_of fs) c.new-heads.ensures.items in
    let few : count fs ≤ 1000000 = omega (arith, c.requires.few, ap count c.functions.ensures) in
    subst (λ hs. IsUnit hs c.add_functions.new.draft.items.items) (sym heads) (unit_of t c.add_functions.new.draft.items.items fs few spells)

pub returns : goal.returns
returns c =
    let fs = c.functions.result.now in
    let t = tables_of c.add_functions.new.draft in
    let start : Spells (tables_of c.new-draft.result) c.new-draft.result.items.items [] = subst (λ (ns : List NumberedItem). Spells (tables_of c.new-draft.result) ns []) (sym c.new-draft.ensures.items) tt in
    let spells : Spells t c.add_functions.new.draft.items.items (all_items fs) = c.in_ok-add_functions.ensures.items.spells [] start in
    let heads : c.add_functions.new.heads.items ≡ map head_of fs = c.in_ok-add_functions.ensures.heads ∙ ap (λ (hs : List Head). hs ++ map head_of fs) c.new-heads.ensures.items in
    let own : functions c.add_functions.new.heads.items (map (spelled_item t) c.add_functions.new.draft.items.items) ≡ map function_code_of c.args.listing.now.functions =
    ap (λ hs. functions hs (map (spelled_item t) c.add_functions.new.draft.items.items)) heads
    ∙ code_of_unit t c.add_functions.new.draft.items.items fs spells ∙ ap (map function_code_of) c.functions.ensures in
    let exports = c.in_ok-exports.ensures.items ∙ c.exports.ensures in
    let name = c.module.ensures in
    λ k. record { name = name k; exports = exports k; functions = own k }
