-- Items that spell what others do, by any tables.
use Rattle.std.proofs.Common.{◌≡◌, ℕ, ◌+◌, ◌<◌, List, [], ◌∷◌, ◌++◌, length, map, take, get_or, sym, ap, ◌∙◌, arith}
use Rattle.std.proofs.lemmas.List.{take_more, map-append, length-map}
use Rattle.bx_asm.specs.declared.operands.NumberedItem.{NumberedItem}
use Rattle.bx_asm.specs.declared.unit.Head.{Head}
use Rattle.bx_asm.specs.Operands.{Tables}
use Rattle.bx_asm.specs.Spelling.{spelled_item}
use Rattle.bx_asm.specs.Unit.{IsUnit, total}

-- one item more of each
pub spelled_more : (t : Tables) (is js : List NumberedItem) (k : ℕ) (i j : NumberedItem) → k < length is → i ≡ get_or is k i
    → map (spelled_item t) js ≡ map (spelled_item t) (take k is) → spelled_item t j ≡ spelled_item t i
    → map (spelled_item t) (js ++ j ∷ []) ≡ map (spelled_item t) (take (k + 1) is)
spelled_more t is js k i j h at so_far here =
    map-append (spelled_item t) js (j ∷ [])
    ∙ ap (λ xs. xs ++ spelled_item t j ∷ []) so_far
    ∙ ap (λ x. map (spelled_item t) (take k is) ++ x ∷ []) (here ∙ ap (spelled_item t) at)
    ∙ sym (map-append (spelled_item t) (take k is) (get_or is k i ∷ []))
    ∙ sym (ap (map (spelled_item t)) (take_more is k i h))

-- what is true of a unit's heads and items is true of those that equal and spell the same
pub unit_again : (t : Tables) (hs gs : List Head) (is js : List NumberedItem) → IsUnit hs is → gs ≡ hs → map (spelled_item t) js ≡ map (spelled_item t) is → IsUnit gs js
unit_again t hs gs is js unit heads spelled =
    let long : length js ≡ length is = sym (length-map js (spelled_item t)) ∙ ap length spelled ∙ length-map is (spelled_item t) in
    record {
      shared_out = ap total heads ∙ unit.shared_out ∙ sym long;
      few = omega (arith, long, unit.few);
    }
