-- Sets of breakpoints in loaded code. One is kept as the numbers of its module and of its item.
use Rattle.std.specs.Prelude.{ℕ, Bool}
use Rattle.std.specs.declared.cmp.Ordering.{Ordering}
use Rattle.std.specs.Ordering.{nat_cmp, on, then_cmp}
use Rattle.std.specs.FinSet as set
use Rattle.bx_terms.specs.declared.places.Place.{Place}

-- by module, then by item
abbrev pub pair_cmp : ℕ × ℕ → ℕ × ℕ → Ordering
pair_cmp = then_cmp (on (λ r. r.0) nat_cmp) (on (λ r. r.1) nat_cmp)

abbrev pub PlaceSet : Type 0
PlaceSet = set.FinSet pair_cmp

abbrev pub numbers : Place → ℕ × ℕ
numbers place = (place.«module», place.item)

abbrev pub is_set : PlaceSet → Place → Bool
is_set places place = set.contains places (numbers place)

abbrev pub with_place : PlaceSet → Place → PlaceSet
with_place places place = set.insert places (numbers place)

abbrev pub without_place : PlaceSet → Place → PlaceSet
without_place places place = set.remove places (numbers place)
