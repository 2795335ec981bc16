-- Forms that are dropped where they stand, as pairs of a word and a term.
use Rattle.std.specs.Prelude.{◌≡◌, ℕ, ◌<◌, nat_lt, List, length, Option, Some, None, Ok, if◌then◌else◌}
use Rattle.bx_text.specs.declared.node.Span.{Span}
use Rattle.bx_text.specs.Place.{Place}
use Rattle.bx_text.specs.Tree.{Tree, atom, tuple, nil, cons}
use Rattle.bx_text.specs.Pairs.{pair_end, good}
use Rattle.bx_listing.specs.Reading.{Table}
use Rattle.bx_listing.specs.ListedCode.{ListedFunction}
use Rattle.bx_listing.specs.Forms.{Forms, next_form}
use Rattle.bx_listing.specs.Listing.{functions}
use Rattle.bx_listing.specs.Locations.{Location, located}

abbrev pub shorter : Place → Option Place → Option Place
shorter p (Some q) = if nat_lt (length q.rest) (length p.rest) then Some q else None
shorter p None = None

-- the place behind the next form, where it is a pair of that word and a term
abbrev pub dropped : List ℕ → Place → Option Place
dropped word p = shorter p (good (pair_end 255 word p))

abbrev pub IsDropped : List ℕ → Place → Place → Type 0
IsDropped word p q = (s : Span) × (r : Span) × (t : Tree) × (next_form p ≡ Ok (Some (tuple s (cons (atom r word) (cons t nil)), q)))

-- both make the same items of a function that has begun, in the same places
abbrev pub MakeSame : Forms → Forms → Type 0
MakeSame fs gs =
    ((done : List ListedFunction) → (texts : Table) → 0 < length done → (functions done fs).run texts ≡ (functions done gs).run texts)
    × ((here : Option Location) → located here fs ≡ located here gs)
