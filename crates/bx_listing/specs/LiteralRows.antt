-- The row that was read of a literal's elements.
use Rattle.std.specs.Prelude.{List, [], ◌∷◌, ◌++◌, Option, Some, None, option_map}
use Rattle.bx_terms.specs.Tree.{Tree}
use Rattle.bx_listing.specs.declared.literals.Row.{Row as Seen}
use Rattle.bx_listing.specs.Literals.{Row}

abbrev pub row_of : Seen → Row
row_of row = record { elements = option_map (λ ts. ts.items) row.elements; tail = row.tail }

abbrev pub with_last : Option (List Tree) → Option Tree → Option (List Tree)
with_last (Some ts) (Some t) = Some (ts ++ t ∷ [])
with_last _ _ = None
