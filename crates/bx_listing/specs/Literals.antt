-- The term of a literal. Its parts are read from left to right, and all of them even where it is too high, in which case
-- no term is kept.
use Rattle.std.specs.Prelude.{ℕ, ℤ, List, [], ◌∷◌, Option, Some, None, nat_le, codes, if◌then◌else◌}
use Rattle.bx_terms.specs.declared.faults.Fault.TheVariants as faults
use Rattle.bx_terms.specs.Tree as term
use Rattle.bx_text.specs.declared.node.Sort.{Sort}
use Rattle.bx_text.specs.declared.node.Sort.TheVariants as sorts
use Rattle.bx_text.specs.Number.{is_large}
use Rattle.bx_text.specs.Tree as texts
use Rattle.bx_text.specs.Tree.{Tree, integer, atom, tuple, list, nil, cons}
use Rattle.bx_listing.specs.Reading.{Reading, ◌>>=◌, give, refuse, named, stored, no_line}

-- an integer of 64 bits
abbrev pub small : ℤ → Reading ℤ
small n = if is_large n then refuse (faults.LiteralRange no_line) else give n

-- a term that is no higher than terms may be
abbrev pub kept : term.Tree → Option term.Tree
kept t = if nat_le (term.height t) 10000 then Some t else None

abbrev pub kept_cons : term.Tree → Option term.Tree → Option term.Tree
kept_cons head (Some tail) = kept (term.cons head tail)
kept_cons head None = None

-- the list of these elements before that tail
abbrev pub kept_before : List term.Tree → Option term.Tree → Option term.Tree
kept_before [] tail = tail
kept_before (t ∷ ts) tail = kept_cons t (kept_before ts tail)

-- the elements of a row, where all are kept, and what follows them
pub record Row : Type 0 where
  pub elements : Option (List term.Tree)
  pub tail : Option term.Tree

abbrev pub kept_list : Option (List term.Tree) → Option term.Tree → Option term.Tree
kept_list (Some ts) tail = kept_before ts tail
kept_list None tail = None

abbrev pub kept_tuple : Option (List term.Tree) → Option term.Tree
kept_tuple (Some ts) = kept (term.tuple (term.listed ts))
kept_tuple None = None

abbrev pub with_first : Option term.Tree → Option (List term.Tree) → Option (List term.Tree)
with_first (Some t) (Some ts) = Some (t ∷ ts)
with_first _ _ = None

abbrev pub ended : Option term.Tree → Row
ended t = record { elements = Some []; tail = t }

abbrev pub longer : Option term.Tree → Row → Row
longer t r = record { elements = with_first t r.elements; tail = r.tail }

-- a term alone, and as a row or the end of one
pub record Parts : Type 0 where
  pub alone : Reading (Option term.Tree)
  pub row : Reading Row

abbrev pub no_row : Reading (Option term.Tree) → Parts
no_row reading = record { alone = reading; row = reading >>= λ t. give (ended t) }

-- how a refusal names a term that stands for none here
abbrev pub sort_name : Sort → List ℕ
sort_name sorts.Float = codes "float"
sort_name sorts.Map = codes "map"
sort_name sorts.Binary = codes "binary"
sort_name sorts.Fun = codes "fun"

abbrev pub parts : Tree → Parts
parts (integer s n) = no_row (small n >>= λ n. give (Some (term.int n)))
parts (atom s text) = no_row (named text >>= λ a. give (Some (term.atom a.0)))
parts (tuple s row) = no_row (stored (parts row).row >>= λ r. give (kept_tuple r.elements))
parts (list s row) = no_row (stored (parts row).row >>= λ r. give (kept_list r.elements r.tail))
parts (texts.other s k text) = no_row (refuse (faults.Unsupported no_line (sort_name k)))
parts nil = no_row (give (Some term.nil))
parts (cons t rest) = record {
  alone = give None;
  row = stored (parts t).alone >>= λ x. (parts rest).row >>= λ r. give (longer x r);
}

abbrev pub literal : Tree → Reading (Option term.Tree)
literal t = (parts t).alone

-- what stands in a text, and not a row
abbrev pub IsNode : Tree → Type 0
IsNode nil = ⊥
IsNode (cons t rest) = ⊥
IsNode t = Unit {0}
