-- The processes that a process is linked to: a finite set of pids, as a rising list.
-- Source: Erlang Reference Manual, "Links".
use Rattle.std.specs.Prelude.{ℕ, ◌+◌, ◌==◌, ◌<◌, List, [], ◌∷◌, Bool, not, nat_lt, if◌then◌else◌}
use Rattle.std.specs.List.{filter, list_any}

-- each of them is greater than this
abbrev pub AllAbove : ℕ → List ℕ → Type 0
AllAbove n [] = Unit {0}
AllAbove n (m ∷ ms) = (n < m) × AllAbove n ms

abbrev pub IsRising : List ℕ → Type 0
IsRising [] = Unit {0}
IsRising (n ∷ ns) = AllAbove n ns × IsRising ns

abbrev pub among : ℕ → List ℕ → Bool
among n ns = list_any (λ m. m == n) ns

-- a pid more, behind those that are less
abbrev pub placed : ℕ → List ℕ → List ℕ
placed n [] = n ∷ []
placed n (m ∷ ms) = if nat_lt m n then m ∷ placed n ms else n ∷ m ∷ ms

-- a link that is there already changes nothing
abbrev pub linked : ℕ → List ℕ → List ℕ
linked n ns = if among n ns then ns else placed n ns

abbrev pub unlinked : ℕ → List ℕ → List ℕ
unlinked n ns = filter (λ m. not (m == n)) ns

-- how many at the beginning are less
abbrev pub rank : ℕ → List ℕ → ℕ
rank n [] = 0
rank n (m ∷ ms) = if nat_lt m n then 1 + rank n ms else 0
