-- Lists and tuples that natives build.
use Rattle.bx_bifs.proofs.Words.{◌≡◌, ℕ, zero, suc, ◌<◌, ◌≤◌, ℤ, pos, negsuc, ◌<ℤ◌, List, [], ◌∷◌, ◌++◌, length, Option, Some, None, true, false, refl, sym, ap}
use Rattle.bx_bifs.proofs.Words.{◌∙◌, append_assoc, append-nil, arith, option_map, nat_le, nat_lt, slice_set, ints, nat_tests, TermHeight, Tree, nil, cons}
use Rattle.bx_bifs.proofs.Words.{tuple, listed, height, Value, Trap, badarg, elements, built, ahead, put_at}

-- those taken already, before those of the rest
abbrev pub before : List Tree → Option (List Tree) → Option (List Tree)
before taken more = option_map (λ ts. taken ++ ts) more

one_moved : (taken : List Tree) (t : Tree) (more : Option (List Tree)) → before taken (option_map (λ ts. t ∷ ts) more) ≡ before (taken ++ t ∷ []) more
one_moved taken t None = refl
one_moved taken t (Some ts) = ap Some (sym (append_assoc taken (t ∷ []) ts))

pub one_more : (taken new : List Tree) (list head tail : Tree) (all : Option (List Tree)) → list ≡ cons head tail → new ≡ taken ++ head ∷ [] → before taken (elements list) ≡ all → before new (elements tail) ≡ all
one_more taken new list head tail all is more whole = rw (more, ← one_moved taken head (elements tail)) (rw is at whole)

pub at_start : (more : Option (List Tree)) → before [] more ≡ more
at_start None = refl
at_start (Some ts) = refl

pub at_end : (taken : List Tree) → before taken (elements nil) ≡ Some taken
at_end taken = ap Some (append-nil taken)

pub elements_listed : (ts : List Tree) → elements (listed ts) ≡ Some ts
elements_listed [] = refl
elements_listed (t ∷ ts) = ap (option_map (λ us. t ∷ us)) (elements_listed ts)

-- a cell more at the front of the rest
pub one_ahead : (ts : List Tree) (t rest : Tree) → ahead (ts ++ t ∷ []) rest ≡ ahead ts (cons t rest)
one_ahead [] t rest = refl
one_ahead (u ∷ ts) t rest = ap (cons u) (one_ahead ts t rest)

-- a term that would be too high is not built
pub all_high : (t : Tree) → 10000 < height t → Trap TermHeight ≡ built t
all_high t h = let no : nat_le (height t) 10000 ≡ false = grind (arith, nat_tests) in rw no

pub none_ahead : (t : Tree) → height t ≤ 10000 → Value t ≡ built t
none_ahead t h = let yes : nat_le (height t) 10000 ≡ true = grind (arith, nat_tests) in rw yes

-- an element in the place of another
pub put_before : (t : Tree) (ts : List Tree) (place : ℤ) → place <ℤ pos 1 → badarg ≡ put_at place t ts
put_before t ts (pos (suc n)) h = absurd (omega (arith, ints))
put_before t ts _ h = refl

pub put_past : (t : Tree) (ts : List Tree) (n : ℕ) → length ts ≤ n → badarg ≡ put_at (pos (suc n)) t ts
put_past t ts n h = let no : nat_lt n (length ts) ≡ false = grind (arith, nat_tests) in rw no

pub put_there : (t : Tree) (ts : List Tree) (n : ℕ) → n < length ts → built (tuple (listed (slice_set ts n t))) ≡ put_at (pos (suc n)) t ts
put_there t ts n h = let yes : nat_lt n (length ts) ≡ true = grind (arith, nat_tests) in rw yes
