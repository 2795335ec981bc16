-- Proper lists before other terms and as tuples, tuples as lists, and how high these get.
use Rattle.bx_bifs.proofs.Words.{◌≡◌, ℕ, zero, suc, ◌+◌, ◌<◌, ◌≤◌, pos, List, [], ◌∷◌, length, get_or, drop, Option, Some, None, refl, sym, ap, subst, ◌∙◌}
use Rattle.bx_bifs.proofs.Words.{arith, option_map, slice_set, IsSome, OnErr, Result, Ok, Err, TermHeight, Tree, int, atom, pid, nil, cons, tuple, listed}
use Rattle.bx_bifs.proofs.Words.{height, highest, Value, Trap, Given, badarg, TakesMemory, length_of, elements, built, of_elements, ahead, appended, tupled}
use Rattle.bx_bifs.proofs.Words.{untupled, put_at}
use Rattle.std.proofs.lemmas.List.{drop_more, nil_from_length}
use Rattle.bx_bifs.proofs.Building.{elements_listed, none_ahead, all_high, put_there}

-- a proper list has a length, which is the number of its elements
counted_elements : (t : Tree) → length_of t ≡ option_map length (elements t)
counted_elements nil = refl
counted_elements (cons t u) = rw (counted_elements u) (one_counted (elements u))
  where
    one_counted : (o : Option (List Tree)) → option_map (λ n. 1 + n) (option_map length o) ≡ option_map length (option_map (λ ts. t ∷ ts) o)
    one_counted None = refl
    one_counted (Some ts) = ap Some (omega arith)
counted_elements _ = refl

counted_some : (o : Option (List Tree)) (n : ℕ) → Some n ≡ option_map length o → (ts : List Tree) × (o ≡ Some ts) × (n ≡ length ts)
counted_some None n e = cc
counted_some (Some ts) n e = (ts, refl, cc)

counted : (l : Tree) (n : ℕ) → Some n ≡ length_of l → (ts : List Tree) × (elements l ≡ Some ts) × (n ≡ length ts)
counted l n e = counted_some (elements l) n (e ∙ counted_elements l)

-- and what has no length has no elements
pub no_elements : (l : Tree) → None ≡ length_of l → None ≡ elements l
no_elements l e = go (elements l) (e ∙ counted_elements l)
  where
    go : (o : Option (List Tree)) → ◌≡◌ {A = Option ℕ} None (option_map length o) → None ≡ o
    go None h = refl
    go (Some ts) h = cc

pub none_joined : (l r : Tree) → None ≡ length_of l → badarg ≡ appended l r
none_joined l r e = ap (of_elements (λ ts. built (ahead ts r))) (no_elements l e)

pub none_tupled : (l : Tree) → None ≡ length_of l → badarg ≡ tupled l
none_tupled l e = ap (of_elements (λ ts. built (tuple (listed ts)))) (no_elements l e)

pub proper_on_err : {X E : Type 0} (r : Result X E) (l : Tree) (n : ℕ) → Some n ≡ length_of l → OnErr r (IsSome (elements l))
proper_on_err (Ok x) l n e = tt
proper_on_err (Err x) l n e = rw (counted l n e).1 refl

one_listed : (t u : Tree) (o : Option (List Tree)) (ts : List Tree) → ((us : List Tree) → o ≡ Some us → u ≡ listed us) → option_map (λ us. t ∷ us) o ≡ Some ts → cons t u ≡ listed ts
one_listed t u None ts rest e = cc
one_listed t u (Some us) ts rest e = let same : t ∷ us ≡ ts = cc in ap (cons t) (rest us refl) ∙ ap listed same

-- a proper list is the list of its elements
pub listed_elements : (l : Tree) (ts : List Tree) → elements l ≡ Some ts → l ≡ listed ts
listed_elements nil ts e = let same : [] ≡ ts = cc in ap listed same
listed_elements (cons t u) ts e = one_listed t u (elements u) ts (listed_elements u) e
listed_elements _ ts e = cc

-- heights
long : (ts : List Tree) (r : Tree) → length ts + height r ≤ height (ahead ts r)
long [] r = omega arith
long (t ∷ ts) r = omega (arith, long ts r)

low_ahead : (ts : List Tree) (r : Tree) (k : ℕ) → height (listed ts) ≤ k → length ts + height r ≤ k → height (ahead ts r) ≤ k
low_ahead [] r k own all = omega arith
low_ahead (t ∷ ts) r zero own all = absurd (omega arith)
low_ahead (t ∷ ts) r (suc k) own all = omega (arith, low_ahead ts r k (omega arith) (omega arith))

low_highest : (ts : List Tree) (k : ℕ) → height (listed ts) ≤ suc k → highest (listed ts) ≤ k
low_highest [] k h = omega arith
low_highest (t ∷ ts) k h = omega (arith, low_highest ts k (omega arith))

some_high : (ts : List Tree) (r : Tree) → 0 < length ts → 0 < height (ahead ts r)
some_high [] r h = absurd (omega arith)
some_high (t ∷ ts) r h = omega arith

pub ahead_nil : (ts : List Tree) → ahead ts nil ≡ listed ts
ahead_nil [] = refl
ahead_nil (t ∷ ts) = ap (cons t) (ahead_nil ts)

takes_built : (t : Tree) → height t ≤ 10000 → 0 < height t → TakesMemory (built t)
takes_built t within some = rw (← none_ahead t within) some

-- the natives on a proper list
as_joined : (l r : Tree) (ts : List Tree) → elements l ≡ Some ts → built (ahead ts r) ≡ appended l r
as_joined l r ts e = rw e

as_tupled : (l : Tree) (ts : List Tree) → elements l ≡ Some ts → built (tuple (listed ts)) ≡ tupled l
as_tupled l ts e = rw e

pub nothing_joined : (l r : Tree) → Some 0 ≡ length_of l → height r ≤ 10000 → Value r ≡ appended l r
nothing_joined l r e within = let c = counted l 0 e in none_ahead r within ∙ rw (c.1, nil_from_length c.0 (sym c.2))

pub nothing_takes : (l r : Tree) → Some 0 ≡ length_of l → height r ≤ 10000 → 0 < height r → TakesMemory (appended l r)
nothing_takes l r e within some = rw (← nothing_joined l r e within) some

listed_within : (l : Tree) (ts : List Tree) → elements l ≡ Some ts → height l ≤ 10000 → height (listed ts) ≤ 10000
listed_within l ts e within = rw (listed_elements l ts e) at within

many : (ts : List Tree) → length ts ≤ height (listed ts)
many [] = omega arith
many (t ∷ ts) = omega (arith, many ts)

pub few : (l : Tree) (n : ℕ) → Some n ≡ length_of l → height l ≤ 10000 → n ≤ 10000
few l n e within = let c = counted l n e in omega (arith, many c.0, listed_within l c.0 c.1 within)

pub joined_high : (l r : Tree) (n : ℕ) → Some n ≡ length_of l → 10000 < n + height r → Trap TermHeight ≡ appended l r
joined_high l r n e over = let c = counted l n e in all_high (ahead c.0 r) (omega (arith, long c.0 r)) ∙ as_joined l r c.0 c.1

pub joined_low : (l r : Tree) (ts : List Tree) (n : ℕ) → Some n ≡ length_of l → Some ts ≡ elements l → height l ≤ 10000 → n + height r ≤ 10000 → height (ahead ts r) ≤ 10000
joined_low l r ts n e is within under =
    let c = counted l n e in
    let same : c.0 ≡ ts = cc in
    low_ahead ts r 10000 (listed_within l ts (sym is) within) (omega (arith, ap length same))

pub joined : (l r list : Tree) (ts : List Tree) → Some ts ≡ elements l → height (ahead ts r) ≤ 10000 → list ≡ ahead ts r → Value list ≡ appended l r
joined l r list ts is within all = ap Value all ∙ none_ahead (ahead ts r) within ∙ as_joined l r ts (sym is)

pub joined_takes : (l r : Tree) (n : ℕ) → Some n ≡ length_of l → 0 < n → height l ≤ 10000 → n + height r ≤ 10000 → TakesMemory (appended l r)
joined_takes l r n e some within under =
    let c = counted l n e in
    rw (← as_joined l r c.0 c.1) (takes_built (ahead c.0 r) (joined_low l r c.0 n e (sym c.1) within under) (some_high c.0 r (omega arith)))

pub tupled_low : (l : Tree) (ts : List Tree) → Some ts ≡ elements l → height l ≤ 10000 → height (tuple (listed ts)) ≤ 10000
tupled_low l ts is within = omega (arith, low_highest ts 9999 (listed_within l ts (sym is) within))

pub tupled_is : (l t : Tree) (ts : List Tree) → Some ts ≡ elements l → height l ≤ 10000 → t ≡ tuple (listed ts) → Value t ≡ tupled l
tupled_is l t ts is within all = ap Value all ∙ none_ahead (tuple (listed ts)) (tupled_low l ts is within) ∙ as_tupled l ts (sym is)

pub tupled_takes : (l : Tree) (n : ℕ) → Some n ≡ length_of l → height l ≤ 10000 → TakesMemory (tupled l)
tupled_takes l n e within =
    let c = counted l n e in rw (← as_tupled l c.0 c.1) (takes_built (tuple (listed c.0)) (tupled_low l c.0 (sym c.1) within) (omega arith))

-- the list of a tuple
untupled_built : (ts : List Tree) → built (listed ts) ≡ untupled (tuple (listed ts))
untupled_built ts = rw (elements_listed ts, ahead_nil ts)

pub untupled_empty : (ts : List Tree) → length ts ≡ 0 → Value nil ≡ untupled (tuple (listed ts))
untupled_empty ts e = rw (nil_from_length ts e)

pub untupled_high : (ts : List Tree) → 10000 < height (listed ts) → Trap TermHeight ≡ untupled (tuple (listed ts))
untupled_high ts over = all_high (listed ts) over ∙ untupled_built ts

pub untupled_low : (ts : List Tree) → height (listed ts) ≤ 10000 → height (ahead ts nil) ≤ 10000
untupled_low ts within = rw (ahead_nil ts) within

pub untupled_is : (l : Tree) (ts : List Tree) → height (listed ts) ≤ 10000 → l ≡ ahead ts nil → Value l ≡ untupled (tuple (listed ts))
untupled_is l ts within all = ap Value (all ∙ ahead_nil ts) ∙ none_ahead (listed ts) within ∙ untupled_built ts

pub untupled_takes : (ts : List Tree) → 0 < length ts → height (listed ts) ≤ 10000 → TakesMemory (untupled (tuple (listed ts)))
untupled_takes ts some within = rw (← untupled_built ts) (takes_built (listed ts) within (omega (arith, many ts)))

-- an element in the place of another
highest_set : (ts : List Tree) (n : ℕ) (t : Tree) (k : ℕ) → highest (listed ts) ≤ k → height t ≤ k → highest (listed (slice_set ts n t)) ≤ k
highest_set [] n t k all own = all
highest_set (u ∷ ts) zero t k all own = omega arith
highest_set (u ∷ ts) (suc n) t k all own = omega (arith, highest_set ts n t k (omega arith) own)

set_highest : (ts : List Tree) (n : ℕ) (t : Tree) → n < length ts → height t ≤ highest (listed (slice_set ts n t))
set_highest [] n t here = absurd (omega arith)
set_highest (u ∷ ts) zero t here = omega arith
set_highest (u ∷ ts) (suc n) t here = omega (arith, set_highest ts n t (omega arith))

pub put_low : (ts : List Tree) (n : ℕ) (t : Tree) → height (tuple (listed ts)) ≤ 10000 → height t < 10000 → height (tuple (listed (slice_set ts n t))) ≤ 10000
put_low ts n t all own = omega (arith, highest_set ts n t 9999 (omega arith) (omega arith))

pub put_high : (ts : List Tree) (n : ℕ) (t : Tree) → n < length ts → 10000 ≤ height t → Trap TermHeight ≡ put_at (pos (suc n)) t ts
put_high ts n t here over = all_high (tuple (listed (slice_set ts n t))) (omega (arith, set_highest ts n t here)) ∙ put_there t ts n here

pub put_takes : (ts : List Tree) (n : ℕ) (t : Tree) → n < length ts → height (tuple (listed ts)) ≤ 10000 → height t < 10000 → TakesMemory (put_at (pos (suc n)) t ts)
put_takes ts n t here all own = rw (← put_there t ts n here) (takes_built (tuple (listed (slice_set ts n t))) (put_low ts n t all own) (omega arith))

-- the height of a list from an element on
pub left_at : (ts : List Tree) (i : ℕ) (t : Tree) → i < length ts → t ≡ get_or ts i t → height (listed (drop i ts)) ≡ height (cons t (listed (drop (i + 1) ts)))
left_at ts i t here is = ap (λ (us : List Tree). height (listed us)) (drop_more ts i t here ∙ ap (λ (u : Tree). u ∷ drop (i + 1) ts) (sym is))
