-- What choices that are put together are, and those that are set aside: exchanges that may be made.
use Rattle.bx_swaps.proofs.Words.{◌≡◌, ◌∙◌, ℕ, zero, suc, ◌+◌, ◌-◌, ◌<◌, ◌≤◌, Bool, true, false, List, [], ◌∷◌, length, take, drop, refl, sym, ap, subst, arith, ◌==◌, if◌then◌else◌, Option, Some, None}
use Rattle.bx_swaps.proofs.Words.{option_map, IfSome, slice_get, slice_index_or, Choice, actor, Course, IsExchanged, among_more, further, none_made, behind_came, forward, gathered, next_alike, set_aside, settled}
use Rattle.bx_swaps.proofs.Words.{switches, IsTidied}
use Rattle.std.specs.Prelude.{nat_lt}
use Rattle.std.proofs.lemmas.Bool.{le-ltb, lt-ltb, ltb-false}
use Rattle.std.proofs.lemmas.List.{drop_more}
use Rattle.bx_swaps.specs.Tidying.{before_alike, before_first, joined, tidied_of, undone_of}
use Rattle.bx_swaps.proofs.Coming.{comes}

-- ---- together

first_within : (p : ℕ) (cs : List Choice) → IfSome (before_first p cs) (λ n. n < length cs)
first_within p [] = tt
first_within p (c ∷ cs) = go (actor c == p) (before_first p cs) (first_within p cs)
  where
    go : (same : Bool) (rest : Option ℕ) → IfSome rest (λ n. n < length cs) → IfSome (if same then Some 0 else option_map suc rest) (λ n. n < suc (length cs))
    go true rest h = omega arith
    go false None h = tt
    go false (Some n) h = let less : n < length cs = h in omega (arith, less)

alike_within : (last : Option Choice) (cs : List Choice) → IfSome (before_alike last cs) (λ n. n < length cs)
alike_within None cs = tt
alike_within (Some c) cs = first_within (actor c) cs

joined_so : (at left : ℕ) (c : Course) (next : Option ℕ) → IfSome next (λ n. n < left) → IsExchanged (at + left) c (joined at next c)
joined_so at left c None h = none_made (at + left) c
joined_so at left c (Some n) h = let less : n < left = h in among_more (at + n + 1) (at + left) c (forward n (at + n) c).1 (omega (arith, less)) (comes n (at + n) c (omega arith)).exchanged

short_take : (n : ℕ) (cs : List Choice) → length (take n cs) ≤ n
short_take zero cs = omega arith
short_take (suc n) [] = omega arith
short_take (suc n) (c ∷ cs) = omega (arith, short_take n cs)

shorter : (left n : ℕ) (next : Option ℕ) → n ≤ left → IfSome next (λ k. k < n) → IfSome next (λ k. k < left)
shorter left n None le h = tt
shorter left n (Some k) le h = let less : k < n = h in omega (arith, le, less)

pub settled_so : (at left : ℕ) (c : Course) → IsExchanged (at + left) c (settled at left c)
settled_so at left c =
    let cs = take left (drop at c.choices) in
    joined_so at left c (next_alike at left c.choices)
    (shorter left (length cs) (next_alike at left c.choices) (short_take left (drop at c.choices)) (alike_within (slice_get c.choices (at - 1)) cs))

gathered_so : (left at : ℕ) (c : Course) → IsExchanged (at + left) c (gathered left at c)
gathered_so zero at c = none_made (at + 0) c
gathered_so (suc left) at c =
    let next = settled at (suc left) c in
    further (at + suc left) c next (gathered left (at + 1) next) (settled_so at (suc left) c)
    (among_more (at + 1 + left) (at + suc left) next (gathered left (at + 1) next) (omega arith) (gathered_so left (at + 1) next))

gathered_first : (count n : ℕ) (c : Course) → n ≡ count - 1 → IsExchanged count c (gathered n 1 c)
gathered_first count zero c is = none_made count c
gathered_first count (suc n) c is = among_more (1 + suc n) count c (gathered (suc n) 1 c) (omega (arith, is)) (gathered_so (suc n) 1 c)

abbrev either : Course → Course → Bool → Course
either old new more = if more then old else new

kept_so : (count : ℕ) (old new : Course) (more : Bool) → nat_lt (switches old.choices) (switches new.choices) ≡ more → IsExchanged count old new
    → IsExchanged count old (either old new more) × (switches (either old new more).choices ≤ switches old.choices)
kept_so count old new true is e = (none_made count old, omega arith)
kept_so count old new false is e = (e, ltb-false (switches old.choices) (switches new.choices) is)

-- a tidied row
pub tidied_so : (count : ℕ) (c : Course) → IsTidied count c (tidied_of count c)
tidied_so count c =
    let new = gathered (count - 1) 1 c in
    let kept = kept_so count c new (nat_lt (switches c.choices) (switches new.choices)) refl (gathered_first count (count - 1) c refl) in
    record { is = refl; exchanged = kept.0; fewer = kept.1 }

-- which of the two
pub given_so : (count : ℕ) (c new : Course) → new ≡ gathered (count - 1) 1 c → switches c.choices < switches new.choices → tidied_of count c ≡ c
given_so count c new is more =
    ap (either c (gathered (count - 1) 1 c)) (subst (λ (d : Course). nat_lt (switches c.choices) (switches d.choices) ≡ true) is (lt-ltb (switches c.choices) (switches new.choices) more))

pub gathered_tidy : (count : ℕ) (c new : Course) → new ≡ gathered (count - 1) 1 c → switches new.choices ≤ switches c.choices → tidied_of count c ≡ new
gathered_tidy count c new is few =
    ap (either c (gathered (count - 1) 1 c)) (subst (λ (d : Course). nat_lt (switches c.choices) (switches d.choices) ≡ false) is (le-ltb (switches c.choices) (switches new.choices) few))
    ∙ sym is

-- one that is looked at
abbrev value : Option ℕ → ℕ
value None = 0
value (Some n) = n

pub stays_so : (at : ℕ) (c : Course) (o : Option ℕ) → None ≡ option_map (λ n. at + n) o → c ≡ joined at o c
stays_so at c None e = refl
stays_so at c (Some n) e = cc

pub comes_so : (at : ℕ) (c new : Course) (o : Option ℕ) (next came : ℕ) → Some next ≡ option_map (λ n. at + n) o → forward (next - at) next c ≡ (came, new) → new ≡ joined at o c
comes_so at c new None next came e is = cc
comes_so at c new (Some n) next came e is =
    let same : next ≡ at + n = ap value e in
    let count : next - at ≡ n = omega (arith, same) in
    sym (ap (λ (r : ℕ × Course). r.1) is) ∙ ap (λ m. (forward m next c).1) count ∙ ap (λ m. (forward n m c).1) same

-- one more
pub gathered_on : (count at : ℕ) (c new : Course) → at < count → new ≡ settled at (count - at) c → gathered (count - (at + 1)) (at + 1) new ≡ gathered (count - at) at c
gathered_on count at c new less is =
    let left : suc (count - (at + 1)) ≡ count - at = omega (arith, less) in
    ap (gathered (count - (at + 1)) (at + 1)) (is ∙ ap (λ n. settled at n c) (sym left)) ∙ ap (λ n. gathered n at c) left

pub gathered_all : (count at : ℕ) (c : Course) → count ≤ at → gathered (count - at) at c ≡ c
gathered_all count at c past = let none : count - at ≡ 0 = omega (arith, past) in ap (λ n. gathered n at c) none

-- ---- the next of the same process

abbrev pub found : ℕ → ℕ → ℕ → ℕ → List Choice → Option ℕ
found at next left p cs = option_map (λ n. next - at + n) (before_first p (take left (drop next cs)))

mapped : (j k : ℕ) (o : Option ℕ) → k ≡ j + 1 → option_map (λ n. j + n) (option_map suc o) ≡ option_map (λ n. k + n) o
mapped j k None e = refl
mapped j k (Some n) e = let same : j + suc n ≡ k + n = omega (arith, e) in ap Some same

first_here : (cs : List Choice) (next count : ℕ) (x : Choice) → next < count → next < length cs → x ≡ slice_index_or cs next x
    → take (count - next) (drop next cs) ≡ x ∷ take (count - (next + 1)) (drop (next + 1) cs)
first_here cs next count x less within is =
    let left : count - next ≡ suc (count - (next + 1)) = omega (arith, less) in
    ap (λ n. take n (drop next cs)) left ∙ ap (take (suc (count - (next + 1)))) (drop_more cs next x within)
    ∙ ap (λ y. y ∷ take (count - (next + 1)) (drop (next + 1) cs)) (sym is)

pub alike_on : (cs : List Choice) (at next count p : ℕ) (x : Choice) → at ≤ next → next < count → next < length cs → x ≡ slice_index_or cs next x → (actor x == p) ≡ false
    → found at (next + 1) (count - (next + 1)) p cs ≡ found at next (count - next) p cs
alike_on cs at next count p x order less within is other =
    let rest = before_first p (take (count - (next + 1)) (drop (next + 1) cs)) in
    let up : next + 1 - at ≡ next - at + 1 = omega (arith, order) in
    sym (mapped (next - at) (next + 1 - at) rest up)
    ∙ ap (λ b. option_map (λ n. next - at + n) (if b then Some 0 else option_map suc rest)) (sym other)
    ∙ ap (λ ys. option_map (λ n. next - at + n) (before_first p ys)) (sym (first_here cs next count x less within is))

pub alike_here : (cs : List Choice) (at next count p : ℕ) (x : Choice) → at ≤ next → next < count → next < length cs → x ≡ slice_index_or cs next x → (actor x == p) ≡ true
    → found at next (count - next) p cs ≡ Some (next - at)
alike_here cs at next count p x order less within is same =
    let rest = before_first p (take (count - (next + 1)) (drop (next + 1) cs)) in
    let none : next - at + 0 ≡ next - at = omega arith in
    ap (λ ys. option_map (λ n. next - at + n) (before_first p ys)) (first_here cs next count x less within is)
    ∙ ap (λ b. option_map (λ n. next - at + n) (if b then Some 0 else option_map suc rest)) same ∙ ap Some none

-- what is answered
pub alike_found : (cs : List Choice) (at next count p : ℕ) (x : Choice) → at ≤ next → next < count → next < length cs → x ≡ slice_index_or cs next x → (actor x == p) ≡ true
    → found at next (count - next) p cs ≡ next_alike at (count - at) cs → Some next ≡ option_map (λ n. at + n) (next_alike at (count - at) cs)
alike_found cs at next count p x order less within is same so_far =
    let there : next ≡ at + (next - at) = omega (arith, order) in
    ap Some there ∙ ap (option_map (λ n. at + n)) (sym (alike_here cs at next count p x order less within is same) ∙ so_far)

-- ---- aside

pub record SetsAside (count at first : ℕ) (old : Course) (aside : Course × ℕ) : Type 0 where
  pub exchanged : IsExchanged count old aside.0
  pub back : first ≤ aside.1
  pub less : aside.1 < count

pub behind_bounds : (first came : ℕ) → (first ≤ behind_came first came) × (behind_came first came ≤ first + 1)
behind_bounds first came = go (came == first)
  where
    go : (same : Bool) → (first ≤ (if same then first + 1 else first)) × ((if same then first + 1 else first) ≤ first + 1)
    go true = (omega arith, omega arith)
    go false = (omega arith, omega arith)

set_aside_so : (count left at first : ℕ) (c : Course) → at + left ≤ count → first < at → first < count → SetsAside count at first c (set_aside left at first c)
set_aside_so count zero at first c within less inside = record { exchanged = none_made count c; back = omega arith; less = inside }
set_aside_so count (suc left) at first c within less inside =
    let came = forward (at - first) at c in
    let one = comes (at - first) at c (omega arith) in
    let next = behind_came first came.0 in
    let bound = behind_bounds first came.0 in
    let rest = set_aside_so count left (at + 1) next came.1 (omega (arith, within)) (omega (arith, bound.1, less)) (omega (arith, bound.1, less, within)) in
    let back = rest.back in
    record {
      exchanged = further count c came.1 (set_aside left (at + 1) next came.1).0 (among_more (at + 1) count c came.1 (omega (arith, within)) one.exchanged) rest.exchanged;
      back = omega (arith, bound.0, back);
      less = rest.less;
    }

pub aside_on : (count at first came : ℕ) (mid new : Course) → at < count → forward (at - first) at mid ≡ (came, new)
    → set_aside (count - (at + 1)) (at + 1) (behind_came first came) new ≡ set_aside (count - at) at first mid
aside_on count at first came mid new less is =
    let left : suc (count - (at + 1)) ≡ count - at = omega (arith, less) in
    ap (λ (r : ℕ × Course). set_aside (count - (at + 1)) (at + 1) (behind_came first r.0) r.1) (sym is) ∙ ap (λ n. set_aside n at first mid) left

-- a row of which a choice is set aside
pub undone_so : (count k : ℕ) (c : Course) → k < count → SetsAside count (k + 1) k c (undone_of count k c)
undone_so count k c less = set_aside_so count (count - (k + 1)) (k + 1) k c (omega (arith, less)) (omega arith) less
