-- Stretches in a row: where they are over, and the choices that they make.
use Rattle.bx_plan.proofs.Words.{◌≡◌, ◌⊎◌, inl, inr, ℕ, zero, suc, ◌+◌, ◌-◌, ◌<◌, ◌≤◌, min, leb, true, false, List, [], ◌∷◌, ◌++◌, length, Some, get_or, take, drop, replicate, refl, sym, ap, subst, ◌∙◌, arith, rules, common_steps}
use Rattle.bx_plan.proofs.Words.{IsNonDecreasingBy, IsPartitionPoint, take-append-add, leb-false, lt-leb, drop_at, IsNonDecreasingBy-from_all_adjacent, GoesOn, length-append, length-drop, append_assoc, slice_get, cases_lt, le-leb}
use Rattle.bx_plan.proofs.Words.{leb-true, drop_all, drop_more, get_or_default, length-replicate, replicate-append-replicate, take_all, take_at, take_more, take-append-drop, Choice, Stretch, behind, choices_from, made_before}
use Rattle.bx_plan.proofs.Words.{AreStretches, IsPart, IsOverBy}
use Rattle.bx_world.specs.declared.choices.Choice.TheVariants as choices

abbrev pub no_stretch : Stretch
no_stretch = record { choice = choices.Run 0; past = 0 }

-- where they are over
abbrev pub end_of : ℕ → List Stretch → ℕ
end_of made [] = made
end_of made (s ∷ ss) = end_of s.past ss

pub count_end : (m : ℕ) (ss : List Stretch) → AreStretches m ss → m + length (choices_from m ss) ≡ end_of m ss
count_end m [] j = omega arith
count_end m (s ∷ ss) j = grind (arith, length-append, length-replicate, count_end s.past ss j.1)

-- ---- one behind another

pub choices_append : (m : ℕ) (xs ys : List Stretch) → choices_from m (xs ++ ys) ≡ choices_from m xs ++ choices_from (end_of m xs) ys
choices_append m [] ys = refl
choices_append m (x ∷ xs) ys = grind (arith, append_assoc, choices_append x.past xs ys)

pub joined : (m : ℕ) (xs ys : List Stretch) → AreStretches m xs → AreStretches (end_of m xs) ys → AreStretches m (xs ++ ys)
joined m [] ys j k = k
joined m (x ∷ xs) ys j k = (j.0, joined x.past xs ys j.1 k)

pub apart : (m : ℕ) (xs ys : List Stretch) → AreStretches m (xs ++ ys) → AreStretches m xs × AreStretches (end_of m xs) ys
apart m [] ys j = (tt, j)
apart m (x ∷ xs) ys j = let more = apart x.past xs ys j.1 in ((j.0, more.0), more.1)

end_push : (m : ℕ) (xs : List Stretch) (x : Stretch) → end_of m (xs ++ x ∷ []) ≡ x.past
end_push m [] x = refl
end_push m (y ∷ xs) x = end_push y.past xs x

-- a stretch before one of the same choice is a part of it
pub absorbed : (m : ℕ) (front : List Stretch) (x y : Stretch) (more : List Stretch) → x.choice ≡ y.choice → end_of m front ≤ x.past → x.past ≤ y.past
    → choices_from m (front ++ x ∷ y ∷ more) ≡ choices_from m (front ++ y ∷ more)
absorbed m [] x y more e h l =
    let long : x.past - m + (y.past - x.past) ≡ y.past - m = omega (arith, h, l) in
    ap (λ c. replicate (x.past - m) c ++ (replicate (y.past - x.past) y.choice ++ choices_from y.past more)) e
    ∙ sym (append_assoc (replicate (x.past - m) y.choice) (replicate (y.past - x.past) y.choice) (choices_from y.past more))
    ∙ ap (λ cs. cs ++ choices_from y.past more) (replicate-append-replicate (x.past - m) (y.past - x.past) y.choice ∙ ap (λ n. replicate n y.choice) long)
absorbed m (f ∷ front) x y more e h l = ap (λ cs. replicate (f.past - m) f.choice ++ cs) (absorbed f.past front x y more e h l)

-- ---- choices in a row

slice_get_drop : (cs : List Choice) (p : ℕ) → slice_get cs p ≡ slice_get (drop p cs) 0
slice_get_drop [] zero = refl
slice_get_drop [] (suc p) = refl
slice_get_drop (c ∷ cs) zero = refl
slice_get_drop (c ∷ cs) (suc p) = slice_get_drop cs p

pub first_choice : (n : ℕ) (c : Choice) (rest : List Choice) → 0 < n → slice_get (replicate n c ++ rest) 0 ≡ Some c
first_choice n c rest h3 = grind arith

-- ---- at one of them

module _ (ss : List Stretch) (j : AreStretches 0 ss) where
  pub ends : (n : ℕ) → end_of 0 (take n ss) ≡ made_before n ss
  ends n = omega (arith, count_end 0 (take n ss) (apart 0 (take n ss) (drop n ss) (subst (AreStretches 0) (sym (take-append-drop n ss)) j)).0)

  pub sides : (n : ℕ) → AreStretches 0 (take n ss) × AreStretches (made_before n ss) (drop n ss)
  sides n =
      let both = apart 0 (take n ss) (drop n ss) (subst (AreStretches 0) (sym (take-append-drop n ss)) j) in
      (both.0, subst (λ m. AreStretches m (drop n ss)) (ends n) both.1)

  pub split : (n : ℕ) → choices_from 0 ss ≡ choices_from 0 (take n ss) ++ choices_from (made_before n ss) (drop n ss)
  split n = ap (choices_from 0) (sym (take-append-drop n ss)) ∙ choices_append 0 (take n ss) (drop n ss) ∙ ap (λ m. choices_from 0 (take n ss) ++ choices_from m (drop n ss)) (ends n)

  pub within : (n : ℕ) → made_before n ss ≤ length (choices_from 0 ss)
  within n = omega (arith, ap length (split n), length-append (choices_from 0 (take n ss)) (choices_from (made_before n ss) (drop n ss)))

  pub whole : (n : ℕ) → length ss ≤ n → made_before n ss ≡ length (choices_from 0 ss)
  whole n h = ap (λ (xs : List Stretch). length (choices_from 0 xs)) (take_all n ss h)

  pub there : (n : ℕ) → made_before n ss < length (choices_from 0 ss) → n < length ss
  there n h = grind (arith, common_steps, cases_lt)

  module _ (n : ℕ) (h : n < length ss) where
    abbrev s : Stretch
    s = get_or ss n no_stretch

    abbrev more : List Stretch
    more = drop (n + 1) ss

    pub at : drop n ss ≡ s ∷ more
    at = drop_more ss n no_stretch h

    pub rest : AreStretches (made_before n ss) (s ∷ more)
    rest = subst (AreStretches (made_before n ss)) at (sides n).1

    pub next : made_before (n + 1) ss ≡ s.past
    next = sym (ends (n + 1)) ∙ ap (end_of 0) (take_more ss n no_stretch h) ∙ end_push 0 (take n ss) s

    pub grows : made_before n ss < made_before (n + 1) ss
    grows = omega (arith, rest.0, next)

    module _ (p : ℕ) (from : made_before n ss ≤ p) (to : p ≤ s.past) where
      -- the stretch, over at that position
      abbrev x : Stretch
      x = record { choice = s.choice; past = p }

      pub parted : choices_from 0 (take n ss ++ x ∷ s ∷ more) ≡ choices_from 0 ss
      parted = absorbed 0 (take n ss) x s more refl (omega (arith, from, ends n)) to ∙ ap (λ (xs : List Stretch). choices_from 0 (take n ss ++ xs)) (sym at) ∙ ap (choices_from 0) (take-append-drop n ss)

      halves : choices_from 0 ss ≡ choices_from 0 (take n ss ++ x ∷ []) ++ choices_from p (s ∷ more)
      halves = grind (arith, parted, append_assoc, choices_append, end_push)

      pub long : length (choices_from 0 (take n ss ++ x ∷ [])) ≡ p
      long = grind (arith, choices_append, length-append, length-replicate, ends)

      pub taken : choices_from 0 (take n ss ++ x ∷ []) ≡ take p (choices_from 0 ss)
      taken = sym (ap (take p) halves ∙ take_at (choices_from 0 (take n ss ++ x ∷ [])) (choices_from p (s ∷ more)) p long)

      pub dropped : choices_from p (s ∷ more) ≡ drop p (choices_from 0 ss)
      dropped = sym (ap (drop p) halves ∙ drop_at (choices_from 0 (take n ss ++ x ∷ [])) (choices_from p (s ∷ more)) p long)

    pub found : (p : ℕ) → made_before n ss ≤ p → p < s.past → slice_get (choices_from 0 ss) p ≡ Some s.choice
    found p from to = slice_get_drop (choices_from 0 ss) p ∙ ap (λ cs. slice_get cs 0) (sym (dropped p from (omega (arith, to)))) ∙ first_choice (s.past - p) s.choice (choices_from s.past more) (omega (arith, to))

  -- ---- halving

  pub rising : IsNonDecreasingBy (λ (s : Stretch). s.past) ss
  rising = IsNonDecreasingBy-from_all_adjacent (λ (s : Stretch). s.past) ss (λ k d h.
      omega (arith, next k (omega (arith, h)), (rest (k + 1) h).0, ap (λ (s : Stretch). s.past) (get_or_default ss k d no_stretch (omega (arith, h))), ap (λ (s : Stretch). s.past) (get_or_default ss (k + 1) d no_stretch h)))

  pub halved : (p n : ℕ) → n ≤ length ss → IsPartitionPoint (λ (s : Stretch). leb s.past p ≡ true) (λ (s : Stretch). leb s.past p ≡ false) ss n → IsOverBy ss p n
  halved p n most point = search (rules, next, leb-false, leb-true)

  -- what stands from a position on
  pub from_on : (p n : ℕ) → IsOverBy ss p n → AreStretches p (drop n ss) × (choices_from p (drop n ss) ≡ drop p (choices_from 0 ss))
  from_on p n is = search (rules, cases_lt, next, at, rest, dropped, drop_all, whole)

pub part_on : (ss left : List Stretch) (first past n : ℕ) → AreStretches 0 ss → IsOverBy ss first n → first ≤ past → past ≤ length (choices_from 0 ss) → left ≡ drop n ss → IsPart left first past × (choices_from first left ≡ drop first (choices_from 0 ss))
part_on ss left first past n j is order most e =
    let on = from_on ss j first n is in
    let here = ap (choices_from first) e ∙ on.1 in
    (record { rising = subst (AreStretches first) (sym e) on.0; order = order; within = omega (arith, most, ap length here, length-drop first (choices_from 0 ss)) }, here)

-- ---- up to a position on the first

pub stepped : (m p : ℕ) (s : Stretch) (ss : List Stretch) → AreStretches m (s ∷ ss) → m ≤ p → p ≤ s.past
    → AreStretches p (behind p (s ∷ ss)) × (choices_from m (s ∷ ss) ≡ replicate (p - m) s.choice ++ choices_from p (behind p (s ∷ ss)))
stepped m p s ss j h l = one (cases_lt p s.past) where
  one : (p < s.past) ⊎ (s.past ≤ p) → AreStretches p (behind p (s ∷ ss)) × (choices_from m (s ∷ ss) ≡ replicate (p - m) s.choice ++ choices_from p (behind p (s ∷ ss)))
  one (inl k) = rw (lt-leb s.past p k) ((k, j.1), sym (absorbed m [] (record { choice = s.choice; past = p }) s ss refl h l))
  one (inr k) = let same : s.past ≡ p = omega (arith, k, l) in rw (le-leb s.past p k) (subst (λ n. AreStretches n ss × (choices_from m (s ∷ ss) ≡ replicate (n - m) s.choice ++ choices_from n ss)) same (j.1, refl))

-- ---- a part without its first stretch

some_left : (m : ℕ) (cs : List Choice) (c : Choice) → slice_get (take m cs) 0 ≡ Some c → 0 < m
some_left m cs c h3 = grind (arith)

front_choice : (m n : ℕ) (c : Choice) (rest : List Choice) → 0 < m → 0 < n → slice_get (take m (replicate n c ++ rest)) 0 ≡ Some c
front_choice m n c rest h4 h5 = grind arith

pub skipped : (ss : List Stretch) (first past until : ℕ) (choice : Choice) → IsPart ss first past → slice_get (take (past - first) (choices_from first ss)) 0 ≡ Some choice → until ≡ min past (get_or ss 0 no_stretch).past
    → IsPart (behind until ss) until past × GoesOn choice (take (past - first) (choices_from first ss)) (take (past - until) (choices_from until (behind until ss)))
skipped [] first past until choice is e u = let some = some_left (past - first) [] choice e in absurd (omega (arith, some, is.within))
skipped (s ∷ ss) first past until choice is e u =
    let some = some_left (past - first) (choices_from first (s ∷ ss)) choice e in
    let below = is.rising.0 in
    let step = stepped first until s ss is.rising (omega (arith, u, some, below)) (omega (arith, u)) in
    let same : s.choice ≡ choice = let front : Some s.choice ≡ Some choice = sym (front_choice (past - first) (s.past - first) s.choice (choices_from s.past ss) some (omega (arith, below))) ∙ e in cc in
    let left = choices_from until (behind until (s ∷ ss)) in
    let long = length-replicate (until - first) s.choice in
    let count : past - first ≡ length (replicate (until - first) s.choice) + (past - until) = omega (arith, long, u, some, below) in (
      record { rising = step.0; order = omega (arith, u); within = omega (arith, is.within, ap length step.1, length-append (replicate (until - first) s.choice) left, long, u, some, below) },
      (
        until - first,
        omega (arith, u, some, below),
        ap (take (past - first)) step.1 ∙ ap (λ n. take n (replicate (until - first) s.choice ++ left)) count ∙ take-append-add (replicate (until - first) s.choice) left (past - until)
            ∙ ap (λ c. replicate (until - first) c ++ take (past - until) left) same,
      ),
    )
