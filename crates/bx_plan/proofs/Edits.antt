-- Stretches in a row that is edited: one more behind them, a part of them, one that is parted or joined with the next, and two whose choices are exchanged.
use Rattle.bx_plan.proofs.Words.{◌≡◌, ℕ, zero, suc, ◌+◌, ◌-◌, ◌<◌, ◌≤◌, List, [], ◌∷◌, ◌++◌, length, map, get_or, set, take, drop, replicate, refl, sym, ap, subst, ◌∙◌, arith, length-append, append_assoc, slice_get, drop-set-lt}
use Rattle.bx_plan.proofs.Words.{set_split, take_more_set, insert, swap, drop_all, length_push, length-set, length-take-le, take_all, take_at, take_more, take-append-drop, Choice, Stretch, choices_from, made_before, AreStretches}
use Rattle.std.proofs.lemmas.List.{append-nil}
use Rattle.std.proofs.lemmas.List.Edits.{swap_is}
use Rattle.bx_plan.proofs.Stretching.{absorbed, at, choices_append, count_end, end_of, ends, found, joined, long, next, no_stretch, parted, rest, sides, split, taken, within}

-- these stretches make these choices
abbrev pub Makes : List Stretch → List Choice → Type 0
Makes after cs = AreStretches 0 after × (choices_from 0 after ≡ cs)

abbrev pub Longer : List Stretch → Stretch → List Stretch → Type 0
Longer ss s after = AreStretches 0 after × ((times : ℕ) → length (choices_from 0 ss) + times ≡ s.past → choices_from 0 after ≡ choices_from 0 ss ++ replicate times s.choice)

module _ (ss : List Stretch) (j : AreStretches 0 ss) where
  -- ---- one stretch more

  module _ (s : Stretch) (some : length (choices_from 0 ss) < s.past) where
    -- behind the last
    pub further : Longer ss s (ss ++ s ∷ [])
    further = grind (arith, joined, count_end, choices_append, append-nil)

    -- in the place of the last, which is of the same choice
    pub longer : (last : ℕ) → last + 1 ≡ length ss → (get_or ss last no_stretch).choice ≡ s.choice → Longer ss s (set ss last s)
    longer last e same =
        let r = get_or ss last no_stretch in
        let here : last < length ss = omega (arith, e) in
        let all : ss ≡ take last ss ++ r ∷ [] = sym (take_all (last + 1) ss (omega (arith, e))) ∙ take_more ss last no_stretch here in
        let after : set ss last s ≡ take last ss ++ s ∷ [] = set_split ss last s here ∙ ap (λ (xs : List Stretch). take last ss ++ s ∷ xs) (drop_all (suc last) ss (omega (arith, e))) in (
          subst (AreStretches 0) (sym after) (joined 0 (take last ss) (s ∷ []) (sides ss j last).0 (omega (arith, ends ss j last, within ss j last, some), tt)),
          λ times h.
              ap (choices_from 0) after
              ∙ sym (absorbed 0 (take last ss) r s [] same (omega (arith, ends ss j last, (rest ss j last here).0)) (omega (arith, next ss j last here, within ss j (last + 1), some)))
              ∙ ap (choices_from 0) (sym (append_assoc (take last ss) (r ∷ []) (s ∷ []))) ∙ ap (λ (xs : List Stretch). choices_from 0 (xs ++ s ∷ [])) (sym all) ∙ further.1 times h,
        )

  -- ---- at one of them

  module _ (n : ℕ) (h : n < length ss) where
    abbrev s : Stretch
    s = get_or ss n no_stretch

    -- cut off at a position on it
    pub cut_at : (p : ℕ) → made_before n ss < p → p ≤ s.past → Makes (take n ss ++ record { choice = s.choice; past = p } ∷ []) (take p (choices_from 0 ss))
    cut_at p from to = grind (arith, joined, sides, ends, taken)

    -- parted at a position on it
    pub parted_at : (p : ℕ) → made_before n ss < p → p < s.past → Makes (insert ss n (record { choice = s.choice; past = p })) (choices_from 0 ss)
    parted_at p from to = grind (arith, at, joined, sides, ends, rest, parted)

    pub over_at : (p : ℕ) → made_before n ss < p → p < s.past → made_before (n + 1) (insert ss n (record { choice = s.choice; past = p })) ≡ p
    over_at p from to =
        let x : Stretch = record { choice = s.choice; past = p } in
        let front = ap (take (n + 1)) (sym (append_assoc (take n ss) (x ∷ []) (drop n ss))) ∙ take_at (take n ss ++ x ∷ []) (drop n ss) (n + 1) (omega (arith, length_push (take n ss) x, length-take-le n ss (omega (arith, h)))) in
        ap (λ (xs : List Stretch). length (choices_from 0 xs)) front ∙ long ss j n h p (omega (arith, from)) (omega (arith, to))

    -- both choices at such a position are its own
    pub same_there : (p : ℕ) → made_before n ss < p → p < s.past → slice_get (choices_from 0 ss) (p - 1) ≡ slice_get (choices_from 0 ss) p
    same_there p from to = found ss j n h (p - 1) (omega (arith, from)) (omega (arith, to)) ∙ sym (found ss j n h p (omega (arith, from)) to)

    -- joined with the next, which is of the same choice
    pub merged : n + 1 < length ss → s.choice ≡ (get_or ss (n + 1) no_stretch).choice → Makes (take n ss ++ drop (n + 1) ss) (choices_from 0 ss)
    merged l same =
        let y = get_or ss (n + 1) no_stretch in
        let below = rest ss j n h in
        let above = rest ss j (n + 1) l in
        let here = next ss j n h in
        rw (at ss j (n + 1) l) (
          joined 0 (take n ss) (y ∷ drop (n + 1 + 1) ss) (sides ss j n).0 (omega (arith, below.0, above.0, here, ends ss j n), above.1),
          sym (absorbed 0 (take n ss) s y (drop (n + 1 + 1) ss) same (omega (arith, below.0, ends ss j n)) (omega (arith, above.0, here)))
              ∙ ap (λ (xs : List Stretch). choices_from 0 (take n ss ++ s ∷ xs)) (sym (at ss j (n + 1) l)) ∙ ap (λ (xs : List Stretch). choices_from 0 (take n ss ++ xs)) (sym (at ss j n h)) ∙ ap (choices_from 0) (take-append-drop n ss),
        )

-- ---- two exchanged

swap_there : (front : List Choice) (p q : ℕ) (a b : Choice) (more : List Choice) → p ≡ length front → q ≡ suc p → swap (front ++ a ∷ b ∷ more) p q ≡ front ++ b ∷ a ∷ more
swap_there [] p q a b more e f = ap (λ i. swap (a ∷ b ∷ more) i q) e ∙ ap (λ i. swap (a ∷ b ∷ more) 0 i) (f ∙ ap suc e)
swap_there (c ∷ front) zero q a b more e f = absurd (omega (arith, e))
swap_there (c ∷ front) (suc p) zero a b more e f = absurd (omega (arith, f))
swap_there (c ∷ front) (suc p) (suc q) a b more e f = grind (arith, length-append, swap_is, swap_there front p q a b more (omega (arith, e)) (omega (arith, f)))

-- two single stretches in a row
singles : (m : ℕ) (x y : Stretch) (more : List Stretch) → x.past ≡ m + 1 → y.past ≡ m + 2 → choices_from m (x ∷ y ∷ more) ≡ x.choice ∷ y.choice ∷ choices_from y.past more
singles m x y more e f = grind (arith)

set_two : (i : ℕ) (ss : List Stretch) (x y : Stretch) → i + 1 < length ss → set (set ss i x) (i + 1) y ≡ take i ss ++ x ∷ y ∷ drop (i + 2) ss
set_two i ss x y h = grind (arith, set_split, length-set, take_more_set, drop-set-lt, append_assoc)

pub exchanged : (ss : List Stretch) (n : ℕ) → AreStretches 0 ss → n + 1 < length ss → (get_or ss n no_stretch).past ≡ made_before n ss + 1 → (get_or ss (n + 1) no_stretch).past ≡ made_before n ss + 2
    → Makes (set (set ss n (record { choice = (get_or ss (n + 1) no_stretch).choice; past = (get_or ss n no_stretch).past })) (n + 1) (record { choice = (get_or ss n no_stretch).choice; past = (get_or ss (n + 1) no_stretch).past }))
    (swap (choices_from 0 ss) (made_before n ss) (made_before n ss + 1))
exchanged ss n j h one two =
    let a = get_or ss n no_stretch in
    let b = get_or ss (n + 1) no_stretch in
    let more = drop (n + 2) ss in
    let front = choices_from 0 (take n ss) in
    let x : Stretch = record { choice = b.choice; past = a.past } in
    let y : Stretch = record { choice = a.choice; past = b.past } in
    let edit : set (set ss n x) (n + 1) y ≡ take n ss ++ x ∷ y ∷ more = set_two n ss x y h in
    let place : n + 1 + 1 ≡ n + 2 = omega arith in
    let row : drop n ss ≡ a ∷ b ∷ more = at ss j n (omega (arith, h)) ∙ ap (λ (xs : List Stretch). a ∷ xs) (at ss j (n + 1) h ∙ ap (λ i. b ∷ drop i ss) place) in
    let before : choices_from 0 ss ≡ front ++ a.choice ∷ b.choice ∷ choices_from b.past more =
    split ss j n ∙ ap (λ (xs : List Stretch). front ++ choices_from (made_before n ss) xs) row ∙ ap (λ cs. front ++ cs) (singles (made_before n ss) a b more one two) in (
      subst (AreStretches 0) (sym edit) (joined 0 (take n ss) (x ∷ y ∷ more) (sides ss j n).0 (omega (arith, one, ends ss j n), (omega (arith, one, two), subst (λ i. AreStretches b.past (drop i ss)) place (rest ss j (n + 1) h).1))),
      ap (choices_from 0) edit ∙ choices_append 0 (take n ss) (x ∷ y ∷ more)
          ∙ ap (λ cs. front ++ cs) (singles (end_of 0 (take n ss)) x y more (omega (arith, one, ends ss j n)) (omega (arith, two, ends ss j n)))
          ∙ sym (swap_there front (made_before n ss) (made_before n ss + 1) a.choice b.choice (choices_from b.past more) refl (omega arith))
          ∙ ap (λ cs. swap cs (made_before n ss) (made_before n ss + 1)) (sym before),
    )

-- ---- put off

abbrev pub put_later : ℕ → Stretch → Stretch
put_later more s = record { choice = s.choice; past = s.past + more }

pub later : (m n more : ℕ) (ss : List Stretch) → n ≡ m + more → AreStretches m ss → AreStretches n (map (put_later more) ss) × (choices_from n (map (put_later more) ss) ≡ choices_from m ss)
later m n more [] e j = (tt, refl)
later m n more (s ∷ ss) e j = grind (arith, later s.past (s.past + more) more ss refl j.1)

-- those behind so many choices
pub chained : (ss behind after : List Stretch) (count : ℕ) → AreStretches 0 ss → AreStretches 0 behind → count ≡ length (choices_from 0 ss) → after ≡ ss ++ map (put_later count) behind → Makes after (choices_from 0 ss ++ choices_from 0 behind)
chained ss behind after count j k e f =
    let end : count ≡ end_of 0 ss = omega (arith, e, count_end 0 ss j) in
    let all = later 0 (end_of 0 ss) count behind (omega (arith, end)) k in (
      subst (AreStretches 0) (sym f) (joined 0 ss (map (put_later count) behind) j all.0),
      ap (choices_from 0) f ∙ choices_append 0 ss (map (put_later count) behind) ∙ ap (λ cs. choices_from 0 ss ++ cs) all.1,
    )
