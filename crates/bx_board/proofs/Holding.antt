-- What a book keeps of each chain, as chains are leased, given back and handed in.
use Rattle.std.proofs.Common.{◌≡◌, ◌≢◌, ◌⊎◌, inl, inr, ℕ, zero, suc, ◌+◌, ◌-◌, ◌<◌, ◌≤◌, ◌==◌, ◌&&◌, not, nat_lt, cond, true, false, Bool, Global, Vec, Option, None, Some, List, [], ◌∷◌, get_or, length, replicate, set, refl, sym, ap, subst, ◌∙◌, arith}
use Rattle.std.specs.List.{All}
use Rattle.std.proofs.lemmas.Bool.{cases_eq, cases_Bool, both_ways, and_parts, eq-eqb, eqb-true, le-ltb, lt-ltb, ltb-true}
use Rattle.std.proofs.lemmas.List.{get_or_read, get_or-set_same, get_or-set_other, length-set, set-get_or}
use Rattle.bx_world.specs.Running.{Ended}
use Rattle.bx_plan.specs.declared.chains.Head.{Head}
use Rattle.bx_plan.specs.Chains.{AreForest, above, chain_count, head, is_kid, kids, one_if}
use Rattle.bx_plan.proofs.Times.{and_false, both_true, mid_false, not_eq}
use Rattle.bx_board.specs.declared.books.stands.Stand.{Stand}
use Rattle.bx_board.specs.declared.books.stands.Stand.TheVariants as stands
use Rattle.bx_board.specs.declared.books.stands.Way.{Way}
use Rattle.bx_board.specs.declared.reports.Shown.{Shown}
use Rattle.bx_board.specs.declared.slots.Event.TheVariants.{Submit}
use Rattle.bx_board.specs.Jobs.{chain_end}
use Rattle.bx_board.specs.Kept.{IsKept, Kept, then}
use Rattle.bx_board.specs.Machine.{Waiting, Leased, Done, how_many, is_done, is_free, standing, with_slot}
use Rattle.bx_board.specs.Reported.{IsShown}
use Rattle.bx_board.specs.Stands.{IsHeld, Keeps, book_view, end_in, fewer, is_left, kept_for, left_on, passed, slot_of, slots_of, stand_at}
use Rattle.bx_board.proofs.Numbers.{how_many_but, how_many_same}
use Rattle.bx_board.proofs.RowLengths.{how_many_some, length_many}
use Rattle.bx_board.proofs.Steps.{Free, above_other, done_not_waiting, free_is, is_true, leased_within, not_root, not_waiting_within, slot_kept, slot_set, waiting_not_done}
use Rattle.bx_board.proofs.Tending.{done_kept}

-- ---- what the machine sees

pub slots_long : (ends : ℕ → Ended) (all : List Stand) → length (slots_of ends all) ≡ length all
slots_long ends [] = refl
slots_long ends (x ∷ all) = ap suc (slots_long (λ n. ends (suc n)) all)

pub slots_set : (ends : ℕ → Ended) (all : List Stand) (n : ℕ) (x : Stand) → slots_of ends (set all n x) ≡ set (slots_of ends all) n (slot_of (ends n) x)
slots_set ends [] n x = refl
slots_set ends (y ∷ all) zero x = refl
slots_set ends (y ∷ all) (suc n) x = ap (λ more. slot_of (ends 0) y ∷ more) (slots_set (λ m. ends (suc m)) all n x)

slots_at : (ends : ℕ → Ended) (all : List Stand) (n : ℕ) → get_or (slots_of ends all) n Waiting ≡ slot_of (ends n) (stand_at all n)
slots_at ends [] n = refl
slots_at ends (x ∷ all) zero = refl
slots_at ends (x ∷ all) (suc n) = slots_at (λ m. ends (suc m)) all n

pub slots_waiting : (ends : ℕ → Ended) (count : ℕ) → slots_of ends (replicate count stands.Waiting) ≡ replicate count Waiting
slots_waiting ends zero = refl
slots_waiting ends (suc n) = ap (λ more. Waiting ∷ more) (slots_waiting (λ m. ends (suc m)) n)

-- nothing of it changes with a stand that is seen as the one before
slots_same : (ends : ℕ → Ended) (all : List Stand) (n : ℕ) (x : Stand) → slot_of (ends n) x ≡ slot_of (ends n) (stand_at all n) → slots_of ends (set all n x) ≡ slots_of ends all
slots_same ends all n x same = slots_set ends all n x ∙ ap (set (slots_of ends all) n) (same ∙ sym (slots_at ends all n)) ∙ set-get_or (slots_of ends all) n Waiting

-- ---- ends that are kept

fewer_for : (end : Ended) (left less : ℕ) → left ≡ less + 1 → fewer (kept_for end left) ≡ kept_for end less
fewer_for end left less e =
    let one : left - 1 ≡ less = omega (arith, e) in
    ap (λ t. fewer (cond t None (Some (record { end = end; left = left })))) (not_eq left 0 (λ z. absurd (omega (arith, z, e)))) ∙ ap (kept_for end) one

passed_keeps : (end : Ended) (left less : ℕ) (x : Stand) → left ≡ less + 1 → Keeps end left x → Keeps end less (passed x)
passed_keeps end left less stands.Waiting e keeps = tt
passed_keeps end left less (stands.Leased k) e keeps = tt
passed_keeps end left less (stands.Done told way) e keeps = (keeps.0, ap fewer keeps.1 ∙ fewer_for end left less e)

passed_slot : (end : Ended) (x : Stand) → slot_of end (passed x) ≡ slot_of end x
passed_slot end stands.Waiting = refl
passed_slot end (stands.Leased k) = refl
passed_slot end (stands.Done told way) = refl

there : (end : Ended) (left : ℕ) (x : Stand) → is_done (slot_of end x) ≡ true → 0 < left → Keeps end left x → end_in x ≡ Some end
there end left stands.Waiting d some keeps = absurd (cc)
there end left (stands.Leased k) d some keeps = absurd (cc)
there end left (stands.Done told way) d some keeps =
    ap (λ w. end_in (stands.Done told w)) (keeps.1 ∙ ap (λ t. cond t None (Some (record { end = end; left = left }))) (not_eq left 0 (λ z. absurd (omega (arith, z, some)))))

-- where none is done of those that stand on a chain, all of them are left
pub all_left : (b : Kept) → AreForest b.job.plan b.job.chains → length b.state.slots ≡ chain_count b.job.chains → (n : ℕ) → ((m : ℕ) → is_kid b.job.chains n m ≡ true → is_done (standing b.state m) ≡ false) → length (kids b.job.chains n) ≡ left_on b n
all_left b forest count n undone =
    length_many (is_kid b.job.chains n) (kids b.job.chains n) (length b.state.slots) (forest.kids n) past
    ∙ how_many_same (is_kid b.job.chains n) (is_left b.job b.state n) (length b.state.slots) (λ m h. same m (cases_Bool (is_kid b.job.chains n m)))
  where
    past : (m : ℕ) → length b.state.slots ≤ m → is_kid b.job.chains n m ≡ false
    past m h = mid_false (nat_lt 0 m) (nat_lt m (length b.job.chains.heads)) (above b.job.chains m == n) (le-ltb m (length b.job.chains.heads) (omega (arith, h, count)))

    same : (m : ℕ) → (is_kid b.job.chains n m ≡ true) ⊎ (is_kid b.job.chains n m ≡ false) → is_kid b.job.chains n m ≡ is_left b.job b.state n m
    same m (inl t) = t ∙ sym (ap (λ k. k && not (is_done (standing b.state m))) t ∙ ap not (undone m t))
    same m (inr f) = f ∙ sym (ap (λ k. k && not (is_done (standing b.state m))) f)

module _ {b : Kept} {all : List Stand} (held : IsHeld b all) (see : b.state.slots ≡ slots_of (chain_end b.job) all) where
  pub seen_long : length b.state.slots ≡ length all
  seen_long = ap length see ∙ slots_long (chain_end b.job) all

  pub seen_at : (n : ℕ) → standing b.state n ≡ slot_of (chain_end b.job n) (stand_at all n)
  seen_at n = ap (λ slots. get_or slots n Waiting) see ∙ slots_at (chain_end b.job) all n

  -- a chain is among those that stand, and stands as it was read
  pub low : IsKept b → {v : Kept} → b ≡ v → (n : ℕ) → n < chain_count v.job.chains → n < length all
  low is {v} same n h = omega (arith, subst (λ (k : Kept). n < chain_count k.job.chains) (sym same) h, is.count, seen_long)

  pub held_low : (k n : ℕ) → standing b.state n ≡ Leased k → n < length all
  held_low k n had = omega (arith, leased_within b.state n k had, seen_long)

  pub seen_read : (n : ℕ) (x : Stand) → n < length all → x ≡ get_or all n x → standing b.state n ≡ slot_of (chain_end b.job n) x
  seen_read n x within read = seen_at n ∙ ap (slot_of (chain_end b.job n)) (sym (get_or_read all n x within read stands.Waiting))

  pub seen_set : (n : ℕ) (x : Stand) → book_view b.job (set all n x) b.state.stopped ≡ record { job = b.job; state = with_slot b.state n (slot_of (chain_end b.job n) x) }
  seen_set n x = ap (λ slots. record { job = b.job; state = record { slots = slots; stopped = b.state.stopped } }) (slots_set (chain_end b.job) all n x ∙ ap (λ slots. set slots n (slot_of (chain_end b.job n) x)) (sym see))

  -- a stand changes, but not for the machine
  pub seen_same : (n : ℕ) (x y : Stand) → n < length all → y ≡ get_or all n y → slot_of (chain_end b.job n) x ≡ slot_of (chain_end b.job n) y → book_view b.job (set all n x) b.state.stopped ≡ b
  seen_same n x y within read same =
      ap (λ slots. record { job = b.job; state = record { slots = slots; stopped = b.state.stopped } })
      (slots_same (chain_end b.job) all n x (same ∙ ap (slot_of (chain_end b.job n)) (get_or_read all n y within read stands.Waiting)) ∙ sym see)

  module _ (n : ℕ) (x : Stand) (within : n < length all) (keeps : Keeps (chain_end b.job n) (left_on b n) x) where
    pub keeps_set : (m : ℕ) → Keeps (chain_end b.job m) (left_on b m) (stand_at (set all n x) m)
    keeps_set m = one (cases_eq m n) where
      one : (m ≡ n) ⊎ (m ≢ n) → Keeps (chain_end b.job m) (left_on b m) (stand_at (set all n x) m)
      one (inl e) =
          subst (λ i. Keeps (chain_end b.job i) (left_on b i) (stand_at (set all n x) i)) (sym e)
          (subst (Keeps (chain_end b.job n) (left_on b n)) (sym (get_or-set_same all n x stands.Waiting within)) keeps)
      one (inr f) = subst (Keeps (chain_end b.job m) (left_on b m)) (sym (get_or-set_other all n m x stands.Waiting f)) (held.each m)

    -- a chain stands otherwise, as done as it was
    pub held_set : is_done (slot_of (chain_end b.job n) x) ≡ is_done (standing b.state n) → IsHeld (record { job = b.job; state = with_slot b.state n (slot_of (chain_end b.job n) x) }) (set all n x)
    held_set same = record { exported = held.exported; each = λ m. subst (λ left. Keeps (chain_end b.job m) left (stand_at (set all n x) m)) (sym (as_many m)) (keeps_set m) } where
      as_many : (m : ℕ) → left_on (record { job = b.job; state = with_slot b.state n (slot_of (chain_end b.job n) x) }) m ≡ left_on b m
      as_many m =
          ap (how_many (is_left b.job (with_slot b.state n (slot_of (chain_end b.job n) x)) m)) (length-set b.state.slots n (slot_of (chain_end b.job n) x))
          ∙ how_many_same (is_left b.job (with_slot b.state n (slot_of (chain_end b.job n) x)) m) (is_left b.job b.state m) (length b.state.slots)
          (λ k h. ap (λ d. is_kid b.job.chains m k && not d) (done_kept b.job b.state n (slot_of (chain_end b.job n) x) (omega (arith, within, seen_long)) same k))

  -- ---- a free chain goes on from an end that is kept

  pub kept_there : IsKept b → (n : ℕ) (h : Head) (x : Stand) → is_free b.job b.state n ≡ true → h ≡ head b.job.chains n → x ≡ get_or all h.above x → end_in x ≡ Some (chain_end b.job (above b.job.chains n))
  kept_there is n h x free e read =
      let within : above b.job.chains n < length all = omega (arith, not_waiting_within b.state (above b.job.chains n) (done_not_waiting _ was.born), seen_long) in
      ap end_in (get_or_read all (above b.job.chains n) x within (read ∙ ap (λ (h : Head). get_or all h.above x) e) stands.Waiting)
      ∙ there (chain_end b.job (above b.job.chains n)) (left_on b (above b.job.chains n)) (stand_at all (above b.job.chains n))
      (ap is_done (sym (seen_at (above b.job.chains n))) ∙ was.born)
      (how_many_some (is_left b.job b.state (above b.job.chains n)) (length b.state.slots) n was.within (ap (λ t. t && not (is_done (standing b.state n))) kid ∙ ap not (waiting_not_done _ was.waiting)))
      (held.each (above b.job.chains n))
    where
      was : Free b.job b.state n
      was = free_is b.job b.state n free

      kid : is_kid b.job.chains (above b.job.chains n) n ≡ true
      kid =
          both_true (nat_lt 0 n) (nat_lt n (length b.job.chains.heads)) (above b.job.chains n == above b.job.chains n)
          (lt-ltb 0 n (not_root b is n Waiting was.within (waiting_not_done _ was.waiting))) (lt-ltb n (length b.job.chains.heads) (omega (arith, was.within, is.count)))
          ∙ eq-eqb (above b.job.chains n) (above b.job.chains n) refl

  -- ---- a chain is handed in

  module _ (is : IsKept b) (k c : ℕ) (had : standing b.state c ≡ Leased k) where
    abbrev a : ℕ
    a = above b.job.chains c

    abbrev next : Kept
    next = then b (Submit k c)

    within : c < length b.state.slots
    within = leased_within b.state c k had

    positive : 0 < c
    positive = not_root b is c Waiting within (ap is_done had)

    apart : a ≢ c
    apart = above_other b is c Waiting within (ap is_done had)

    kid_of : (n : ℕ) → is_kid b.job.chains n c ≡ (a == n)
    kid_of n = both_true (nat_lt 0 c) (nat_lt c (length b.job.chains.heads)) (a == n) (lt-ltb 0 c positive) (lt-ltb c (length b.job.chains.heads) (omega (arith, within, is.count)))

    -- it is left no more
    but : (n : ℕ) → left_on next n + one_if (a == n) ≡ left_on b n
    but n =
        let done = ap (λ d. is_kid b.job.chains n c && not (is_done d)) (slot_set b.state c (Done (chain_end b.job c)) within) ∙ and_false (is_kid b.job.chains n c) in
        let was = ap (λ t. t && not (is_done (standing b.state c))) (kid_of n) ∙ ap (λ d. (a == n) && not d) (ap is_done had) ∙ and_true (a == n) in
        let more = how_many_but (is_left b.job b.state n) (is_left b.job next.state n) (length b.state.slots) c within (λ m f. ap (λ d. is_kid b.job.chains n m && not (is_done d)) (sym (slot_kept b.state c m (Done (chain_end b.job c)) f))) in
        omega (arith, more, ap one_if done, ap one_if was, ap (how_many (is_left b.job next.state n)) (length-set b.state.slots c (Done (chain_end b.job c))))
      where
        and_true : (t : Bool) → (t && true) ≡ t
        and_true true = refl
        and_true false = refl

    as_many : (n : ℕ) → n ≢ a → left_on next n ≡ left_on b n
    as_many n f = omega (arith, but n, ap one_if (not_eq a n (λ e. f (sym e))))

    -- what stands on it was born with it
    kids_left : length (kids b.job.chains c) ≡ left_on next c
    kids_left = all_left b is.chains.forest is.count c undone ∙ sym (as_many c (λ e. apart (sym e))) where
      undone : (m : ℕ) → is_kid b.job.chains c m ≡ true → is_done (standing b.state m) ≡ false
      undone m kid = by (cases_Bool (is_done (standing b.state m))) where
        parts : ((nat_lt 0 m && nat_lt m (length b.job.chains.heads)) ≡ true) × ((above b.job.chains m == c) ≡ true)
        parts = and_parts (nat_lt 0 m && nat_lt m (length b.job.chains.heads)) (above b.job.chains m == c) kid

        by : (is_done (standing b.state m) ≡ true) ⊎ (is_done (standing b.state m) ≡ false) → is_done (standing b.state m) ≡ false
        by (inr f) = f
        by (inl t) =
            let born = is_true _ (is.born m (ltb-true 0 m (and_parts (nat_lt 0 m) (nat_lt m (length b.job.chains.heads)) parts.0).0) (done_not_waiting _ t)) in
            absurd (both_ways (is_done (standing b.state c)) (ap is_done had) (ap (λ i. is_done (standing b.state i)) (sym (eqb-true (above b.job.chains m) c parts.1)) ∙ born))

    pub above_low : a < length all
    above_low = omega (arith, within, seen_long, (is.chains.forest.begins c positive (omega (arith, within, is.count))).below)

    module _ (x y : Stand) (told : Vec Shown Global) (way : Option Way) (read : x ≡ get_or all a x) (fewer : y ≡ passed x) where
      was : y ≡ passed (stand_at all a)
      was = fewer ∙ ap passed (get_or_read all a x above_low read stands.Waiting)

      pub submit_seen : book_view b.job (set (set all a y) c (stands.Done told way)) b.state.stopped ≡ next
      submit_seen = ap (λ slots. record { job = b.job; state = record { slots = slots; stopped = b.state.stopped } })
          (slots_set (chain_end b.job) (set all a y) c (stands.Done told way)
          ∙ ap (λ slots. set slots c (Done (chain_end b.job c))) (slots_same (chain_end b.job) all a y (ap (slot_of (chain_end b.job a)) was ∙ passed_slot (chain_end b.job a) (stand_at all a)) ∙ sym see))

      pub submit_held : All (IsShown (chain_end b.job c)) told.items → way ≡ kept_for (chain_end b.job c) (length (kids b.job.chains c)) → IsHeld next (set (set all a y) c (stands.Done told way))
      submit_held shows kept = record { exported = held.exported; each = λ n. each n (cases_eq n c) (cases_eq n a) } where
        long : c < length (set all a y)
        long = omega (arith, within, seen_long, length-set all a y)

        each : (n : ℕ) → (n ≡ c) ⊎ (n ≢ c) → (n ≡ a) ⊎ (n ≢ a) → Keeps (chain_end b.job n) (left_on next n) (stand_at (set (set all a y) c (stands.Done told way)) n)
        each n (inl e) _ =
            subst (λ i. Keeps (chain_end b.job i) (left_on next i) (stand_at (set (set all a y) c (stands.Done told way)) i)) (sym e)
            (subst (Keeps (chain_end b.job c) (left_on next c)) (sym (get_or-set_same (set all a y) c (stands.Done told way) stands.Waiting long)) (shows, kept ∙ ap (kept_for (chain_end b.job c)) kids_left))
        each n (inr f) (inl e) =
            let here : stand_at (set (set all a y) c (stands.Done told way)) a ≡ passed (stand_at all a) = get_or-set_other (set all a y) c a (stands.Done told way) stands.Waiting apart ∙ get_or-set_same all a y stands.Waiting above_low ∙ was in
            let less : left_on b a ≡ left_on next a + 1 = omega (arith, but a, ap one_if (eq-eqb a a refl)) in
            subst (λ i. Keeps (chain_end b.job i) (left_on next i) (stand_at (set (set all a y) c (stands.Done told way)) i)) (sym e)
            (subst (Keeps (chain_end b.job a) (left_on next a)) (sym here) (passed_keeps (chain_end b.job a) (left_on b a) (left_on next a) (stand_at all a) less (held.each a)))
        each n (inr f) (inr g) =
            let here : stand_at (set (set all a y) c (stands.Done told way)) n ≡ stand_at all n = get_or-set_other (set all a y) c n (stands.Done told way) stands.Waiting f ∙ get_or-set_other all a n y stands.Waiting g in
            subst (Keeps (chain_end b.job n) (left_on next n)) (sym here) (subst (λ left. Keeps (chain_end b.job n) left (stand_at all n)) (sym (as_many n g)) (held.each n))
