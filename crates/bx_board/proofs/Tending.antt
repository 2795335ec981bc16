-- What a board has at hand is kept by each event.
use Rattle.std.proofs.Common.{◌≡◌, ◌≢◌, ◌⊎◌, inl, inr, ℕ, ◌+◌, ◌<◌, ◌≤◌, ◌==◌, ◌&&◌, nat_lt, true, false, cond, Option, None, Some, List, [], ◌∷◌, ◌++◌, length, refl, sym, ap, ◌∙◌, arith}
use Rattle.std.specs.Prelude.{◌↔◌}
use Rattle.std.specs.Ordering.{nat_cmp, is_eq}
use Rattle.std.specs.declared.cmp.Ordering.{Ordering, TheVariants.Less, TheVariants.Equal, TheVariants.Greater}
use Rattle.std.specs.BTreeMap.{BTreeMap, get, is_at, Updates}
use Rattle.std.proofs.lemmas.Map.Lookups.{exact_unsigned}
use Rattle.std.proofs.lemmas.List.{length-set}
use Rattle.std.proofs.lemmas.Bool.{cases_eq, both_ways, eq-eqb, lt-ltb, le-ltb, false_from_ne_true, true_from_ne_false, cases_Bool}
use Rattle.bx_plan.specs.Chains.{above, kids, is_kid, one_if, times}
use Rattle.bx_plan.proofs.Times.{not_eq, times-append, mid_false, both_true, and_false}
use Rattle.bx_board.specs.declared.slots.Event.TheVariants.{Lease, Submit, GiveBack, Stop}
use Rattle.bx_board.specs.Jobs.{Job, end_of, work_of}
use Rattle.bx_board.specs.Machine.{Slot, Waiting, Leased, Done, Frontier, standing, is_waiting, is_leased, is_done, is_free, is_held, is_finished, how_many, Holds, May, with_slot}
use Rattle.bx_board.specs.Kept.{Kept, then}
use Rattle.bx_board.specs.Tended.{IsTended}
use Rattle.bx_board.proofs.Numbers.{how_many_but}
use Rattle.bx_board.proofs.Steps.{below_or_past, is_true, leased_within, slot_set, slot_kept, Free, free_is, is_free_from, waiting_is, kept_then, not_root, above_other}

-- ---- counts of slots of a kind

module _ (s : Frontier) (n : ℕ) (x : Slot) (within : n < length s.slots) where
  pub held_but : how_many (is_held (with_slot s n x)) (length (with_slot s n x).slots) + one_if (is_leased (standing s n)) ≡ how_many (is_held s) (length s.slots) + one_if (is_leased x)
  held_but =
      let but = how_many_but (is_held s) (is_held (with_slot s n x)) (length s.slots) n within (λ m f. sym (ap is_leased (slot_kept s n m x f))) in
      omega (arith, but, ap (λ y. one_if (is_leased y)) (slot_set s n x within), ap (how_many (is_held (with_slot s n x))) (length-set s.slots n x))

  pub finished_but : how_many (is_finished (with_slot s n x)) (length (with_slot s n x).slots) + one_if (is_done (standing s n)) ≡ how_many (is_finished s) (length s.slots) + one_if (is_done x)
  finished_but =
      let but = how_many_but (is_finished s) (is_finished (with_slot s n x)) (length s.slots) n within (λ m f. sym (ap is_done (slot_kept s n m x f))) in
      omega (arith, but, ap (λ y. one_if (is_done y)) (slot_set s n x within), ap (how_many (is_finished (with_slot s n x))) (length-set s.slots n x))

-- ---- which chains are free

module _ (job : Job) (s : Frontier) (n : ℕ) (x : Slot) where
  -- another chain is as free as it was, where the one that it stands on is as done as it was
  free_kept : (m : ℕ) → m ≢ n → is_done (standing (with_slot s n x) (above job.chains m)) ≡ is_done (standing s (above job.chains m)) → is_free job (with_slot s n x) m ≡ is_free job s m
  free_kept m f same =
      ap (λ i. nat_lt m i && is_waiting (standing (with_slot s n x) m) && is_done (standing (with_slot s n x) (above job.chains m))) (length-set s.slots n x)
      ∙ ap (λ y. nat_lt m (length s.slots) && is_waiting y && is_done (standing (with_slot s n x) (above job.chains m))) (slot_kept s n m x f)
      ∙ ap (λ b. nat_lt m (length s.slots) && is_waiting (standing s m) && b) same

  -- it is as done as it was, where the slot that changes is
  pub done_kept : n < length s.slots → is_done x ≡ is_done (standing s n) → (m : ℕ) → is_done (standing (with_slot s n x) m) ≡ is_done (standing s m)
  done_kept within same m = one (cases_eq m n) where
    one : (m ≡ n) ⊎ (m ≢ n) → is_done (standing (with_slot s n x) m) ≡ is_done (standing s m)
    one (inl e) = ap (λ i. is_done (standing (with_slot s n x) i)) e ∙ ap is_done (slot_set s n x within) ∙ same ∙ ap (λ i. is_done (standing s i)) (sym e)
    one (inr e) = ap is_done (slot_kept s n m x e)

  pub free_same : n < length s.slots → is_done x ≡ is_done (standing s n) → (m : ℕ) → m ≢ n → is_free job (with_slot s n x) m ≡ is_free job s m
  free_same within same m f = free_kept m f (done_kept within same (above job.chains m))

pub done_waits : (x : Slot) → is_done x ≡ true → is_waiting x ≡ false
done_waits Waiting h = cc
done_waits (Leased k) h = refl
done_waits (Done e) h = refl

pub free_waits : (job : Job) (s : Frontier) (n : ℕ) → is_waiting (standing s n) ≡ false → is_free job s n ≡ false
free_waits job s n h = mid_false (nat_lt n (length s.slots)) (is_waiting (standing s n)) (is_done (standing s (above job.chains n))) h

-- ---- a lease: the last of the free chains is taken

times_last : (n m : ℕ) → times m (n ∷ []) ≡ one_if (n == m)
times_last n m = omega arith

module _ (b : Kept) (ready : List ℕ) (holders : BTreeMap ℕ ℕ) (leased done : ℕ) (is : IsTended b ready holders leased done) where
  -- what stands last in the row is free
  pub last_free : (front : List ℕ) (n : ℕ) → ready ≡ front ++ n ∷ [] → is_free b.job b.state n ≡ true
  last_free front n e = one (cases_Bool (is_free b.job b.state n)) where
    one : (is_free b.job b.state n ≡ true) ⊎ (is_free b.job b.state n ≡ false) → is_free b.job b.state n ≡ true
    one (inl t) = t
    one (inr f) = absurd (omega (arith, is.free n, ap (times n) e, times-append n front (n ∷ []), times_last n n, ap one_if (eq-eqb n n refl), ap one_if f))

  -- where the row is empty, nothing is free
  pub none_free : ready ≡ [] → (n : ℕ) → is_free b.job b.state n ≡ false
  none_free e n = false_from_ne_true (is_free b.job b.state n) (λ t. absurd (omega (arith, is.free n, ap (times n) e, ap one_if t)))

  -- a worker that is not among the holders holds nothing
  pub holds_none : (k : ℕ) → get nat_cmp holders k ≡ None → Holds b.state k → ⊥
  holds_none k e h = let there = (is.held k h.0).1 h.1 in cc

-- a look-up in a map that was changed at one key
equal_is : (o : Ordering) → is_eq o ≡ true → o ≡ Equal
equal_is Less h = cc
equal_is Equal h = refl
equal_is Greater h = cc

at_key : (holders more : BTreeMap ℕ ℕ) (k : ℕ) (v : Option ℕ) → Updates nat_cmp holders more k v → get nat_cmp more k ≡ v
at_key holders more k v u = u.1

other_key : (holders more : BTreeMap ℕ ℕ) (k : ℕ) (v : Option ℕ) → Updates nat_cmp holders more k v → (j : ℕ) → j ≢ k → get nat_cmp more j ≡ get nat_cmp holders j
other_key holders more k v u j f =
    u.0 j ∙ ap (λ t. cond t v (get nat_cmp holders j)) (false_from_ne_true (is_at (nat_cmp k) j) (λ t. f (sym (exact_unsigned k j (same_at k j t))))) where
      same_at : (a b : ℕ) → is_at (nat_cmp a) b ≡ true → nat_cmp a b ≡ Equal
      same_at a b t = equal_is (nat_cmp a b) t

-- ---- the events

-- the slot of a chain that was handed in
abbrev finished : Kept → ℕ → Slot
finished b n = Done (end_of (work_of b.job n))

module _ (b : Kept) (ready : List ℕ) (holders : BTreeMap ℕ ℕ) (leased done : ℕ) (is : IsTended b ready holders leased done) where
  -- a slot that isn't leased changes to one that is
  pub tended_lease : (k n : ℕ) (front : List ℕ) (more : BTreeMap ℕ ℕ) → May b.job b.state (Lease k n) → ready ≡ front ++ n ∷ [] → Updates nat_cmp holders more k (Some n)
      → IsTended (then b (Lease k n)) front more (leased + 1) done
  tended_lease k n front more may e up = record {
    kept = kept_then b (Lease k n) is.kept may;
    free = free;
    held = held;
    some_leased = omega (arith, is.some_leased, held_but b.state n (Leased k) was.within, ap (λ y. one_if (is_leased y)) idle);
    some_done = omega (arith, is.some_done, finished_but b.state n (Leased k) was.within, ap (λ y. one_if (is_done y)) idle);
  } where
    was : Free b.job b.state n
    was = free_is b.job b.state n (is_true _ may.0)

    idle : standing b.state n ≡ Waiting
    idle = waiting_is _ was.waiting

    free : (m : ℕ) → times m front ≡ one_if (is_free b.job (with_slot b.state n (Leased k)) m)
    free m = one (cases_eq m n) where
      all : times m front + one_if (n == m) ≡ one_if (is_free b.job b.state m)
      all = omega (arith, is.free m, ap (times m) e, times-append m front (n ∷ []), times_last n m)

      one : (m ≡ n) ⊎ (m ≢ n) → times m front ≡ one_if (is_free b.job (with_slot b.state n (Leased k)) m)
      one (inl f) =
          let gone = free_waits b.job (with_slot b.state n (Leased k)) m (ap (λ i. is_waiting (standing (with_slot b.state n (Leased k)) i)) f ∙ ap is_waiting (slot_set b.state n (Leased k) was.within)) in
          omega (arith, all, ap one_if gone, ap one_if (eq-eqb n m (sym f)), ap (λ i. one_if (is_free b.job b.state i)) f, ap one_if (is_true _ may.0))
      one (inr f) = omega (arith, all, ap one_if (not_eq n m (λ g. f (sym g))), ap one_if (free_same b.job b.state n (Leased k) was.within (ap is_done (sym idle)) m f))

    held : (j m : ℕ) → (get nat_cmp more j ≡ Some m) ↔ (standing (with_slot b.state n (Leased k)) m ≡ Leased j)
    held j m = one (cases_eq j k) (cases_eq m n) where
      one : (j ≡ k) ⊎ (j ≢ k) → (m ≡ n) ⊎ (m ≢ n) → (get nat_cmp more j ≡ Some m) ↔ (standing (with_slot b.state n (Leased k)) m ≡ Leased j)
      one (inl f) (inl g) = (
        λ _. ap (standing (with_slot b.state n (Leased k))) g ∙ slot_set b.state n (Leased k) was.within ∙ ap (λ i. Leased i) (sym f),
        λ _. ap (get nat_cmp more) f ∙ at_key holders more k (Some n) up ∙ ap (λ i. Some i) (sym g),
      )
      one (inl f) (inr g) = (
        λ h. let there : Some n ≡ Some m = sym (at_key holders more k (Some n) up) ∙ ap (get nat_cmp more) (sym f) ∙ h in let same : n ≡ m = cc in absurd (g (sym same)),
        λ h. absurd (may.2 (m, sym (slot_kept b.state n m (Leased k) g) ∙ h ∙ ap (λ i. Leased i) f)),
      )
      one (inr f) (inl g) = (
        λ h. let taken : standing b.state n ≡ Leased j = ap (standing b.state) (sym g) ∙ (is.held j m).0 (sym (other_key holders more k (Some n) up j f) ∙ h) in let none : Waiting ≡ Leased j = sym idle ∙ taken in cc,
        λ h. let now : Leased k ≡ Leased j = sym (ap (standing (with_slot b.state n (Leased k))) g ∙ slot_set b.state n (Leased k) was.within) ∙ h in let same : k ≡ j = cc in absurd (f (sym same)),
      )
      one (inr f) (inr g) = (
        λ h. slot_kept b.state n m (Leased k) g ∙ (is.held j m).0 (sym (other_key holders more k (Some n) up j f) ∙ h),
        λ h. other_key holders more k (Some n) up j f ∙ (is.held j m).1 (sym (slot_kept b.state n m (Leased k) g) ∙ h),
      )

  -- what a worker held is held no more
  held_less : (k n : ℕ) (x : Slot) (fewer : BTreeMap ℕ ℕ) → standing b.state n ≡ Leased k → is_leased x ≡ false → Updates nat_cmp holders fewer k None
      → (j m : ℕ) → (get nat_cmp fewer j ≡ Some m) ↔ (standing (with_slot b.state n x) m ≡ Leased j)
  held_less k n x fewer had unheld up j m = one (cases_eq j k) (cases_eq m n) where
    within : n < length b.state.slots
    within = leased_within b.state n k had

    mine : get nat_cmp holders k ≡ Some n
    mine = (is.held k n).1 had

    here : m ≡ n → standing (with_slot b.state n x) m ≡ Leased j → ⊥
    here g h = let now : x ≡ Leased j = sym (ap (standing (with_slot b.state n x)) g ∙ slot_set b.state n x within) ∙ h in both_ways (is_leased x) unheld (ap is_leased now)

    one : (j ≡ k) ⊎ (j ≢ k) → (m ≡ n) ⊎ (m ≢ n) → (get nat_cmp fewer j ≡ Some m) ↔ (standing (with_slot b.state n x) m ≡ Leased j)
    one (inl f) (inl g) = (λ h. let none : None ≡ Some m = sym (at_key holders fewer k None up) ∙ ap (get nat_cmp fewer) (sym f) ∙ h in cc, λ h. absurd (here g h))
    one (inl f) (inr g) = (
      λ h. let none : None ≡ Some m = sym (at_key holders fewer k None up) ∙ ap (get nat_cmp fewer) (sym f) ∙ h in cc,
      λ h. let there : Some n ≡ Some m = sym mine ∙ (is.held k m).1 (sym (slot_kept b.state n m x g) ∙ h ∙ ap (λ i. Leased i) f) in let same : n ≡ m = cc in absurd (g (sym same)),
    )
    one (inr f) (inl g) = (
      λ h. let taken : Leased k ≡ Leased j = sym had ∙ ap (standing b.state) (sym g) ∙ (is.held j m).0 (sym (other_key holders fewer k None up j f) ∙ h) in let same : k ≡ j = cc in absurd (f (sym same)),
      λ h. absurd (here g h),
    )
    one (inr f) (inr g) = (
      λ h. slot_kept b.state n m x g ∙ (is.held j m).0 (sym (other_key holders fewer k None up j f) ∙ h),
      λ h. other_key holders fewer k None up j f ∙ (is.held j m).1 (sym (slot_kept b.state n m x g) ∙ h),
    )

  pub tended_back : (k n : ℕ) (more : List ℕ) (fewer : BTreeMap ℕ ℕ) (less : ℕ) → standing b.state n ≡ Leased k → more ≡ ready ++ n ∷ [] → Updates nat_cmp holders fewer k None → less + 1 ≡ leased
      → IsTended (then b (GiveBack k n)) more fewer less done
  tended_back k n more fewer less had e up fewer_by = record {
    kept = kept_then b (GiveBack k n) is.kept had;
    free = free;
    held = held_less k n Waiting fewer had refl up;
    some_leased = omega (arith, is.some_leased, fewer_by, held_but b.state n Waiting within, ap (λ y. one_if (is_leased y)) had);
    some_done = omega (arith, is.some_done, finished_but b.state n Waiting within, ap (λ y. one_if (is_done y)) had);
  } where
    within : n < length b.state.slots
    within = leased_within b.state n k had

    born : is_done (standing b.state (above b.job.chains n)) ≡ true
    born = is_true _ (is.kept.born n (not_root b is.kept n Waiting within (ap is_done had)) (ap is_waiting had))

    free : (m : ℕ) → times m more ≡ one_if (is_free b.job (with_slot b.state n Waiting) m)
    free m = one (cases_eq m n) where
      all : times m more ≡ one_if (is_free b.job b.state m) + one_if (n == m)
      all = omega (arith, is.free m, ap (times m) e, times-append m ready (n ∷ []), times_last n m)

      one : (m ≡ n) ⊎ (m ≢ n) → times m more ≡ one_if (is_free b.job (with_slot b.state n Waiting) m)
      one (inl f) =
          let now : is_free b.job (with_slot b.state n Waiting) n ≡ true =
          is_free_from b.job (with_slot b.state n Waiting) n (omega (arith, within, length-set b.state.slots n Waiting)) (ap is_waiting (slot_set b.state n Waiting within))
          (done_kept b.job b.state n Waiting within (sym (ap is_done had)) (above b.job.chains n) ∙ born) in
          omega (arith, all, ap one_if (eq-eqb n m (sym f)), ap (λ i. one_if (is_free b.job b.state i)) f, ap one_if (free_waits b.job b.state n (ap is_waiting had)), ap (λ i. one_if (is_free b.job (with_slot b.state n Waiting) i)) f, ap one_if now)
      one (inr f) = omega (arith, all, ap one_if (not_eq n m (λ g. f (sym g))), ap one_if (free_same b.job b.state n Waiting within (sym (ap is_done had)) m f))

  pub tended_submit : (k n : ℕ) (more : List ℕ) (fewer : BTreeMap ℕ ℕ) (less : ℕ) → standing b.state n ≡ Leased k → more ≡ ready ++ kids b.job.chains n → Updates nat_cmp holders fewer k None → less + 1 ≡ leased
      → IsTended (then b (Submit k n)) more fewer less (done + 1)
  tended_submit k n more fewer less had e up fewer_by = record {
    kept = kept_then b (Submit k n) is.kept had;
    free = free;
    held = held_less k n (finished b n) fewer had refl up;
    some_leased = omega (arith, is.some_leased, fewer_by, held_but b.state n (finished b n) within, ap (λ y. one_if (is_leased y)) had);
    some_done = omega (arith, is.some_done, finished_but b.state n (finished b n) within, ap (λ y. one_if (is_done y)) had);
  } where
    within : n < length b.state.slots
    within = leased_within b.state n k had

    apart : above b.job.chains n ≢ n
    apart = above_other b is.kept n (finished b n) within (ap is_done had)

    free : (m : ℕ) → times m more ≡ one_if (is_free b.job (with_slot b.state n (finished b n)) m)
    free m = one (cases_eq m n) (cases_eq (above b.job.chains m) n) where
      all : times m more ≡ one_if (is_free b.job b.state m) + one_if (is_kid b.job.chains n m)
      all = omega (arith, is.free m, ap (times m) e, times-append m ready (kids b.job.chains n), is.kept.chains.forest.kids n m)

      no_kid : above b.job.chains m ≢ n → is_kid b.job.chains n m ≡ false
      no_kid f = ap (λ t. nat_lt 0 m && nat_lt m (length b.job.chains.heads) && t) (not_eq (above b.job.chains m) n f) ∙ and_false (nat_lt 0 m && nat_lt m (length b.job.chains.heads))

      -- a chain on the one that was held has waited
      kid : m ≢ n → above b.job.chains m ≡ n → one_if (is_free b.job b.state m) + one_if (is_kid b.job.chains n m) ≡ one_if (is_free b.job (with_slot b.state n (finished b n)) m)
      kid f g = two (below_or_past m (length b.state.slots)) (cases_eq m 0) where
        unborn : is_free b.job b.state m ≡ false
        unborn = ap (λ t. nat_lt m (length b.state.slots) && is_waiting (standing b.state m) && t) (ap (λ i. is_done (standing b.state i)) g ∙ ap is_done had) ∙ and_false (nat_lt m (length b.state.slots) && is_waiting (standing b.state m))

        two : (m < length b.state.slots) ⊎ (length b.state.slots ≤ m) → (m ≡ 0) ⊎ (m ≢ 0) → one_if (is_free b.job b.state m) + one_if (is_kid b.job.chains n m) ≡ one_if (is_free b.job (with_slot b.state n (finished b n)) m)
        two (inl l) (inl z) =
            let root : is_free b.job (with_slot b.state n (finished b n)) m ≡ false =
            free_waits b.job (with_slot b.state n (finished b n)) m (ap is_waiting (slot_kept b.state n m (finished b n) f) ∙ ap (λ i. is_waiting (standing b.state i)) z ∙ done_waits _ (is_true _ is.kept.root)) in
            let no : is_kid b.job.chains n m ≡ false = ap (λ t. t && nat_lt m (length b.job.chains.heads) && (above b.job.chains m == n)) (le-ltb 0 m (omega (arith, z))) in
            omega (arith, ap one_if unborn, ap one_if root, ap one_if no)
        two (inl l) (inr z) =
            let waits : is_waiting (standing b.state m) ≡ true = true_from_ne_false (is_waiting (standing b.state m)) (λ h.
            both_ways (is_done (standing b.state n)) (ap is_done had) (sym (ap (λ i. is_done (standing b.state i)) g) ∙ is_true _ (is.kept.born m (omega (arith, z)) h))) in
            let now : is_free b.job (with_slot b.state n (finished b n)) m ≡ true =
            is_free_from b.job (with_slot b.state n (finished b n)) m (omega (arith, l, length-set b.state.slots n (finished b n))) (ap is_waiting (slot_kept b.state n m (finished b n) f) ∙ waits)
            (ap (λ i. is_done (standing (with_slot b.state n (finished b n)) i)) g ∙ ap is_done (slot_set b.state n (finished b n) within)) in
            let yes : is_kid b.job.chains n m ≡ true =
            both_true (nat_lt 0 m) (nat_lt m (length b.job.chains.heads)) (above b.job.chains m == n) (lt-ltb 0 m (omega (arith, z))) (lt-ltb m (length b.job.chains.heads) (omega (arith, l, is.kept.count))) ∙ eq-eqb (above b.job.chains m) n g in
            omega (arith, ap one_if unborn, ap one_if now, ap one_if yes)
        two (inr p) _ =
            let past : is_free b.job (with_slot b.state n (finished b n)) m ≡ false = ap (λ t. t && is_waiting (standing (with_slot b.state n (finished b n)) m) && is_done (standing (with_slot b.state n (finished b n)) (above b.job.chains m))) (le-ltb m (length (with_slot b.state n (finished b n)).slots) (omega (arith, p, length-set b.state.slots n (finished b n)))) in
            let no : is_kid b.job.chains n m ≡ false = mid_false (nat_lt 0 m) (nat_lt m (length b.job.chains.heads)) (above b.job.chains m == n) (le-ltb m (length b.job.chains.heads) (omega (arith, p, is.kept.count))) in
            omega (arith, ap one_if unborn, ap one_if past, ap one_if no)

      one : (m ≡ n) ⊎ (m ≢ n) → (above b.job.chains m ≡ n) ⊎ (above b.job.chains m ≢ n) → times m more ≡ one_if (is_free b.job (with_slot b.state n (finished b n)) m)
      one (inl f) _ =
          let gone = free_waits b.job (with_slot b.state n (finished b n)) m (ap (λ i. is_waiting (standing (with_slot b.state n (finished b n)) i)) f ∙ ap is_waiting (slot_set b.state n (finished b n) within)) in
          let no = no_kid (λ g. apart (ap (above b.job.chains) (sym f) ∙ g)) in
          omega (arith, all, ap one_if gone, ap one_if no, ap (λ i. one_if (is_free b.job b.state i)) f, ap one_if (free_waits b.job b.state n (ap is_waiting had)))
      one (inr f) (inl g) = all ∙ kid f g
      one (inr f) (inr g) =
          let same = free_kept b.job b.state n (finished b n) m f (ap is_done (slot_kept b.state n (above b.job.chains m) (finished b n) g)) in
          omega (arith, all, ap one_if (no_kid g), ap one_if same)

  pub tended_stop : b.state.stopped ≡ false → IsTended (then b Stop) ready holders leased done
  tended_stop may = record {
    kept = kept_then b Stop is.kept may;
    free = is.free;
    held = is.held;
    some_leased = is.some_leased;
    some_done = is.some_done;
  }
