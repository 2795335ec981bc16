-- What a book keeps with each event.
use Rattle.std.proofs.Common.{◌≡◌, ℕ, zero, suc, ◌+◌, ◌-◌, ◌<◌, ◌≤◌, ◌==◌, ◌&&◌, not, nat_lt, Bool, true, false, Global, Vec, Option, None, Some, is_some, List, [], ◌∷◌, ◌++◌, get_or, length, set, slice_get, take, refl, sym, ap, subst, ◌∙◌, arith, length-append}
use Rattle.std.specs.Prelude.{◌↔◌, IsTrue}
use Rattle.std.specs.Ordering.{nat_cmp}
use Rattle.std.specs.BTreeMap.{BTreeMap, get, is_at, Updates, IsUnchanged}
use Rattle.std.specs.Map.{lookup}
use Rattle.std.proofs.lemmas.List.{length-set}
use Rattle.std.proofs.lemmas.Bool.{eq-eqb, eqb-true, le-ltb, lt-ltb, true_from_ne_false}
use Rattle.std.specs.List.{All}
use Rattle.bx_plan.specs.declared.chains.Head.{Head}
use Rattle.bx_plan.specs.Chains.{above, head, kids, chain_count, one_if}
use Rattle.bx_board.specs.declared.books.stands.Stand.{Stand}
use Rattle.bx_board.specs.declared.books.stands.Stand.TheVariants as stands
use Rattle.bx_board.specs.declared.books.stands.Way.{Way}
use Rattle.bx_board.specs.declared.reports.Shown.{Shown}
use Rattle.bx_board.specs.declared.slots.Counts.{Counts}
use Rattle.bx_board.specs.declared.slots.Event.TheVariants.{Lease, Submit}
use Rattle.bx_board.specs.Alone.{IsUnheld}
use Rattle.bx_board.specs.Counted.{counts_of}
use Rattle.bx_board.specs.Jobs.{Job, chain_end}
use Rattle.bx_board.specs.Kept.{Kept, IsAllDone, then}
use Rattle.bx_board.specs.Machine.{Slot, Waiting, Leased, Done, Frontier, standing, is_waiting, is_leased, is_done, is_free, is_unborn, is_held, is_finished, how_many, May}
use Rattle.bx_board.specs.Reported.{IsShown}
use Rattle.bx_board.specs.Stands.{IsHeld, Keeps, book_view, kept_for, left_on, passed, slot_of, slots_of}
use Rattle.bx_board.specs.Tended.{IsTended}
use Rattle.bx_board.proofs.Found.{empty_is, none_is, some_last, split_last}
use Rattle.bx_board.proofs.Holding.{held_set, keeps_set, seen_long, seen_same, seen_set, submit_held, submit_seen}
use Rattle.bx_board.proofs.RowLengths.{length_many, how_many_low, how_many_less, how_many_some}
use Rattle.bx_board.proofs.Steps.{free_is, is_true, true_is, leased_within, waiting_is}
use Rattle.bx_board.proofs.Tending.{last_free, none_free, free_waits, done_waits, holds_none, tended_lease, tended_back, tended_submit, tended_stop}

module _ (b : Kept) (ready : List ℕ) (holders : BTreeMap ℕ ℕ) (leased done : ℕ) (is : IsTended b ready holders leased done) where
  -- the row is as long as there are free chains
  pub ready_many : length ready ≡ how_many (is_free b.job b.state) (length b.state.slots)
  ready_many = length_many (is_free b.job b.state) ready (length b.state.slots) is.free past where
    past : (n : ℕ) → length b.state.slots ≤ n → is_free b.job b.state n ≡ false
    past n h = ap (λ t. t && is_waiting (standing b.state n) && is_done (standing b.state (above b.job.chains n))) (le-ltb n (length b.state.slots) h)

  pub ready_low : length ready ≤ length b.state.slots
  ready_low = omega (arith, ready_many, how_many_low (is_free b.job b.state) (length b.state.slots))

  -- and it leaves room for one more, as the root is not free
  pub room_one : length ready < length b.state.slots
  room_one = omega (arith, ready_many, how_many_less (is_free b.job b.state) (length b.state.slots) 0 (omega (arith, is.kept.count, is.kept.chains.forest.some)) (free_waits b.job b.state 0 (done_waits _ (is_true _ is.kept.root))))

  pub done_low : done ≤ length b.state.slots
  done_low = omega (arith, is.some_done, how_many_low (is_finished b.state) (length b.state.slots))

  -- the last of the row is free
  pub top_is : (n : ℕ) → slice_get ready (length ready - 1) ≡ Some n → ready ≡ take (length ready - 1) ready ++ n ∷ []
  top_is n h = split_last ready (length ready - 1) n (some_last ready (length ready - 1) n refl h) h

  pub top_free : (n : ℕ) → slice_get ready (length ready - 1) ≡ Some n → is_free b.job b.state n ≡ true
  top_free n h = last_free b ready holders leased done is (take (length ready - 1) ready) n (top_is n h)

  -- and may be leased to a worker that holds none
  pub may_top : (k n : ℕ) → b.state.stopped ≡ false → is_some (get nat_cmp holders k) ≡ false → slice_get ready (length ready - 1) ≡ Some n → May b.job b.state (Lease k n)
  may_top k n going alone h = (true_is _ (top_free n h), going, holds_none b ready holders leased done is k (none_is _ alone))

  pub none_left : slice_get ready (length ready - 1) ≡ None → (n : ℕ) → is_free b.job b.state n ≡ false
  none_left h = none_free b ready holders leased done is (empty_is ready (length ready - 1) refl h)

  -- a map with the same entries serves as well
  pub same_holders : (same : BTreeMap ℕ ℕ) → IsUnchanged holders same → IsTended b ready same leased done
  same_holders same e = record {
    kept = is.kept;
    free = is.free;
    held = λ k n. (λ h. (is.held k n).0 (sym (look k) ∙ h), λ h. look k ∙ (is.held k n).1 h);
    some_leased = is.some_leased;
    some_done = is.some_done;
  } where
    look : (k : ℕ) → get nat_cmp same k ≡ get nat_cmp holders k
    look k = ap (lookup (is_at (nat_cmp k))) e

no_entries : (entries : List (ℕ × ℕ)) → (0 < length entries → false ≡ true) → entries ≡ []
no_entries [] h = refl
no_entries (one ∷ more) h = let no : false ≡ true = h (omega arith) in cc

-- where the map is empty, nobody holds a chain
pub unheld_by : (b : Kept) (ready : List ℕ) (holders : BTreeMap ℕ ℕ) (leased done : ℕ) → IsTended b ready holders leased done → (0 < length holders.entries → false ≡ true) → IsUnheld b
unheld_by b ready holders leased done is h k held =
    let there : get nat_cmp holders k ≡ Some held.0 = (is.held k held.0).1 held.1 in
    let empty : get nat_cmp holders k ≡ None = ap (lookup (is_at (nat_cmp k))) (no_entries holders.entries h) in
    cc

-- ---- each chain stands in one of four ways

module _ (job : Job) (s : Frontier) where
  one_way : (n : ℕ) → n < length s.slots → one_if (is_unborn job s n) + one_if (is_free job s n) + one_if (is_held s n) + one_if (is_finished s n) ≡ 1
  one_way n h = by (nat_lt n (length s.slots)) (lt-ltb n (length s.slots) h) (standing s n) (is_done (standing s (above job.chains n))) where
    by : (w : Bool) → w ≡ true → (x : Slot) (d : Bool) → one_if (w && is_waiting x && not d) + one_if (w && is_waiting x && d) + one_if (is_leased x) + one_if (is_done x) ≡ 1
    by true e Waiting true = refl
    by true e Waiting false = refl
    by true e (Leased k) true = refl
    by true e (Leased k) false = refl
    by true e (Done f) true = refl
    by true e (Done f) false = refl
    by false e x d = cc

  pub four_ways : (bound : ℕ) → bound ≤ length s.slots → how_many (is_unborn job s) bound + how_many (is_free job s) bound + how_many (is_held s) bound + how_many (is_finished s) bound ≡ bound
  four_ways zero h = refl
  four_ways (suc n) h = omega (arith, four_ways n (omega (arith, h)), one_way n h)

-- what the numbers at hand come to
pub ways_sum : (b : Kept) (ready : List ℕ) (holders : BTreeMap ℕ ℕ) (leased done : ℕ) → IsTended b ready holders leased done → how_many (is_unborn b.job b.state) (length b.state.slots) + length ready + leased + done ≡ length b.state.slots
ways_sum b ready holders leased done is = omega (arith, four_ways b.job b.state (length b.state.slots) (omega arith), ready_many b ready holders leased done is, is.some_leased, is.some_done)

pub counted : (b : Kept) (ready : List ℕ) (holders : BTreeMap ℕ ℕ) (leased done unborn free : ℕ) → IsTended b ready holders leased done → free ≡ length ready → unborn + free + leased + done ≡ length b.state.slots
    → record { unborn = unborn; free = free; leased = leased; done = done } ≡ counts_of b
counted b ready holders leased done unborn free is f sum =
    let first : unborn ≡ how_many (is_unborn b.job b.state) (length b.state.slots) = omega (arith, sum, f, ways_sum b ready holders leased done is) in
    let second : free ≡ how_many (is_free b.job b.state) (length b.state.slots) = f ∙ ready_many b ready holders leased done is in
    all_same unborn _ free _ leased _ done _ first second is.some_leased is.some_done
  where
    all_same : (u v f g l m d e : ℕ) → u ≡ v → f ≡ g → l ≡ m → d ≡ e → ◌≡◌ {A = Counts} (record { unborn = u; free = f; leased = l; done = d }) (record { unborn = v; free = g; leased = m; done = e })
    all_same u v f g l m d e p q r s = cc

-- ---- all chains are done

all_or_less : (p : ℕ → Bool) (bound : ℕ) → ((n : ℕ) → n < bound → p n ≡ true) → how_many p bound ≡ bound
all_or_less p zero all = refl
all_or_less p (suc n) all = omega (arith, all_or_less p n (λ m h. all m (omega (arith, h))), ap one_if (all n (omega arith)))

pub all_done : (b : Kept) → length b.state.slots ≡ chain_count b.job.chains → how_many (is_finished b.state) (length b.state.slots) ≡ length b.state.slots → IsAllDone b
all_done b count e n h = true_is _ (true_from_ne_false (is_finished b.state n) (λ f. absurd (omega (arith, e, how_many_less (is_finished b.state) (length b.state.slots) n (omega (arith, h, count)) f))))

pub done_all : (b : Kept) → length b.state.slots ≡ chain_count b.job.chains → IsAllDone b → how_many (is_finished b.state) (length b.state.slots) ≡ length b.state.slots
done_all b count all = all_or_less (is_finished b.state) (length b.state.slots) (λ n h. is_true _ (all n (omega (arith, h, count))))

-- ---- the events, as a book keeps them

abbrev pub AreKept : Kept → List Stand → List ℕ → BTreeMap ℕ ℕ → ℕ → ℕ → Type 0
AreKept b all ready holders leased done = IsTended b ready holders leased done × IsHeld b all

module _ {b : Kept} {ready : List ℕ} {holders : BTreeMap ℕ ℕ} {leased done : ℕ} (is : IsTended b ready holders leased done) where
  -- who holds a chain is counted
  pub some_held : (k n : ℕ) → standing b.state n ≡ Leased k → 0 < leased
  some_held k n had = omega (arith, is.some_leased, how_many_some (is_held b.state) (length b.state.slots) n (leased_within b.state n k had) (ap is_leased had))

  -- the chain that is held isn't done
  pub some_undone : (k n : ℕ) → standing b.state n ≡ Leased k → done < length b.state.slots
  some_undone k n had = omega (arith, is.some_done, how_many_less (is_finished b.state) (length b.state.slots) n (leased_within b.state n k had) (ap is_done had))

  -- there is room for what stands on it
  pub kids_room : (k n : ℕ) (map : BTreeMap ℕ ℕ) → standing b.state n ≡ Leased k → Updates nat_cmp holders map k None → length ready + length (kids b.job.chains n) ≤ length b.state.slots
  kids_room k n map had up =
      let next = tended_submit b ready holders leased done is k n (ready ++ kids b.job.chains n) map (leased - 1) had refl up (omega (arith, some_held k n had)) in
      let low = ready_low (then b (Submit k n)) (ready ++ kids b.job.chains n) map (leased - 1) (done + 1) next in
      omega (arith, low, length-append ready (kids b.job.chains n), length-set b.state.slots n (Done (chain_end b.job n)))

  module _ {all : List Stand} (held : IsHeld b all) (see : b.state.slots ≡ slots_of (chain_end b.job) all) where
    pub view_stop : b.state.stopped ≡ false → AreKept (book_view b.job all true) all ready holders leased done
    view_stop may =
        subst (λ c. AreKept c all ready holders leased done) (ap (λ slots. record { job = b.job; state = record { slots = slots; stopped = true } }) see)
        (tended_stop b ready holders leased done is may, record { exported = held.exported; each = held.each })

    pub view_lease : (k n : ℕ) (row : List ℕ) (map : BTreeMap ℕ ℕ) → May b.job b.state (Lease k n) → ready ≡ row ++ n ∷ [] → Updates nat_cmp holders map k (Some n)
        → AreKept (book_view b.job (set all n (stands.Leased k)) b.state.stopped) (set all n (stands.Leased k)) row map (leased + 1) done
    view_lease k n row map may front up =
        let was = free_is b.job b.state n (is_true _ may.0) in
        subst (λ c. AreKept c (set all n (stands.Leased k)) row map (leased + 1) done) (sym (seen_set held see n (stands.Leased k)))
        (tended_lease b ready holders leased done is k n row map may front up, held_set held see n (stands.Leased k) (omega (arith, was.within, seen_long held see)) tt (ap is_done (sym (waiting_is _ was.waiting))))

    pub view_back : (k n : ℕ) (row : List ℕ) (map : BTreeMap ℕ ℕ) → standing b.state n ≡ Leased k → row ≡ ready ++ n ∷ [] → Updates nat_cmp holders map k None
        → AreKept (book_view b.job (set all n stands.Waiting) b.state.stopped) (set all n stands.Waiting) row map (leased - 1) done
    view_back k n row map had more up =
        subst (λ c. AreKept c (set all n stands.Waiting) row map (leased - 1) done) (sym (seen_set held see n stands.Waiting))
        (tended_back b ready holders leased done is k n row map (leased - 1) had more up (omega (arith, some_held k n had)), held_set held see n stands.Waiting (omega (arith, leased_within b.state n k had, seen_long held see)) tt (ap is_done (sym had)))

    module _ (k n : ℕ) (had : standing b.state n ≡ Leased k) (h : Head) (x y : Stand) (told : Vec Shown Global) (way : Option Way) (is_head : h ≡ head b.job.chains n) (read : x ≡ get_or all h.above x) (fewer : y ≡ passed x) where
      abbrev after : List Stand
      after = set (set all h.above y) n (stands.Done told way)

      pub submit_view : book_view b.job after b.state.stopped ≡ then b (Submit k n)
      submit_view = ap (λ (g : Head). book_view b.job (set (set all g.above y) n (stands.Done told way)) b.state.stopped) is_head ∙ submit_seen held see is.kept k n had x y told way (read ∙ ap (λ (g : Head). get_or all g.above x) is_head) fewer

      pub view_submit : (row : List ℕ) (map : BTreeMap ℕ ℕ) → row ≡ ready ++ kids b.job.chains n → Updates nat_cmp holders map k None → All (IsShown (chain_end b.job n)) told.items → way ≡ kept_for (chain_end b.job n) (length (kids b.job.chains n))
          → AreKept (book_view b.job after b.state.stopped) after row map (leased - 1) (done + 1)
      view_submit row map more up shows kept =
          subst (λ c. AreKept c after row map (leased - 1) (done + 1)) (sym submit_view) (
            tended_submit b ready holders leased done is k n row map (leased - 1) had more up (omega (arith, some_held k n had)),
            subst (λ (g : Head). IsHeld (then b (Submit k n)) (set (set all g.above y) n (stands.Done told way))) (sym is_head)
                (submit_held held see is.kept k n had x y told way (read ∙ ap (λ (g : Head). get_or all g.above x) is_head) fewer shows kept),
          )

    -- one of what was told is taken
    pub view_taken : (n : ℕ) (x y : Stand) → n < length all → y ≡ get_or all n y → slot_of (chain_end b.job n) x ≡ slot_of (chain_end b.job n) y → Keeps (chain_end b.job n) (left_on b n) x
        → AreKept (book_view b.job (set all n x) b.state.stopped) (set all n x) ready holders leased done
    view_taken n x y within read same keeps =
        subst (λ c. AreKept c (set all n x) ready holders leased done) (sym (seen_same held see n x y within read same)) (is, record { exported = held.exported; each = keeps_set held see n x within keeps })

-- as many are done as there are exactly where all are
pub all_told : (b : Kept) (ready : List ℕ) (holders : BTreeMap ℕ ℕ) (leased done count : ℕ) → IsTended b ready holders leased done → count ≡ length b.state.slots → IsTrue (done == count) ↔ IsAllDone b
all_told b ready holders leased done count is len = (
  λ h. all_done b is.kept.count (omega (arith, eqb-true done count (is_true _ h), len, is.some_done)),
  λ all. true_is _ (eq-eqb done count (omega (arith, len, is.some_done, done_all b is.kept.count all))),
)
