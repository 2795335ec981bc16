-- A campaign to which nothing has happened.
use Rattle.std.proofs.Common.{◌≡◌, ◌≢◌, ◌⊎◌, inl, inr, ℕ, zero, suc, ◌-◌, ◌<◌, ◌≤◌, ◌==◌, ◌&&◌, nat_lt, true, false, Global, Vec, Option, None, Some, List, [], ◌∷◌, get_or, length, replicate, refl, sym, ap, subst, ◌∙◌, arith}
use Rattle.std.specs.Prelude.{IsOk, Ok}
use Rattle.std.specs.List.{All}
use Rattle.std.specs.Ordering.{nat_cmp}
use Rattle.std.specs.BTreeMap.{BTreeMap, is_at}
use Rattle.std.specs.Map.{lookup}
use Rattle.std.proofs.lemmas.List.{length-replicate}
use Rattle.std.proofs.lemmas.Bool.{cases_eq, lt-ltb, le-ltb}
use Rattle.bx_load.specs.Image.{Loaded}
use Rattle.bx_world.specs.World.{State, started}
use Rattle.bx_world.specs.Running.{ran, unchosen}
use Rattle.bx_plan.specs.Planned.{Planned}
use Rattle.bx_plan.specs.Chains.{AreChains, Chained, above, chain_count, is_kid, kids, one_if, path_at}
use Rattle.bx_plan.proofs.Times.{below_or_past, both_true, mid_false, not_eq}
use Rattle.bx_board.specs.declared.books.stands.Stand.{Stand}
use Rattle.bx_board.specs.declared.books.stands.Stand.TheVariants as stands
use Rattle.bx_board.specs.declared.books.stands.Way.{Way}
use Rattle.bx_board.specs.declared.reports.Shown.{Shown}
use Rattle.bx_board.specs.Jobs.{Entry, Job, chain_end, origin, world_or_none}
use Rattle.bx_board.specs.Machine.{Slot, Waiting, Leased, Done, standing, is_waiting, is_leased, is_done, is_free, is_held, how_many, initial}
use Rattle.bx_board.specs.Alone.{IsIdle}
use Rattle.bx_board.specs.Kept.{IsOpening, Kept, begun_with}
use Rattle.bx_board.specs.Reported.{IsShown}
use Rattle.bx_board.specs.Stands.{Keeps, book_view, kept_for, left_on, stand_at}
use Rattle.bx_board.specs.Tended.{IsTended}
use Rattle.bx_board.proofs.Histories.{initial_kept, initial_waits, none_finished}
use Rattle.bx_board.proofs.Holding.{all_left, slots_waiting}
use Rattle.bx_board.proofs.Keeping.{AreKept}
use Rattle.bx_board.proofs.RowLengths.{how_many_low, length_many}
use Rattle.bx_board.proofs.Tending.{free_waits}

-- the root's chain ends at the start
pub root_end : (image : Loaded) (start : Entry) (plan : Planned) (chains : Chained) (world : State) → AreChains plan chains → started image start.0 start.1 ≡ Ok world
    → unchosen world ≡ chain_end (record { image = image; start = start; plan = plan; chains = chains }) 0
root_end image start plan chains world are is =
    ap (λ r. unchosen (world_or_none r)) (sym is)
    ∙ ap (λ choices. ran image choices (origin image start)) (sym (ap (λ h. path_at plan h h.past) are.forest.root))

all_wait : (count n : ℕ) → get_or (replicate count stands.Waiting) n stands.Waiting ≡ stands.Waiting
all_wait zero n = refl
all_wait (suc count) zero = refl
all_wait (suc count) (suc n) = all_wait count n

-- nothing has happened to a book that was just opened
pub begins_so : (job : Job) (all : List Stand) (told : Vec Shown Global) (way : Option Way) (count : ℕ) → all ≡ stands.Done told way ∷ replicate (count - 1) stands.Waiting → count ≡ length job.chains.heads → book_view job all false ≡ begun_with job
begins_so job all told way count e f =
    ap (λ xs. book_view job xs false) (e ∙ ap (λ n. stands.Done told way ∷ replicate (n - 1) stands.Waiting) f)
    ∙ ap (λ more. record { job = job; state = record { slots = Done (chain_end job 0) ∷ more; stopped = false } }) (slots_waiting (λ n. chain_end job (suc n)) (length job.chains.heads - 1))

module _ (job : Job) (are : AreChains job.plan job.chains) where
  pub long : length (initial job).slots ≡ length job.chains.heads
  long = omega (arith, length-replicate {A = Slot} (chain_count job.chains - 1) Waiting, are.forest.some)

  -- what stands on the root is free
  first_free : (n : ℕ) → one_if (is_kid job.chains 0 n) ≡ one_if (is_free job (initial job) n)
  first_free zero = sym (ap one_if (free_waits job (initial job) 0 refl))
  first_free (suc m) = one (below_or_past (suc m) (length job.chains.heads)) (cases_eq (above job.chains (suc m)) 0) where
    waits : standing (initial job) (suc m) ≡ Waiting
    waits = initial_waits job (suc m) (omega arith)

    born : (n : ℕ) → (n == 0) ≡ is_done (standing (initial job) n)
    born zero = refl
    born (suc k) = not_eq (suc k) 0 (λ e. absurd (omega (arith, e))) ∙ sym (ap is_done (initial_waits job (suc k) (omega arith)))

    one : (suc m < length job.chains.heads) ⊎ (length job.chains.heads ≤ suc m) → (above job.chains (suc m) ≡ 0) ⊎ (above job.chains (suc m) ≢ 0) → one_if (is_kid job.chains 0 (suc m)) ≡ one_if (is_free job (initial job) (suc m))
    one (inl l) _ =
        let kid : is_kid job.chains 0 (suc m) ≡ (above job.chains (suc m) == 0) = both_true (nat_lt 0 (suc m)) (nat_lt (suc m) (length job.chains.heads)) (above job.chains (suc m) == 0) (lt-ltb 0 (suc m) (omega arith)) (lt-ltb (suc m) (length job.chains.heads) l) in
        let free : is_free job (initial job) (suc m) ≡ is_done (standing (initial job) (above job.chains (suc m))) =
        ap (λ t. t && is_waiting (standing (initial job) (suc m)) && is_done (standing (initial job) (above job.chains (suc m)))) (lt-ltb (suc m) (length (initial job).slots) (omega (arith, l, long)))
        ∙ ap (λ x. is_waiting x && is_done (standing (initial job) (above job.chains (suc m)))) waits in
        ap one_if (kid ∙ born (above job.chains (suc m)) ∙ sym free)
    one (inr p) _ =
        let kid : is_kid job.chains 0 (suc m) ≡ false = mid_false (nat_lt 0 (suc m)) (nat_lt (suc m) (length job.chains.heads)) (above job.chains (suc m) == 0) (le-ltb (suc m) (length job.chains.heads) p) in
        let free : is_free job (initial job) (suc m) ≡ false =
        ap (λ t. t && is_waiting (standing (initial job) (suc m)) && is_done (standing (initial job) (above job.chains (suc m)))) (le-ltb (suc m) (length (initial job).slots) (omega (arith, p, long))) in
        ap one_if (kid ∙ sym free)

  -- there are no more of them than chains
  pub kids_low : length (kids job.chains 0) ≤ length job.chains.heads
  kids_low = omega (arith, long, how_many_low (is_free job (initial job)) (length (initial job).slots), length_many (is_free job (initial job)) (kids job.chains 0) (length (initial job).slots) (λ n. are.forest.kids 0 n ∙ first_free n) past) where
    past : (n : ℕ) → length (initial job).slots ≤ n → is_free job (initial job) n ≡ false
    past n h = ap (λ t. t && is_waiting (standing (initial job) n) && is_done (standing (initial job) (above job.chains n))) (le-ltb n (length (initial job).slots) h)

  none_held : (n : ℕ) → how_many (is_held (initial job)) n ≡ 0
  none_held zero = refl
  none_held (suc zero) = refl
  none_held (suc (suc n)) = omega (arith, none_held (suc n), ap (λ x. one_if (is_leased x)) (initial_waits job (suc n) (omega arith)))

  unheld : (n k : ℕ) → standing (initial job) n ≡ Leased k → ⊥
  unheld zero k h = cc
  unheld (suc n) k h = let waits = initial_waits job (suc n) (omega arith) in cc

  pub initial_tended : (holders : BTreeMap ℕ ℕ) → holders.entries ≡ [] → IsTended (begun_with job) (kids job.chains 0) holders 0 1
  initial_tended holders none = record {
    kept = initial_kept job are;
    free = λ n. are.forest.kids 0 n ∙ first_free n;
    held = λ k n. (λ h. let empty : None ≡ Some n = sym (ap (lookup (is_at (nat_cmp k))) none) ∙ h in cc, λ h. absurd (unheld n k h));
    some_leased = sym (none_held (length (initial job).slots));
    some_done = sym (none_finished job (length (replicate (chain_count job.chains - 1) Waiting)));
  }

  -- the fields of a book that was just opened
  pub opened : (all : List Stand) (told : Vec Shown Global) (way : Option Way) (count : ℕ) (ready : List ℕ) (holders : BTreeMap ℕ ℕ) → holders.entries ≡ [] → IsOk (started job.image job.start.0 job.start.1)
      → All (IsShown (chain_end job 0)) told.items → way ≡ kept_for (chain_end job 0) (length (kids job.chains 0)) → all ≡ stands.Done told way ∷ replicate (count - 1) stands.Waiting → count ≡ length job.chains.heads → ready ≡ kids job.chains 0
      → AreKept (book_view job all false) all ready holders 0 1
  opened all told way count ready holders none exported shows kept e f g =
      subst (λ row. AreKept (book_view job all false) all row holders 0 1) (sym g)
      (subst (λ b. AreKept b all (kids job.chains 0) holders 0 1) (sym (begins_so job all told way count e f)) (initial_tended holders none, record { exported = exported; each = λ n. subst (λ xs. Keeps (chain_end job n) (left_on (begun_with job) n) (stand_at xs n)) (sym e) (each n) }))
    where
      undone : (n : ℕ) → is_kid job.chains 0 n ≡ true → is_done (standing (initial job) n) ≡ false
      undone zero kid = cc
      undone (suc n) kid = ap is_done (initial_waits job (suc n) (omega arith))

      each : (n : ℕ) → Keeps (chain_end job n) (left_on (begun_with job) n) (stand_at (stands.Done told way ∷ replicate (count - 1) stands.Waiting) n)
      each zero = (shows, kept ∙ ap (kept_for (chain_end job 0)) (all_left (begun_with job) are.forest long 0 undone))
      each (suc n) = subst (Keeps (chain_end job (suc n)) (left_on (begun_with job) (suc n))) (sym (all_wait (count - 1) n)) tt

-- nobody holds a chain of a campaign that was just opened
pub begun_idle : (image : Loaded) (start : Entry) (plan : Planned) (b : Kept) → IsOpening image start plan b → IsIdle b
begun_idle image start plan b is = subst IsIdle (sym is.begun) (record { going = refl; unheld = λ k h. unheld_there h.0 k h.1 }) where
  job : Job
  job = record { image = image; start = start; plan = plan; chains = b.job.chains }

  unheld_there : (n k : ℕ) → standing (initial job) n ≡ Leased k → ⊥
  unheld_there zero k h = cc
  unheld_there (suc n) k h = let waits = initial_waits job (suc n) (omega arith) in cc
