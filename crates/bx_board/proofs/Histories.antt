-- Every history of a board is sound.
use Rattle.std.proofs.Common.{◌≡◌, ◌≢◌, ◌⊎◌, inl, inr, ℕ, zero, suc, ◌+◌, ◌-◌, ◌<◌, ◌≤◌, ◌==◌, ◌&&◌, Bool, true, false, List, [], ◌∷◌, ◌++◌, length, get_or, replicate, refl, sym, ap, subst, ◌∙◌, arith, append_assoc}
use Rattle.std.proofs.lemmas.List.{get_or-replicate, get_or_past, length-replicate, append-nil, length-set}
use Rattle.std.proofs.lemmas.Bool.{cases_eq, eq-eqb}
use Rattle.bx_world.specs.Running.{Ended}
use Rattle.bx_plan.specs.Chains.{AreChains, chain_count, one_if}
use Rattle.bx_plan.proofs.Times.{not_eq}
use Rattle.bx_board.specs.declared.slots.Event.{Event, TheVariants.Lease, TheVariants.Submit, TheVariants.GiveBack, TheVariants.Stop}
use Rattle.bx_board.specs.Jobs.{Job, end_of, work_of}
use Rattle.bx_board.specs.Machine.{Slot, Waiting, Leased, Done, standing, is_waiting, is_done, is_finished, how_many, May, with_slot, initial, replay, IsLegal}
use Rattle.bx_board.specs.Kept.{Kept, then, begun_with, IsKept}
use Rattle.bx_board.specs.Histories.{accepted_by, accepted, submitted_by, submitted, EveryHistoryIsSound}
use Rattle.bx_board.proofs.Numbers.{how_many_but}
use Rattle.bx_board.proofs.Steps.{below_or_past, is_true, leased_within, slot_set, slot_kept, free_is, waiting_is, kept_then}

-- ---- at the start

pub initial_waits : (job : Job) (n : ℕ) → 0 < n → standing (initial job) n ≡ Waiting
initial_waits job zero h = absurd (omega (arith, h))
initial_waits job (suc m) h = one (below_or_past m (chain_count job.chains - 1)) where
  one : (m < chain_count job.chains - 1) ⊎ (chain_count job.chains - 1 ≤ m) → get_or (replicate (chain_count job.chains - 1) Waiting) m Waiting ≡ Waiting
  one (inl l) = get_or-replicate {A = Slot} (chain_count job.chains - 1) m Waiting Waiting l
  one (inr p) = get_or_past (replicate (chain_count job.chains - 1) Waiting) m Waiting (omega (arith, p, length-replicate {A = Slot} (chain_count job.chains - 1) Waiting))

root_or_more : (n : ℕ) → (n ≡ 0) ⊎ (0 < n)
root_or_more zero = inl refl
root_or_more (suc n) = inr (omega arith)

pub initial_kept : (job : Job) → AreChains job.plan job.chains → IsKept (begun_with job)
initial_kept job chains = record {
  chains = chains;
  history = ([], refl, tt);
  count = omega (arith, length-replicate {A = Slot} (chain_count job.chains - 1) Waiting, chains.forest.some);
  root = refl;
  born = λ n p h. let waits = ap is_waiting (initial_waits job n p) in cc;
  sound = sound;
  one = one;
} where
  sound : (n : ℕ) (e : Ended) → standing (initial job) n ≡ Done e → e ≡ end_of (work_of job n)
  sound zero e h = cc
  sound (suc n) e h = let waits = initial_waits job (suc n) (omega arith) in cc

  one : (k m n : ℕ) → standing (initial job) m ≡ Leased k → standing (initial job) n ≡ Leased k → m ≡ n
  one k zero n h g = cc
  one k (suc m) n h g = let waits = initial_waits job (suc m) (omega arith) in cc

-- ---- as many pieces are accepted as chains are done

pub record Counted (b : Kept) (events : List Event) : Type 0 where
  pub each : (n : ℕ) → 0 < n → accepted n events ≡ one_if (is_done (standing b.state n))
  pub all : submitted events + 1 ≡ how_many (is_finished b.state) (length b.state.slots)

accepted-push : (n : ℕ) (es : List Event) (e : Event) → accepted n (es ++ e ∷ []) ≡ accepted n es + accepted_by n e
accepted-push n [] e = omega arith
accepted-push n (f ∷ es) e = omega (arith, accepted-push n es e)

submitted-push : (es : List Event) (e : Event) → submitted (es ++ e ∷ []) ≡ submitted es + submitted_by e
submitted-push [] e = omega arith
submitted-push (f ∷ es) e = omega (arith, submitted-push es e)

pub none_finished : (job : Job) (n : ℕ) → how_many (is_finished (initial job)) (suc n) ≡ 1
none_finished job zero = refl
none_finished job (suc n) = omega (arith, none_finished job n, ap (λ x. one_if (is_done x)) (initial_waits job (suc n) (omega arith)))

initial_counted : (job : Job) → Counted (begun_with job) []
initial_counted job = record {
  each = λ n p. sym (ap (λ x. one_if (is_done x)) (initial_waits job n p));
  all = sym (none_finished job (length (replicate (chain_count job.chains - 1) Waiting)));
}

-- a slot that isn't done changes to one that is, or isn't
module _ (b : Kept) (events : List Event) (so : Counted b events) (n : ℕ) (x : Slot) (within : n < length b.state.slots) (unfinished : is_done (standing b.state n) ≡ false) (e : Event)
    (by : (m : ℕ) → accepted_by m e ≡ one_if ((n == m) && is_done x)) (in_all : submitted_by e ≡ one_if (is_done x)) where
  each_set : (m : ℕ) → 0 < m → accepted m (events ++ e ∷ []) ≡ one_if (is_done (standing (with_slot b.state n x) m))
  each_set m p = one (cases_eq m n) where
    one : (m ≡ n) ⊎ (m ≢ n) → accepted m (events ++ e ∷ []) ≡ one_if (is_done (standing (with_slot b.state n x) m))
    one (inl f) = omega (arith, accepted-push m events e, so.each m p, by m, ap (λ t. one_if (t && is_done x)) (eq-eqb n m (sym f)), ap (λ i. one_if (is_done (standing b.state i))) f, ap one_if unfinished, ap (λ i. one_if (is_done (standing (with_slot b.state n x) i))) f, ap (λ y. one_if (is_done y)) (slot_set b.state n x within))
    one (inr f) = omega (arith, accepted-push m events e, so.each m p, by m, ap (λ t. one_if (t && is_done x)) (not_eq n m (λ g. f (sym g))), ap (λ y. one_if (is_done y)) (slot_kept b.state n m x f))

  all_set : submitted (events ++ e ∷ []) + 1 ≡ how_many (is_finished (with_slot b.state n x)) (length (with_slot b.state n x).slots)
  all_set =
      let but = how_many_but (is_finished b.state) (is_finished (with_slot b.state n x)) (length b.state.slots) n within (λ m f. sym (ap is_done (slot_kept b.state n m x f))) in
      omega (arith, submitted-push events e, so.all, in_all, but, ap one_if unfinished, ap (λ y. one_if (is_done y)) (slot_set b.state n x within), ap (how_many (is_finished (with_slot b.state n x))) (length-set b.state.slots n x))

  pub counted_set : Counted (record { job = b.job; state = with_slot b.state n x }) (events ++ e ∷ [])
  counted_set = record { each = each_set; all = all_set }

and_no : (t : Bool) → 0 ≡ one_if (t && false)
and_no true = refl
and_no false = refl

and_yes : (t : Bool) → one_if t ≡ one_if (t && true)
and_yes true = refl
and_yes false = refl

counted_then : (b : Kept) (events : List Event) (e : Event) → May b.job b.state e → Counted b events → Counted (then b e) (events ++ e ∷ [])
counted_then b events (Lease k n) may so =
    let free = free_is b.job b.state n (is_true _ may.0) in
    counted_set b events so n (Leased k) free.within (ap is_done (waiting_is _ free.waiting)) (Lease k n) (λ m. and_no (n == m)) refl
counted_then b events (Submit k n) may so =
    counted_set b events so n (Done (end_of (work_of b.job n))) (leased_within b.state n k may) (ap is_done may) (Submit k n) (λ m. and_yes (n == m)) refl
counted_then b events (GiveBack k n) may so =
    counted_set b events so n Waiting (leased_within b.state n k may) (ap is_done may) (GiveBack k n) (λ m. and_no (n == m)) refl
counted_then b events Stop may so = record {
  each = λ n p. accepted-push n events Stop ∙ ap (λ i. i + 0) (so.each n p) ∙ add_none (one_if (is_done (standing b.state n)));
  all = omega (arith, submitted-push events Stop, so.all);
} where
  add_none : (n : ℕ) → n + 0 ≡ n
  add_none n = omega arith

-- ---- every list of events

abbrev at_the_end : Kept → List Event → Kept
at_the_end b es = record { job = b.job; state = replay b.job b.state es }

ends_well : (b : Kept) (events es : List Event) → IsKept b → Counted b events → IsLegal b.job b.state es → IsKept (at_the_end b es) × Counted (at_the_end b es) (events ++ es)
ends_well b events [] is so legal = (is, subst (Counted b) (sym (append-nil events)) so)
ends_well b events (e ∷ es) is so legal =
    let end = ends_well (then b e) (events ++ e ∷ []) es (kept_then b e is legal.0) (counted_then b events e legal.0 so) legal.1 in
    (end.0, subst (Counted (at_the_end b (e ∷ es))) (append_assoc events (e ∷ []) es) end.1)

pub every_history : EveryHistoryIsSound
every_history job events chains legal =
    let end = ends_well (begun_with job) [] events (initial_kept job chains) (initial_counted job) legal in
    record {
      ends = end.0.sound;
      one = end.0.one;
      alone = λ j k n h g. cc;
      once = end.1.each;
      all = end.1.all;
    }
