-- A book that one worker goes on with alone.
use Rattle.std.proofs.Common.{◌≡◌, ◌≢◌, ◌⊎◌, inl, inr, ℕ, zero, suc, ◌<◌, ◌≤◌, Bool, true, false, length, refl, sym, ap, subst, ◌∙◌, arith}
use Rattle.std.specs.Prelude.{MatchBool}
use Rattle.std.proofs.lemmas.List.{length-set}
use Rattle.std.proofs.lemmas.Bool.{cases_eq}
use Rattle.bx_plan.specs.Chains.{Begins, above, chain_count, chain_path, head, one_if}
use Rattle.bx_board.specs.declared.slots.Event.TheVariants.{Lease, Submit}
use Rattle.bx_board.specs.Alone.{GoesOn, IsIdle, IsUnheld, TakesBack, done_in}
use Rattle.bx_board.specs.Jobs.{end_of, work_of}
use Rattle.bx_board.specs.Kept.{GivesBack, IsAllDone, IsKept, Kept, then}
use Rattle.bx_board.specs.Machine.{Slot, Waiting, Leased, Done, Holds, May, is_done, is_finished, is_free, is_leased, is_waiting, standing}
use Rattle.bx_board.proofs.RowLengths.{how_many_low}
use Rattle.bx_board.proofs.Steps.{Free, free_is, is_free_from, is_true, leased_within, slot_kept, slot_set, true_is, waiting_is}
use Rattle.bx_board.proofs.Tending.{finished_but, held_but}

-- where nothing may be leased to an idle worker, all is done
pub idle_done : (b : Kept) → IsKept b → IsIdle b → ((n : ℕ) → May b.job b.state (Lease 0 n) → ⊥) → IsAllDone b
idle_done b is idle none n h = true_is _ (all n n (omega arith) h) where
  all : (fuel m : ℕ) → m ≤ fuel → m < chain_count b.job.chains → is_done (standing b.state m) ≡ true
  all fuel zero l w = is_true _ is.root
  all zero (suc m) l w = absurd (omega (arith, l))
  all (suc fuel) (suc m) l w = by (standing b.state (suc m)) refl (all fuel (above b.job.chains (suc m))) where
    begins : Begins b.job.plan (head b.job.chains (suc m)) (chain_path b.job.plan b.job.chains (above b.job.chains (suc m))) (suc m)
    begins = is.chains.forest.begins (suc m) (omega arith) w

    by : (x : Slot) → standing b.state (suc m) ≡ x → (above b.job.chains (suc m) ≤ fuel → above b.job.chains (suc m) < chain_count b.job.chains → is_done (standing b.state (above b.job.chains (suc m))) ≡ true)
        → is_done (standing b.state (suc m)) ≡ true
    by Waiting e born = absurd (none (suc m) (
      true_is _ (is_free_from b.job b.state (suc m) (omega (arith, w, is.count)) (ap is_waiting e) (born (omega (arith, begins.below, l)) (omega (arith, begins.below, w)))),
      idle.going,
      idle.unheld 0,
    ))
    by (Leased k) e born = absurd (idle.unheld k (suc m, e))
    by (Done f) e born = ap is_done e

-- one chain is leased and handed in
module _ (b : Kept) (idle : IsIdle b) (n : ℕ) (free : is_free b.job b.state n ≡ true) where
  was : Free b.job b.state n
  was = free_is b.job b.state n free

  pub held_alone : (m : ℕ) → standing (then b (Lease 0 n)).state m ≡ Leased 0 → m ≡ n
  held_alone m h = one (cases_eq m n) where
    one : (m ≡ n) ⊎ (m ≢ n) → m ≡ n
    one (inl e) = e
    one (inr f) = absurd (idle.unheld 0 (m, sym (slot_kept b.state n m (Leased 0) f) ∙ h))

  pub held_there : standing (then b (Lease 0 n)).state n ≡ Leased 0
  held_there = slot_set b.state n (Leased 0) was.within

  pub gone_on : GoesOn b (then (then b (Lease 0 n)) (Submit 0 n))
  gone_on = record {
    job = refl;
    idle = record { going = idle.going; unheld = λ k h. unheld k h.0 h.1 (cases_eq h.0 n) };
    more =
        let first = finished_but b.state n (Leased 0) was.within in
        let second = finished_but (then b (Lease 0 n)).state n (Done (end_of (work_of b.job n))) within in
        omega (arith, first, second, ap (λ x. one_if (is_done x)) (waiting_is _ was.waiting), ap (λ x. one_if (is_done x)) held_there);
    as_many = omega (arith, length-set (then b (Lease 0 n)).state.slots n (Done (end_of (work_of b.job n))), length-set b.state.slots n (Leased 0));
  } where
    within : n < length (then b (Lease 0 n)).state.slots
    within = omega (arith, was.within, length-set b.state.slots n (Leased 0))

    unheld : (k m : ℕ) → standing (then (then b (Lease 0 n)) (Submit 0 n)).state m ≡ Leased k → (m ≡ n) ⊎ (m ≢ n) → ⊥
    unheld k m h (inl e) =
        let ended : Done (end_of (work_of b.job n)) ≡ Leased k = sym (ap (standing (then (then b (Lease 0 n)) (Submit 0 n)).state) e ∙ slot_set (then b (Lease 0 n)).state n (Done (end_of (work_of b.job n))) within) ∙ h in cc
    unheld k m h (inr f) = idle.unheld k (m, sym (slot_kept (then b (Lease 0 n)).state n m (Done (end_of (work_of b.job n))) f ∙ slot_kept b.state n m (Leased 0) f) ∙ h)

-- a lease is given back
pub taken_back : (old new : Kept) (k : ℕ) → GivesBack old k new → TakesBack old new
taken_back old new k h = subst (TakesBack old) (sym h.1.1) (record {
  job = refl;
  stopped = refl;
  fewer = omega (arith, held_but old.state h.0 Waiting (leased_within old.state h.0 k h.1.0), ap (λ x. one_if (is_leased x)) h.1.0);
})

pub took : (old new : Kept) (k : ℕ) (given : Bool) → Holds old.state k → MatchBool given (GivesBack old k new) ((new ≡ old) × (Holds old.state k → ⊥)) → MatchBool given (TakesBack old new) ((new ≡ old) × IsUnheld old)
took old new k true held h = taken_back old new k h
took old new k false held h = absurd (h.1 held)

-- as many chains as there are can be done at most
pub done_in_low : (b : Kept) → done_in b ≤ length b.state.slots
done_in_low b = how_many_low (is_finished b.state) (length b.state.slots)
