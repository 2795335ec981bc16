-- What a walk along chains meets.
use Rattle.std.proofs.Common.{◌≡◌, ℕ, zero, ◌<◌, ◌⊎◌, inl, inr, Option, None, Some, List, option_map, length, set, slice_get, take, sym, ap, ◌∙◌, arith}
use Rattle.std.specs.Prelude.{Ok}
use Rattle.std.proofs.lemmas.Bool.{cases_eq}
use Rattle.std.proofs.lemmas.List.{length-set}
use Rattle.bx_load.specs.Image.{Loaded}
use Rattle.bx_world.specs.World.{State, started}
use Rattle.bx_world.specs.Running.{ran, unchosen}
use Rattle.bx_world.proofs.Confined.{get_set_other, get_set_same}
use Rattle.bx_plan.specs.declared.chains.Head.{Head}
use Rattle.bx_plan.specs.Chains.{above, end, head, path_at}
use Rattle.bx_plan.specs.Planned.{choices_at, schedules}
use Rattle.bx_board.specs.declared.reports.Scheduled.{Scheduled}
use Rattle.bx_board.specs.declared.walks.Course.{Course}
use Rattle.bx_board.specs.Jobs.{Entry, Job, chain_end, origin, run_alone, world_or_none}
use Rattle.bx_board.specs.Reported.{told_alone}
use Rattle.bx_board.specs.Walks.{AreTold, IsCourse, job_of}
use Rattle.bx_board.specs.Working.{IsSpan, run_up_to}
use Rattle.bx_board.proofs.Places.{some_chain}

module _ (c : Course) (are : IsCourse c) where
  -- the chain that makes no choice ends where all begin
  pub root_is : origin c.image.now c.start ≡ chain_end (job_of c) 0
  root_is = ap (λ choices. ran c.image.now choices (origin c.image.now c.start)) (sym (ap (λ h. path_at c.plan.now h h.past) are.forest.root))

  -- and so does another that makes none
  pub none_made : (chain : ℕ) → (head c.chains chain).past ≡ 0 → origin c.image.now c.start ≡ chain_end (job_of c) chain
  none_made chain none = ap (λ n. run_alone c.image.now c.start (take n (choices_at c.plan.now (head c.chains chain).line))) (sym none)

  -- a chain's choices from the first one on
  pub whole_span : (chain : ℕ) → chain < length c.chains.heads → 0 < (head c.chains chain).past
      → IsSpan c.plan.now (record { chain = chain; line = (head c.chains chain).line; first = 0; past = (head c.chains chain).past })
  whole_span chain there some =
      let begins = some_chain c.plan.now c.chains are.forest chain there some in
      record { line = begins.line; some = some; within = begins.within }

  -- a chain's own choices
  pub own_span : (chain : ℕ) → 0 < chain → chain < length c.chains.heads
      → IsSpan c.plan.now (record { chain = chain; line = (head c.chains chain).line; first = (head c.chains chain).first; past = (head c.chains chain).past })
  own_span chain some there =
      let begins = are.forest.begins chain some there in
      record { line = begins.line; some = begins.some; within = begins.within }

  -- a chain goes on from where the one that it stands on ends
  pub goes_on : (chain : ℕ) → 0 < chain → chain < length c.chains.heads
      → chain_end (job_of c) (above c.chains chain) ≡ run_up_to c.image.now c.start c.plan.now (head c.chains chain).line (head c.chains chain).first
  goes_on chain some there = ap (run_alone c.image.now c.start) (are.forest.begins chain some there).stands

  -- the chain on which another stands is there
  pub above_there : (chain : ℕ) → chain < length c.chains.heads → above c.chains chain < length c.chains.heads
  above_there zero there = let none : above c.chains 0 ≡ 0 = ap (λ (h : Head). h.above) are.forest.root in omega (arith, none, there)
  above_there chain there = let begins = are.forest.begins chain (omega arith) there in omega (arith, begins.below, there)

  -- a schedule leads to the end of the chain with which it ends
  pub ended_with : (number : ℕ) → number < length (schedules c.plan.now)
      → (end c.chains number < length c.chains.heads) × (chain_end (job_of c) (end c.chains number) ≡ run_alone c.image.now c.start (choices_at c.plan.now number))
  ended_with number there = let ends = are.ends number there in (ends.0, ap (run_alone c.image.now c.start) ends.1)

-- the world at the start, in which nothing was chosen
pub begins : (image : Loaded) (start : Entry) (world : State) → started image start.0 start.1 ≡ Ok world → unchosen world ≡ origin image start
begins image start world is = ap (λ r. unchosen (world_or_none r)) (sym is)

-- ---- what is told

-- a schedule more is told
pub told_set : (job : Job) (told : List (Option Scheduled)) (number : ℕ) (one : Scheduled) → AreTold job told → number < length (schedules job.plan)
    → option_map (told_alone job.image job.start) (slice_get (schedules job.plan) number) ≡ Some one → AreTold job (set told number (Some one))
told_set job told number one are within is = record {
  long = length-set told number (Some one) ∙ are.long;
  known = λ n other h. by n other h (cases_eq n number);
} where
  by : (n : ℕ) (other : Scheduled) → slice_get (set told number (Some one)) n ≡ Some (Some other) → (n ≡ number) ⊎ ((n ≡ number) → ⊥)
      → option_map (told_alone job.image job.start) (slice_get (schedules job.plan) n) ≡ Some other
  by n other h (inl same) =
      let here = get_set_same told number (Some one) (omega (arith, within, are.long)) in
      let both : Some one ≡ Some other = cc in
      ap (λ k. option_map (told_alone job.image job.start) (slice_get (schedules job.plan) k)) same ∙ is ∙ both
  by n other h (inr differ) = are.known n other (sym (get_set_other told number n (Some one) differ) ∙ h)

-- what was told is taken
pub told_taken : (job : Job) (told : List (Option Scheduled)) (number : ℕ) → AreTold job told → number < length (schedules job.plan) → AreTold job (set told number None)
told_taken job told number are within = record {
  long = length-set told number None ∙ are.long;
  known = λ n other h. by n other h (cases_eq n number);
} where
  by : (n : ℕ) (other : Scheduled) → slice_get (set told number None) n ≡ Some (Some other) → (n ≡ number) ⊎ ((n ≡ number) → ⊥)
      → option_map (told_alone job.image job.start) (slice_get (schedules job.plan) n) ≡ Some other
  by n other h (inl same) =
      let here = get_set_same told number None (omega (arith, within, are.long)) in
      absurd (cc)
  by n other h (inr differ) = are.known n other (sym (get_set_other told number n None differ) ∙ h)
