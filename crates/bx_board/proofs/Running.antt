-- A chain is run by runs of equal choices.
use Rattle.std.proofs.Common.{◌≡◌, ℕ, ◌+◌, ◌-◌, ◌^◌, ◌<◌, ◌≤◌, List, ◌++◌, drop, length, replicate, take, sym, ap, ◌∙◌, arith, length-append}
use Rattle.std.specs.Prelude.{Result, Ok, Err}
use Rattle.std.proofs.lemmas.List.{drop-take, length-replicate, length-take-le, take-append-drop, take-take}
use Rattle.bx_load.specs.Image.{Loaded}
use Rattle.bx_world.specs.declared.choices.Choice.{Choice}
use Rattle.bx_world.specs.Running.{Ended, ran}
use Rattle.bx_world.proofs.Lawful.{few_applied, ran_on}
use Rattle.bx_plan.specs.Planned.{part_of}
use Rattle.bx_board.specs.Jobs.{Entry, origin, run_alone}

-- so many make no more be counted
pub few_made : (image : Loaded) (choice : Choice) (times : ℕ) (old new : Ended) → new ≡ ran image (replicate times choice) old → new.applied ≤ old.applied + times
few_made image choice times old new is =
    let count = ap (λ (e : Ended). e.applied) is in
    omega (arith, count, few_applied image (replicate times choice) old, length-replicate times choice)

-- what is left behind them leads where all leads that was left
pub leads_on : (image : Loaded) (choice : Choice) (times : ℕ) (old left : List Choice) (end new : Ended) → new ≡ ran image (replicate times choice) end → old ≡ replicate times choice ++ left → ran image left new ≡ ran image old end
leads_on image choice times old left end new is front =
    ap (ran image left) is ∙ sym (ran_on image (replicate times choice) left end) ∙ ap (λ (cs : List Choice). ran image cs end) (sym front)

-- the choices from one position up to another lead on from where those before them lead
pub begun_at : (image other : Loaded) (start : Entry) (cs part : List Choice) (first past : ℕ) (end : Ended) → image ≡ other → first ≤ past → past ≤ length cs → past < 2 ^ 63 → part ≡ part_of first past cs → end ≡ run_alone image start (take first cs)
    → (ran other part end ≡ run_alone image start (take past cs)) × (end.applied + length part < 2 ^ 63)
begun_at image other start cs part first past end same order within few is from =
    let whole : take past cs ≡ take first cs ++ part_of first past cs =
    sym (take-append-drop first (take past cs)) ∙ ap (λ (xs : List Choice). xs ++ drop first (take past cs)) (take-take first past cs order)
    ∙ ap (λ n. take first cs ++ drop first (take n cs)) (let sum : past ≡ first + (past - first) = omega (arith, order) in sum) ∙ ap (λ (xs : List Choice). take first cs ++ xs) (drop-take first (past - first) cs) in (
      ap (λ (i : Loaded). ran i part end) (sym same) ∙ ap (λ (xs : List Choice). ran image xs end) is ∙ ap (ran image (part_of first past cs)) from
          ∙ sym (ran_on image (take first cs) (part_of first past cs) (origin image start)) ∙ ap (λ (xs : List Choice). ran image xs (origin image start)) (sym whole),
      omega (arith, few, order, ap (λ (e : Ended). e.applied) from, few_applied image (take first cs) (origin image start), length-take-le first cs (omega (arith, order, within)), ap length is, ap length whole, length-append (take first cs) (part_of first past cs), length-take-le past cs within),
    )

-- ---- what the calls answered

abbrev ended_in : {E : Type 0} → Ended → Result Ended E → Ended
ended_in d (Ok e) = e
ended_in d (Err f) = d

pub given_is : {E : Type 0} (x y : Ended) → ◌≡◌ {A = Result Ended E} (Ok x) (Ok y) → x ≡ y
given_is x y h = ap (ended_in x) h
