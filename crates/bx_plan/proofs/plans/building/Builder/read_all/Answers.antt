use Rattle.bx_plan.proofs.Words.{◌≡◌, ◌⊎◌, inl, inr, ◌+◌, ◌<◌, List, [], ◌∷◌, ◌++◌, ℕ, Option, Ok, Err, length, sym, ap, subst, arith, Fault, read_loose, so_far, IsBuilding, Stands, Entry, parts_left, Named, plan_of, Adds, IsNoted}
use Rattle.bx_plan.proofs.Words.{with_lines, TakesFirst, TakesMemory, line_of, parts_of}
use Rattle.std.specs.declared.alloc.AllocError.{AllocError}
use Rattle.bx_plan.proofs.Adding.{read_fault, stands_read, takes_added, takes_more}
use Rattle.bx_plan.proofs.Running.{parts_few}
use Rattle.bx_plan.proofs.plans.building.Builder.read_all.Goals as goal

pub overflow_add-number : goal.overflow_add-number
overflow_add-number c = omega (arith, parts_few 10 c.args.text.now)

pub loop-line-preserved : goal.loop-line-preserved
loop-line-preserved c =
    let n = c.loop-line.number + 1 in
    let old = c.loop-line.self in
    let new = c.read_line.new.self in
    let is = c.loop-line.invariant in
    let line = line_of c.in-Some.line.now in
    let left = parts_left c.next.new.self in
    let said = read_loose n (so_far old) line in
    let added : (said ≡ Ok (so_far new)) × IsBuilding new × IsNoted n old new = subst (λ (o : Option Fault). Adds {E = AllocError} (TakesFirst line ⊥) n old new (Ok o) said) c.in-None-2.is c.in_ok-read_line.ensures in
    let here : Stands (so_far old) old.numbers.items (with_lines n (so_far old) (c.in-Some.line.now ∷ left)) (plan_of c.args.text.now) =
    subst (λ (ls : List (List ℕ)). Stands (so_far old) old.numbers.items (with_lines n (so_far old) ls) (plan_of c.args.text.now)) c.in-Some.ensures.steps is.stands in
    let takes : TakesFirst line (TakesMemory left) → TakesMemory (parts_of 10 c.args.text.now) = λ t. is.takes (subst TakesMemory (sym c.in-Some.ensures.steps) t) in
    record {
      counted = omega (arith, is.counted, ap length c.in-Some.ensures.steps);
      stands = stands_read n (so_far old) (so_far new) old.numbers.items new.numbers.items left line (plan_of c.args.text.now) is.building.numbered added.0 added.2 here;
      building = added.1;
      takes = λ t. takes (takes_more n (so_far old) (so_far new) line (TakesMemory left) added.0 t);
      some = λ h. some_taken (so_far old) (so_far new) n line (TakesMemory left) (TakesMemory (parts_of 10 c.args.text.now)) added.0 is.some takes (kept_or_more old.numbers.items new.numbers.items n (so_far old) (so_far new) added.2) h;
    }
  where
    kept_or_more : (numbers after : List ℕ) (n : ℕ) (old new : List Named) → ((after ≡ numbers) × (new ≡ old)) ⊎ ((after ≡ numbers ++ n ∷ []) × (length new ≡ length old + 1)) → (new ≡ old) ⊎ (length new ≡ length old + 1)
    kept_or_more numbers after n old new (inl a) = inl a.1
    kept_or_more numbers after n old new (inr a) = inr a.1

    some_taken : (old new : List Named) (n : ℕ) (line : Option (Option (List ℕ × List Entry))) (later all : Type 0) → read_loose n old line ≡ Ok new → (0 < length old → all) → (TakesFirst line later → all) → (new ≡ old) ⊎ (length new ≡ length old + 1) → 0 < length new → all
    some_taken old new n line later all e some takes (inl same) h = some (omega (arith, h, ap length same))
    some_taken old new n line later all e some takes (inr more) h = takes (takes_added n old new line later e more)

pub returns-in-Some-2-clause-ok : goal.returns-in-Some-2-clause-ok
returns-in-Some-2-clause-ok c =
    let n = c.loop-line.number + 1 in
    let old = c.loop-line.self in
    let new = c.read_line.new.self in
    let is = c.loop-line.invariant in
    let line = line_of c.in-Some.line.now in
    let refused : (read_loose n (so_far old) line ≡ Err c.in-Some-2.refusal) × (new.numbers.items ≡ old.numbers.items) × (so_far new ≡ so_far old) =
    subst (λ (o : Option Fault). Adds {E = AllocError} (TakesFirst line ⊥) n old new (Ok o) (read_loose n (so_far old) line)) c.in-Some-2.is c.in_ok-read_line.ensures in
    let here = subst (λ (ls : List (List ℕ)). Stands (so_far old) old.numbers.items (with_lines n (so_far old) ls) (plan_of c.args.text.now)) c.in-Some.ensures.steps is.stands in
    let stands = rw (read_fault n (so_far old) line c.in-Some-2.refusal refused.0) at here in
    record {
      stands = rw (refused.1, refused.2) stands;
      numbered = omega (arith, is.building.numbered, ap length refused.1, ap length refused.2);
      takes = λ h. is.some (omega (arith, h, ap length refused.2));
    }
