use Rattle.bx_plan.proofs.Words.{◌≡◌, ◌+◌, ◌<◌, length, so_far, IsBuilding, Stands, parts_left, plan_of, with_lines, TakesMemory, parts_of}
use Rattle.bx_plan.proofs.plans.building.Builder.read_all.Given as goal

-- the lines that are left complete the plan so far
abbrev pub invariant-loop-line : goal.invariant-loop-line
invariant-loop-line l = record {
  counted : l.number + length (parts_left l.line-iterator) ≡ length (parts_of 10 l.text);
  stands : Stands (so_far l.self) l.self.numbers.items (with_lines (l.number + 1) (so_far l.self) (parts_left l.line-iterator)) (plan_of l.text);
  building : IsBuilding l.self;
  takes : TakesMemory (parts_left l.line-iterator) → TakesMemory (parts_of 10 l.text);
  some : 0 < length (so_far l.self) → TakesMemory (parts_of 10 l.text);
}
