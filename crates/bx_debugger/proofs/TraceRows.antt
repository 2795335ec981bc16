-- Choices that are traced one after another.
use Rattle.std.proofs.Common.{◌≡◌, ◌∙◌, ℕ, suc, ◌+◌, ◌-◌, ◌≤◌, List, ◌++◌, append_assoc, arith, length, drop, replicate, take, sym, ap}
use Rattle.std.proofs.lemmas.List.{drop-take, length-drop, length-take-le}
use Rattle.bx_world.specs.World.{State}
use Rattle.bx_world.specs.declared.choices.Choice.{Choice}
use Rattle.bx_debugger.specs.Program.{Program}
use Rattle.bx_debugger.specs.Trace.{made, trace_line, trace_lines}

-- one choice of a run, and those behind it
pub trace_next : (program : Program) (n left less : ℕ) (w next : State) (choice : Choice) (rest : List Choice) (out new whole : List ℕ) → left ≡ less + 1
    → new ≡ out ++ trace_line program n choice w → next ≡ made program.image choice w → out ++ trace_lines program n w (replicate left choice ++ rest) ≡ whole
    → new ++ trace_lines program (n + 1) next (replicate less choice ++ rest) ≡ whole
trace_next program n left less w next choice rest out new whole more written made_is so =
    let behind = replicate less choice ++ rest in
    let count : suc less ≡ left = omega (arith, more) in
    ap (λ t. t ++ trace_lines program (n + 1) next behind) written ∙ append_assoc out (trace_line program n choice w) (trace_lines program (n + 1) next behind)
    ∙ ap (λ x. out ++ (trace_line program n choice w ++ trace_lines program (n + 1) x behind)) made_is
    ∙ ap (λ k. out ++ trace_lines program n w (replicate k choice ++ rest)) count ∙ so

-- the choices from one number up to another
pub between : {A : Type 0} (first past : ℕ) (xs : List A) → first ≤ past → take (past - first) (drop first xs) ≡ drop first (take past xs)
between first past xs order = let far : first + (past - first) ≡ past = omega arith in sym (drop-take first (past - first) xs) ∙ ap (λ n. drop first (take n xs)) far

pub between_long : {A : Type 0} (first past : ℕ) (xs : List A) → first ≤ past → past ≤ length xs → first + length (take (past - first) (drop first xs)) ≡ past
between_long first past xs order within =
    let long : length (take (past - first) (drop first xs)) ≡ past - first = length-take-le (past - first) (drop first xs) (omega (arith, length-drop first xs)) in
    omega (arith, long)
