-- What a chain that is leased goes on from.
use Rattle.std.proofs.Common.{◌≡◌, ℕ, zero, suc, ◌<◌, true, length, ap, arith}
use Rattle.bx_plan.specs.declared.chains.Head.{Head}
use Rattle.bx_plan.specs.Planned.{Planned}
use Rattle.bx_plan.specs.Chains.{above, chain_path, head, AreForest, Begins, Chained}
use Rattle.bx_board.specs.declared.working.Span.{Span}
use Rattle.bx_board.specs.Jobs.{chain_end, run_alone}
use Rattle.bx_board.specs.Kept.{Kept, IsKept}
use Rattle.bx_board.specs.Machine.{Waiting, is_free}
use Rattle.bx_board.specs.Working.{IsSpan, run_up_to}
use Rattle.bx_board.proofs.Steps.{free_is, not_root, waiting_not_done}

abbrev pub span_of : Kept → ℕ → Span
span_of b n = let h = head b.job.chains n in record { chain = n; line = h.line; first = h.first; past = h.past }

-- a chain that makes a choice is none that makes none
pub some_chain : (plan : Planned) (all : Chained) → AreForest plan all → (c : ℕ) → c < length all.heads → 0 < (head all c).past → Begins plan (head all c) (chain_path plan all (above all c)) c
some_chain plan all forest zero h some = let none : (head all 0).past ≡ 0 = ap (λ (h : Head). h.past) forest.root in absurd (omega (arith, none, some))
some_chain plan all forest (suc c) h some = forest.begins (suc c) (omega arith) h

-- a chain that is free goes on from the end of the one that it stands on
pub leased_from : (b : Kept) → IsKept b → (n : ℕ) → is_free b.job b.state n ≡ true
    → IsSpan b.job.plan (span_of b n) × (chain_end b.job (above b.job.chains n) ≡ run_up_to b.job.image b.job.start b.job.plan (head b.job.chains n).line (head b.job.chains n).first)
leased_from b is n free =
    let was = free_is b.job b.state n free in
    let positive : 0 < n = not_root b is n Waiting was.within (waiting_not_done _ was.waiting) in
    let begins = is.chains.forest.begins n positive (omega (arith, was.within, is.count)) in
    (record { line = begins.line; some = begins.some; within = begins.within }, ap (run_alone b.job.image b.job.start) begins.stands)
