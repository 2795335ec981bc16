use Rattle.bx_plan.proofs.Words.{◌≡◌, List, Entry, size_left, words_left, entries_of}
use Rattle.bx_plan.specs.Made.{Make}
use Rattle.bx_plan.proofs.Counts.{entries_after}
use Rattle.bx_plan.proofs.entries.read_entries.Given as goal

-- the words that are left complete the entries so far
abbrev pub invariant-loop-left : goal.invariant-loop-left
invariant-loop-left l = (entries : List Entry) × Make l.entries entries × (entries_after entries (words_left l.left) ≡ entries_of l.words)

abbrev pub decreases-loop-left : goal.decreases-loop-left
decreases-loop-left l = size_left l.left
