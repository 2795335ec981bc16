use Rattle.bx_plan.proofs.Words.{◌≡◌, ℕ, List, [], ◌∷◌, ◌++◌, Some, sym, ap, ◌∙◌, arith, rules, append_assoc, common_steps, Entry, IsFirst, entry_of, words_left}
use Rattle.bx_plan.specs.Firsts.{First}
use Rattle.bx_plan.proofs.Counts.{entries_after}
use Rattle.bx_plan.proofs.Firsts.{first_is}
use Rattle.bx_plan.proofs.entries.read_entries.Goals as goal

pub returns-in_err-choice : goal.returns-in_err-choice
returns-in_err-choice c = let is = rw c.in_err-choice.was at (first_is c.in-Some.text.now c.first_of.result c.first_of.ensures) in grind (arith, common_steps)

pub loop-left-smaller : goal.loop-left-smaller
loop-left-smaller c = let is = rw c.in_ok-choice.was at (first_is c.in-Some.text.now c.first_of.result c.first_of.ensures) in search rules

pub add-requires-clause-some : goal.add-requires-clause-some
add-requires-clause-some c = let is = rw c.in_ok-choice.was at (first_is c.in-Some.text.now c.first_of.result c.first_of.ensures) in search rules

after : (entries : List Entry) (word : List ℕ) (words : List (List ℕ)) (entry : Entry) → entry_of word ≡ Some entry → entries_after (entries ++ entry ∷ []) words ≡ entries_after entries (word ∷ words)
after entries word words entry e = grind (arith, append_assoc)

pub loop-left-preserved : goal.loop-left-preserved
loop-left-preserved c =
    let first : First = ((c.in_ok-choice.choice, c.in_ok-choice.times), c.in_ok-choice.behind) in
    let is : IsFirst c.in-Some.text.now first = rw c.in_ok-choice.was at (first_is c.in-Some.text.now c.first_of.result c.first_of.ensures) in
    let at = c.loop-left.invariant in
    (at.0 ++ first.0 ∷ [], c.add.ensures at.0 at.1, after at.0 is.word (words_left first.1) first.0 is.is ∙ ap (entries_after at.0) (sym is.split ∙ ap words_left (sym c.in-Some.is)) ∙ at.2)
