-- Choices that are gathered into entries.
use Rattle.std.proofs.Common.{◌≡◌, ◌≢◌, ◌∙◌, ℕ, zero, suc, ◌+◌, ◌<◌, Bool, true, false, List, [], ◌∷◌, ◌++◌, append_assoc, refl, replicate, sym, ap, cond, arith}
use Rattle.std.proofs.lemmas.Bool.Decides.{nat_tests}
use Rattle.std.proofs.lemmas.Bool.{and_parts}
use Rattle.std.specs.Prelude.{◌==◌, Some, slice_get}
use Rattle.bx_plan.specs.Entry.{Entry}
use Rattle.bx_plan.specs.Nodes.{choice_eq}
use Rattle.bx_world.specs.declared.choices.Choice.{Choice, TheVariants.Run, TheVariants.Deliver, TheVariants.Expire}
use Rattle.bx_engine.specs.PlanLines.{before, entries_words, entry_words, gathered}

-- choices that compare alike are the same
nat_same : (p q : ℕ) → (p == q) ≡ true → p ≡ q
nat_same p q e = grind (arith, nat_tests)

pub same_choice : (c d : Choice) → choice_eq c d ≡ true → c ≡ d
same_choice (Run p) (Run q) e = ap Run (nat_same p q e)
same_choice (Deliver p q) (Deliver r s) e =
    let parts = and_parts (p == r) (q == s) e in
    ap (λ x. Deliver x q) (nat_same p r parts.0) ∙ ap (λ x. Deliver r x) (nat_same q s parts.1)
same_choice (Expire p) (Expire q) e = ap Expire (nat_same p q e)
same_choice (Run p) (Deliver r s) e = let no : false ≡ true = e in cc
same_choice (Run p) (Expire r) e = let no : false ≡ true = e in cc
same_choice (Deliver p q) (Run r) e = let no : false ≡ true = e in cc
same_choice (Deliver p q) (Expire r) e = let no : false ≡ true = e in cc
same_choice (Expire p) (Run r) e = let no : false ≡ true = e in cc
same_choice (Expire p) (Deliver r s) e = let no : false ≡ true = e in cc

eq_self : (c : Choice) → choice_eq c c ≡ true
eq_self (Run p) = grind (arith, nat_tests)
eq_self (Deliver p q) = grind (arith, nat_tests)
eq_self (Expire p) = grind (arith, nat_tests)

-- entries begin with the choice that stands before them
heads : (c : Choice) (es : List Entry) → (n : ℕ) × (more : List Entry) × (before c es ≡ (c, n) ∷ more)
heads c [] = (1, [], refl)
heads c (e ∷ es) = go (choice_eq c e.0)
  where
    go : (b : Bool) → (n : ℕ) × (more : List Entry) × (cond b ((c, e.1 + 1) ∷ es) ((c, 1) ∷ e ∷ es) ≡ (c, n) ∷ more)
    go true = (e.1 + 1, es, refl)
    go false = (1, e ∷ es, refl)

apart : (c d : Choice) (n : ℕ) (more : List Entry) → d ≢ c → before c ((d, n) ∷ more) ≡ (c, 1) ∷ (d, n) ∷ more
apart c d n more other = go (choice_eq c d) refl
  where
    go : (b : Bool) → choice_eq c d ≡ b → cond b ((c, n + 1) ∷ more) ((c, 1) ∷ (d, n) ∷ more) ≡ (c, 1) ∷ (d, n) ∷ more
    go true e = absurd (other (sym (same_choice c d e)))
    go false e = refl

-- a choice before others that begin with another one
once : (c : Choice) (left : List Choice) → slice_get left 0 ≢ Some c → before c (gathered left) ≡ (c, 1) ∷ gathered left
once c [] other = refl
once c (d ∷ ds) other =
    let head = heads d (gathered ds) in
    let apart_from : d ≢ c = λ same. other (ap Some same) in
    ap (before c) head.2 ∙ apart c d head.0 head.1 apart_from ∙ ap (λ es. (c, 1) ∷ es) (sym head.2)

-- a run is one entry
pub gathered_run : (times : ℕ) (c : Choice) (left : List Choice) → 0 < times → slice_get left 0 ≢ Some c → gathered (replicate times c ++ left) ≡ (c, times) ∷ gathered left
gathered_run zero c left some other = absurd (omega arith)
gathered_run (suc zero) c left some other = once c left other
gathered_run (suc (suc n)) c left some other =
    let count : suc n + 1 ≡ suc (suc n) = omega arith in
    ap (before c) (gathered_run (suc n) c left (omega arith) other)
    ∙ ap (λ b. cond b ((c, suc n + 1) ∷ gathered left) ((c, 1) ∷ (c, suc n) ∷ gathered left)) (eq_self c)
    ∙ ap (λ m. (c, m) ∷ gathered left) count

pub entries_next : (times : ℕ) (c : Choice) (choices left : List Choice) (out new whole : List ℕ) → 0 < times → choices ≡ replicate times c ++ left → slice_get left 0 ≢ Some c
    → new ≡ out ++ entry_words (c, times) → out ++ entries_words (gathered choices) ≡ whole → new ++ entries_words (gathered left) ≡ whole
entries_next times c choices left out new whole some are other written so =
    let rest = entries_words (gathered left) in
    ap (λ t. t ++ rest) written ∙ append_assoc out (entry_words (c, times)) rest
    ∙ ap (λ es. out ++ entries_words es) (sym (ap gathered are ∙ gathered_run times c left some other)) ∙ so
