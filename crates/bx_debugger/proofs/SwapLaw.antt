-- Exchanges as they are answered.
use Rattle.std.proofs.Common.{◌≡◌, ◌∙◌, ℕ, Bool, List, Result, Ok, Err, sym, ap}
use Rattle.std.proofs.lemmas.Bool.{false_from_ne_true}
use Rattle.std.specs.Prelude.{IfOk}
use Rattle.bx_terms.specs.Outcomes.{Does}
use Rattle.bx_terms.specs.declared.faults.Fault.{Fault, TheVariants.Memory, TheVariants.NotIndependent}
use Rattle.bx_debug.specs.Exchanging.{may_swap, swap_by, swap_of}
use Rattle.bx_debug.specs.Sessions.{History}
use Rattle.bx_debug.specs.Swapping.{MaySwap, Swaps, swapped}
use Rattle.bx_debug.proofs.Exchanging.{may_so, so_may}
use Rattle.bx_debugger.specs.Answers.{Moves, moved}

abbrev ok_of : History → Result (History × Unit {0}) Fault
ok_of s = Ok (s, tt)

abbrev err_of : ℕ → Result (History × Unit {0}) Fault
err_of k = Err (NotIndependent k)

swap_done : (k : ℕ) (old new : History) → MaySwap k old → new ≡ swapped k old → swap_of k old ≡ Ok (new, tt)
swap_done k old new may is = ap (λ (b : Bool). swap_by b k old) (so_may k old may) ∙ ap ok_of (sym is)

swap_refused : (k position : ℕ) (old : History) → (MaySwap k old → ⊥) → position ≡ k → swap_of k old ≡ Err (NotIndependent position)
swap_refused k position old never_may is = ap (λ (b : Bool). swap_by b k old) (false_from_ne_true (may_swap k old) (λ e. never_may (may_so k old e))) ∙ ap err_of (sym is)

-- an exchange moves a session as its test tells
pub swap_moves : (k : ℕ) (old new : History) (result : Result (Unit {0}) Fault) → Swaps k old new result → Moves old new result (swap_of k old)
swap_moves k old new (Ok done) h = swap_done k old new h.0 h.1
swap_moves k old new (Err Memory) h = tt
swap_moves k old new (Err (NotIndependent position)) h = (swap_refused k position old h.1 h.0, h.2)
swap_moves k old new (Err fault) h = absurd h

-- what a session answers to it
pub swap_told : {T : Type 0} (view : T → List ℕ) (r : Result T Fault) (n k : ℕ) (old new : History) (result : Result (Unit {0}) Fault) → Swaps k old new result
    → IfOk r (λ text. (before : History) → (said : Result (History × Unit {0}) Fault) → Moves before new result said → (view text, new) ≡ moved n before said)
    → IfOk r (λ text. (view text, new) ≡ moved n old (swap_of k old))
swap_told view (Ok text) n k old new result h told = told old (swap_of k old) (swap_moves k old new result h)
swap_told view (Err fault) n k old new result h told = tt

-- a call that does what its definition says moves the session so
does_moves : (takes : Type 0) (old new : History) (result : Result (Unit {0}) Fault) (said : Result (History × Unit {0}) Fault) → Does takes old new result said → Moves old new result said
does_moves takes old new (Ok done) said h = h
does_moves takes old new (Err Memory) said h = tt
does_moves takes old new (Err fault) said h = h

pub does_told : {T : Type 0} (takes : Type 0) (view : T → List ℕ) (r : Result T Fault) (n : ℕ) (old new : History) (said : Result (History × Unit {0}) Fault) (result : Result (Unit {0}) Fault) → Does takes old new result said
    → IfOk r (λ text. (before : History) → (said : Result (History × Unit {0}) Fault) → Moves before new result said → (view text, new) ≡ moved n before said)
    → IfOk r (λ text. (view text, new) ≡ moved n old said)
does_told takes view (Ok text) n old new said result h told = told old said (does_moves takes old new result said h)
does_told takes view (Err fault) n old new said result h told = tt
