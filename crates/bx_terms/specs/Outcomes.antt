-- How a call's answer stands to the definition that it computes.
-- A definition answers `Ok value` or `Err fault`, the first fault; it never answers Memory.
use Rattle.std.specs.Prelude.{◌≡◌, Result, Ok, Err}
use Rattle.bx_terms.specs.declared.faults.Fault.{Fault, TheVariants.Memory}

-- what follows is looked at only where what came first was good
infixl 10 ◌>>=◌
abbrev pub ◌>>=◌ : {A B E : Type 0} → Result A E → (A → Result B E) → Result B E
(Ok x) >>= f = f x
(Err e) >>= f = Err e

-- a reader's answer: the value, seen by `view`, or the fault; out of memory only where `takes` holds
abbrev pub Gives : {X A : Type 0} → Type 0 → (X → A) → Result X Fault → Result A Fault → Type 0
Gives takes view (Ok x) said = said ≡ Ok (view x)
Gives takes view (Err Memory) said = takes
Gives takes view (Err fault) said = said ≡ Err fault

-- a change's answer: what the definition makes of the old value, or the fault and nothing changed
abbrev pub Does : {S A : Type 0} → Type 0 → S → S → Result A Fault → Result (S × A) Fault → Type 0
Does takes old new (Ok x) said = said ≡ Ok (new, x)
Does takes old new (Err Memory) said = takes × (new ≡ old)
Does takes old new (Err fault) said = (said ≡ Err fault) × (new ≡ old)

-- a refusal, where a call's answer has a shape of its own: the definition's fault; out of memory only where `takes` holds
abbrev pub Refuses : {A : Type 0} → Type 0 → Fault → Result A Fault → Type 0
Refuses takes Memory said = takes
Refuses takes fault said = said ≡ Err fault
