-- The start of a run: `M:F`, each one atom's token, bare or quoted as Erlang's reference manual
-- has it, with nothing around them.
use Rattle.std.specs.Prelude.{◌≡◌, ◌+◌, ◌==◌, ℕ, Bool, List, Option, Some, None, Result, Ok, Err, IsSome}
use Rattle.std.specs.Prelude.{false, if◌then◌else◌, length, slice_get}
use Rattle.std.specs.Option.{option_map_or}
use Rattle.bx_terms.specs.declared.faults.Fault.{Fault, TheVariants.Memory}
use Rattle.bx_text.specs.Forms.{atom_in}
use Rattle.bx_engine.specs.declared.failures.Failure.{Failure, TheVariants.Refused, TheVariants.Read, TheVariants.Write, TheVariants.Start}

-- an atom, and where its token ends, where it is a good one
abbrev pub good_token : Result (Option (List ℕ × ℕ)) Fault → Option (List ℕ × ℕ)
good_token (Ok token) = token
good_token (Err fault) = None

abbrev pub token_in : List ℕ → ℕ → Option (List ℕ × ℕ)
token_in text at = good_token (atom_in text at)

-- the start whose function's token this is, which the text ends with
abbrev pub ended_by : List ℕ → List ℕ → Option (List ℕ × ℕ) → Option (List ℕ × List ℕ)
ended_by text m None = None
ended_by text m (Some f) = if f.1 == length text then Some (m, f.0) else None

abbrev pub has_colon : Option ℕ → Bool
has_colon code = option_map_or (λ c. c == 58) code false

-- the start whose module's token this is, behind which a colon stands
abbrev pub begun_by : List ℕ → Option (List ℕ × ℕ) → Option (List ℕ × List ℕ)
begun_by text None = None
begun_by text (Some m) = if has_colon (slice_get text m.1)
    then ended_by text m.0 (token_in text (m.1 + 1)) else None

abbrev pub start_in : List ℕ → Option (List ℕ × List ℕ)
start_in text = begun_by text (token_in text 0)

-- the text names no start; memory may run out only where an atom begins it
abbrev pub IsNoStart : List ℕ → Failure → Type 0
IsNoStart text Start = start_in text ≡ None
IsNoStart text (Refused Memory None) = IsSome (token_in text 0)
IsNoStart text (Refused fault file) = ⊥
IsNoStart text (Read file) = ⊥
IsNoStart text Write = ⊥
