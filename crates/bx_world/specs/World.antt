-- A world: its processes by pid, what they share, and the trap that halted it.
-- Source: Erlang Reference Manual, "Processes"; traps are this emulator's own.
use Rattle.std.specs.Prelude.{◌≡◌, ℕ, List, [], ◌∷◌, ◌⊎◌, Option, Some, None, Result, Ok, Err, refl}
use Rattle.std.specs.FinMap as map
use Rattle.std.specs.Coded.{Coded, code_by, coded×, coded⊎, coded_ℕ, coded_list, coded_option}
use Rattle.std.proofs.Common.{inl, inr}
use Rattle.bx_terms.specs.Tree.{Tree}
use Rattle.bx_terms.specs.declared.atom_table.AtomId.{AtomId}
use Rattle.bx_terms.specs.declared.faults.Fault.{Fault, TheVariants.NoEntry}
use Rattle.bx_terms.specs.declared.kinds.Trap.{Trap}
use Rattle.bx_terms.specs.declared.places.Place.{Place}
use Rattle.bx_load.specs.Image.{Loaded, export}
use Rattle.bx_proc.specs.Process.{Process, new_process}
use Rattle.bx_world.specs.declared.lanes.Lanes.{Lanes}

-- a pid's life: a process, or of one that has ended the reason alone
pub data Life : Type 0 where
  Live : Process → Life
  Exited : Tree → Life

pub record State : Type 0 where
  -- by pid, from 0
  pub processes : List Life
  -- the signals that wait, and each term that was displayed, behind the pid of the process that displayed it
  pub lanes : Lanes
  -- why no choice is enabled any more, and whose run or signal it was
  pub trap : Option (Trap × ℕ)

-- at the start there is one process, at the entry of its function
abbrev pub begun : Place → State
begun place = record { processes = Live (new_process (Some place) []) ∷ []; lanes = record { channels = map.empty; output = [] }; trap = None }

abbrev pub begun_at : Option Place → Result State Fault
begun_at None = Err NoEntry
begun_at (Some place) = Ok (begun place)

-- the function without arguments that the module exports under that name
abbrev pub started : Loaded → AtomId → AtomId → Result State Fault
started image m f = begun_at (export image m f 0)

-- what a proof tells two of them apart by
abbrev pub life_in : Process ⊎ Tree → Life
life_in (inl p) = Live p
life_in (inr r) = Exited r

abbrev pub life_out : Life → Process ⊎ Tree
life_out (Live p) = inl p
life_out (Exited r) = inr r

abbrev pub life_code : Coded Process → Coded Tree → Coded Life
life_code process tree = code_by (Process ⊎ Tree) (coded⊎ process tree) life_out life_in (λ l. elim l as (λ m. life_in (life_out m) ≡ m) [ Live p ↦ refl | Exited r ↦ refl ])

abbrev pub state_code : Coded Process → Coded Tree → Coded Lanes → Coded Trap → Coded State
state_code process tree lanes trap =
    code_by
    (List Life × (Lanes × Option (Trap × ℕ)))
    (coded× (coded_list (life_code process tree)) (coded× lanes (coded_option (coded× trap coded_ℕ))))
    (λ w. (w.processes, (w.lanes, w.trap)))
    (λ t. record { processes = t.0; lanes = t.1.0; trap = t.1.1 })
    (λ _. refl)
