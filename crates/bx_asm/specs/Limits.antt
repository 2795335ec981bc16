-- Which listings can be assembled: the limits on sizes, registers and labels, and the first that a listing breaks.
use Rattle.std.specs.Prelude.{◌≡◌, ℕ, ◌+◌, List, [], ◌∷◌, ◌++◌, Bool, true, ◌&&◌, if◌then◌else◌, Option, Some, None, Result, Ok, Err, length, fold, nat_le, nat_eq, option_map, IsSome}
use Rattle.std.specs.List.{list_any, list_all, flat_map}
use Rattle.bx_terms.specs.declared.faults.Fault.{Fault}
use Rattle.bx_terms.specs.declared.faults.Fault.TheVariants.{LabelTwice, LabelMissing, EntryMissing, RegisterRange, TooLarge, Memory}
use Rattle.bx_ops.specs.declared.opcode.Op.{Op}
use Rattle.bx_ops.specs.declared.opcode.Op.TheVariants as ops
use Rattle.bx_listing.specs.declared.items.Operand.{Operand}
use Rattle.bx_listing.specs.declared.items.Operand.TheVariants as operands
use Rattle.bx_listing.specs.declared.items.Import.{Import}
use Rattle.bx_listing.specs.Items.{Item, PlacedItem}
use Rattle.bx_listing.specs.ListedCode.{ListedFunction, ListedModule}
use Rattle.bx_listing.specs.Stored.{operands_in}
use Rattle.bx_listing.specs.Code.{Code, code, items_of}
use Rattle.bx_asm.specs.Meaning.{as_place, as_label, as_import}

-- the first of a list that has something to show, and what it shows
abbrev pub or_else : {B : Type 0} → Option B → Option B → Option B
or_else (Some b) other = Some b
or_else None other = other

abbrev pub first : {A B : Type 0} → (A → Option B) → List A → Option B
first f [] = None
first f (x ∷ xs) = or_else (f x) (first f xs)

-- the operands of all items of a function, in order
abbrev pub operands_of : ListedFunction → List Operand
operands_of f = operands_in (items_of f.items)

-- labels are numbered 1 to 1,000,000, a function takes at most 255 arguments, and a list has at most 65,535 members
abbrev pub is_label : ℕ → Bool
is_label n = nat_le 1 n && nat_le n 1000000

abbrev pub is_arity : ℕ → Bool
is_arity n = nat_le n 255

abbrev pub is_small : Operand → Bool
is_small (operands.Place n) = is_label n
is_small (operands.Arity n) = is_arity n
is_small (operands.Import i) = is_arity i.arity
is_small (operands.List n) = nat_le n 65535
is_small _ = true

abbrev pub count : List ListedFunction → ℕ
count [] = 0
count (f ∷ fs) = length f.items + count fs

-- within every limit of size but that on imports
abbrev pub is_within : ListedModule → Bool
is_within m =
    nat_le (count m.functions) 1000000
    && (list_all (λ e. is_arity e.arity) m.exports
    && list_all (λ f. is_arity f.arity && list_all is_small (operands_of f)) m.functions)

-- the different functions that are called by their names, in order of first use
abbrev pub same_import : Import → Import → Bool
same_import i j = nat_eq i.«module».0 j.«module».0 && (nat_eq i.function.0 j.function.0 && nat_eq i.arity j.arity)

abbrev pub with_import : List Import → Option Import → List Import
with_import held (Some i) = if list_any (same_import i) held then held else held ++ i ∷ []
with_import held None = held

abbrev pub imports_after : List Import → List Operand → List Import
imports_after held os = fold (λ h o. with_import h (as_import o)) held os

abbrev pub imports_from : List Import → List ListedFunction → List Import
imports_from held fs = fold (λ h f. imports_after h (operands_of f)) held fs

abbrev pub imports : List ListedFunction → List Import
imports fs = imports_from [] fs

abbrev pub size_fault : ListedModule → Option Fault
size_fault m = if is_within m && nat_le (length (imports m.functions)) 65535 then None else Some TooLarge

-- registers are numbered 0 to 1022, and a new frame has at most 1,023
abbrev pub is_register : Operand → Bool
is_register (operands.X n) = nat_le n 1022
is_register (operands.Y n) = nat_le n 1022
is_register _ = true

abbrev pub is_frame : List Operand → Bool
is_frame (operands.Number n ∷ rest) = nat_le n 1023
is_frame _ = true

abbrev pub has_frame : Op → List Operand → Bool
has_frame ops.Allocate os = is_frame os
has_frame ops.AllocateHeap os = is_frame os
has_frame _ os = true

abbrev pub has_registers : Item → Bool
has_registers i = list_all is_register i.operands && has_frame i.op i.operands

-- the line of an item with a register or a frame out of range
abbrev pub register_fault : PlacedItem → Option ℕ
register_fault p = if has_registers p.item then None else Some p.line

abbrev pub register_faults : ListedModule → Option ℕ
register_faults m = first (λ f. first register_fault f.items) m.functions

-- the labels of a function, and of a module, in order
abbrev pub with_label : Option ℕ → List ℕ → List ℕ
with_label (Some n) ns = n ∷ ns
with_label None ns = ns

abbrev pub labels : List Operand → List ℕ
labels [] = []
labels (o ∷ os) = with_label (as_place o) (labels os)

abbrev pub all_labels : List ListedFunction → List ℕ
all_labels fs = flat_map (λ f. labels (operands_of f)) fs

-- the first label that stands again, behind those seen
abbrev pub again : List ℕ → List ℕ → Option ℕ
again seen [] = None
again seen (n ∷ ns) = if list_any (nat_eq n) seen then Some n else again (seen ++ n ∷ []) ns

-- the label that is meant, where it is not among these; there is no label 0
abbrev pub missing : List ℕ → Option ℕ → Option ℕ
missing ls None = None
missing ls (Some n) = if list_any (nat_eq n) ls then None else Some n

abbrev pub target_fault : List ℕ → Operand → Option ℕ
target_fault ls o = missing ls (as_label o)

abbrev pub target_faults : List ℕ → List ListedFunction → Option ℕ
target_faults ls fs = first (λ f. first (target_fault ls) (operands_of f)) fs

-- the first function whose entry is none of its own labels; functions are numbered from 0
abbrev pub entry_faults : ℕ → List ListedFunction → Option ℕ
entry_faults k [] = None
entry_faults k (f ∷ fs) = if list_any (nat_eq f.entry) (labels (operands_of f)) then entry_faults (k + 1) fs else Some k

-- sizes first, then registers, labels that stand twice, labels that are not there, and entries, each over the whole listing
abbrev pub first_fault : ListedModule → Option Fault
first_fault m =
    or_else (size_fault m)
    (or_else (option_map RegisterRange (register_faults m))
    (or_else (option_map LabelTwice (again [] (all_labels m.functions)))
    (or_else (option_map LabelMissing (target_faults (all_labels m.functions) m.functions))
    (option_map EntryMissing (entry_faults 0 m.functions)))))

abbrev pub or_refused : {A : Type 0} → A → Option Fault → Result A Fault
or_refused x None = Ok x
or_refused x (Some fault) = Err fault

-- a listing is assembled to its own code form
abbrev pub assembled : ListedModule → Result Code Fault
assembled m = or_refused (code m) (first_fault m)

-- the first call of a function by its name
abbrev pub first_call : List ListedFunction → Option Import
first_call fs = first (λ f. first as_import (operands_of f)) fs

-- the first label
abbrev pub first_label : List ListedFunction → Option ℕ
first_label fs = first (λ f. first as_place (operands_of f)) fs

-- the first label that stands twice; memory may run out only where there is a label
abbrev pub RefusesLabels : List ListedFunction → Fault → Type 0
RefusesLabels fs (LabelTwice n) = again [] (all_labels fs) ≡ Some n
RefusesLabels fs Memory = IsSome (first_label fs)
RefusesLabels fs _ = ⊥
