-- The code of the listings in order, or the first fault: each file is read and assembled before the next one is looked at.
use Rattle.std.specs.Prelude.{◌≡◌, ℕ, ◌+◌, List, [], ◌∷◌, ◌++◌, None, Some, Result, Ok, Err, IsOk, ◌<◌, if◌then◌else◌, length, nat_lt, take}
use Rattle.bx_terms.specs.declared.faults.Fault.{Fault, TheVariants.TooLarge, TheVariants.Memory}
use Rattle.bx_text.specs.Place.{place_in}
use Rattle.bx_listing.specs.Code.{Code}
use Rattle.bx_listing.specs.Forms.{forms, last_line}
use Rattle.bx_listing.specs.ListedCode.{ListedModule}
use Rattle.bx_listing.specs.Listing.{listing}
use Rattle.bx_listing.specs.Reading.{Table, Outcome, read, refused}
use Rattle.bx_asm.specs.Limits.{assembled}
use Rattle.bx_engine.specs.Inputs.{input_limit}
use Rattle.bx_engine.specs.declared.failures.Failure.{Failure, TheVariants.Refused, TheVariants.Read}

-- what follows is looked at only where what came first was good
infixl 10 ◌>>=◌
abbrev pub ◌>>=◌ : {A B E : Type 0} → Result A E → (A → Result B E) → Result B E
(Ok x) >>= f = f x
(Err e) >>= f = Err e

-- a fault of the file of that number; out of memory is no file's fault
abbrev pub fault_in : ℕ → Fault → Failure
fault_in n Memory = Refused Memory None
fault_in n fault = Refused fault (Some n)

-- the fault of the file of that number
abbrev pub in_file : {A : Type 0} → ℕ → Result A Fault → Result A Failure
in_file n (Ok x) = Ok x
in_file n (Err fault) = Err (Refused fault (Some n))

abbrev pub with_table : {A : Type 0} → Table → Result A Fault → Result (Table × A) Fault
with_table texts (Ok x) = Ok (texts, x)
with_table texts (Err fault) = Err fault

-- a listing that was read is assembled
abbrev pub assembled_read : Outcome ListedModule → Result (Table × Code) Fault
assembled_read (read texts m) = with_table texts (assembled m)
assembled_read (refused texts fault) = Err fault

-- the code of a listing's text
abbrev pub unit_of : Table → List ℕ → Result (Table × Code) Fault
unit_of texts text = assembled_read ((listing (last_line text) (forms (place_in text 0))).run texts)

-- the text of the file of that number, of at most 16,777,216 bytes
abbrev pub sized : ℕ → List ℕ → Result (List ℕ) Failure
sized n text = if nat_lt input_limit (length text) then Err (Refused TooLarge (Some n)) else Ok text

-- the code of the listing in the file of that number
abbrev pub unit_in : ℕ → Table → List ℕ → Result (Table × Code) Failure
unit_in n texts text = sized n text >>= λ bytes. in_file n (unit_of texts bytes)

-- the files from number n on, with the table and the code that those before it came to
abbrev pub units_from : ℕ → Table → List Code → List (List ℕ) → Result (Table × List Code) Failure
units_from n texts done [] = Ok (texts, done)
units_from n texts done (text ∷ more) = unit_in n texts text >>= λ u. units_from (n + 1) u.0 (done ++ u.1 ∷ []) more

-- the code of all the files, and the table of its atoms
abbrev pub units_of : Table → List (List ℕ) → Result (Table × List Code) Failure
units_of texts given = units_from 0 texts [] given

-- The answer for the file of that number: what it comes to, or that it can't be read; out of memory is no file's fault.
abbrev pub FileGives : {X A : Type 0} → (X → A) → ℕ → Result X Failure → Result A Failure → Type 0
FileGives view n (Ok x) said = said ≡ Ok (view x)
FileGives view n (Err (Refused Memory file)) said = file ≡ None
FileGives view n (Err (Refused fault file)) said = said ≡ Err (Refused fault file)
FileGives view n (Err (Read file)) said = file ≡ n
FileGives view n (Err failure) said = ⊥

-- The answer for files whose bytes are known: what they come to, or their first fault. A file that can't be read is one before
-- which nothing is at fault, as `clear` says.
abbrev pub FilesGive : {X A : Type 0} → (X → A) → Result X Failure → (ℕ → Type 0) → Result A Failure → Type 0
FilesGive view (Ok x) clear said = said ≡ Ok (view x)
FilesGive view (Err (Refused Memory file)) clear said = file ≡ None
FilesGive view (Err (Refused fault file)) clear said = said ≡ Err (Refused fault file)
FilesGive view (Err (Read file)) clear said = clear file
FilesGive view (Err failure) clear said = ⊥

-- the files before that number have no fault
abbrev pub ClearBefore : Table → List (List ℕ) → ℕ → Type 0
ClearBefore texts given n = (n < length given) × IsOk (units_of texts (take n given))
