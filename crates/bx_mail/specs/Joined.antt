-- How the slots of a mailbox are joined.
use Rattle.std.specs.Prelude.{◌≡◌, ℕ, zero, suc, ◌+◌, ◌-◌, ◌<◌, ◌^◌, List, [], ◌∷◌, ◌++◌, Option, Some, None, length, slice_get}
use Rattle.bx_terms.specs.Tree.{Tree}
use Rattle.bx_mail.specs.declared.slots.Slot.{Slot}
use Rattle.bx_mail.specs.Mail.{Mail}
use Rattle.bx_mail.specs.Slots.{full, vacant, contents, link_behind}

-- from one link the slots lead through exactly these messages to the other link
abbrev pub Leads : List Slot → List Tree → Option ℕ → Option ℕ → Type 0
Leads slots [] from to = from ≡ to
Leads slots (message ∷ messages) from to =
    (at : ℕ) × (next : Option ℕ) × (from ≡ Some at) × (slice_get slots at ≡ Some (full message next)) × Leads slots messages next to

-- this link names the slot of the last of these messages, which begin where the other link leads
abbrev pub Ends : List Slot → List Tree → Option ℕ → Option ℕ → Type 0
Ends slots messages from None = messages ≡ []
Ends slots messages from (Some at) =
    (front : List Tree) × (message : Tree) × (messages ≡ front ++ message ∷ []) × Leads slots front from (Some at)

-- so many free slots, one after another, from where a link leads
abbrev pub Frees : List Slot → ℕ → Option ℕ → Type 0
Frees slots zero link = link ≡ None
Frees slots (suc n) link =
    (at : ℕ) × (next : Option ℕ) × (link ≡ Some at) × (slice_get slots at ≡ Some (vacant next)) × Frees slots n next

-- The slots from the first on hold the messages passed over and then the rest; the saved link names the last one passed
-- over, and the last link the last of all; the free slots are the others, each once.
pub record Joined (slots : List Slot) (first last saved free : Option ℕ) (passed len : ℕ) (mail : Mail) : Type 0 where
  pub order : Leads slots (mail.passed ++ mail.rest) first None
  pub at_saved : Ends slots mail.passed first saved
  pub at_last : Ends slots (mail.passed ++ mail.rest) first last
  pub passed_is : passed ≡ length mail.passed
  pub len_is : len ≡ length (mail.passed ++ mail.rest)
  pub spare : ℕ
  pub others : spare + len ≡ length slots
  pub frees : Frees slots spare free
  pub bounded : length slots < 2 ^ 32

-- the messages, as the links and the counts part them
abbrev pub parted : List Slot → Option ℕ → Option ℕ → ℕ → ℕ → Mail
parted slots first saved passed len =
    record { passed = contents slots passed first; rest = contents slots (len - passed) (link_behind slots first saved) }
