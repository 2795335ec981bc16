-- Messages in slots that are joined by slot numbers: what is read along the links.
use Rattle.std.specs.Prelude.{◌≡◌, ℕ, zero, suc, List, [], ◌∷◌, ◌++◌, Option, Some, None, length, slice_get, slice_set}
use Rattle.bx_terms.specs.Tree.{Tree}
use Rattle.bx_mail.specs.declared.slots.Slot.{Slot}

abbrev pub full : Tree → Option ℕ → Slot
full message next = record { message = Some message; next = next }

abbrev pub vacant : Option ℕ → Slot
vacant next = record { message = None; next = next }

-- what stands in a slot, where there is one
abbrev pub message_in : Option Slot → Option Tree
message_in None = None
message_in (Some slot) = slot.message

abbrev pub next_in : Option Slot → Option ℕ
next_in None = None
next_in (Some slot) = slot.next

-- what a link leads to
abbrev pub message_of : List Slot → Option ℕ → Option Tree
message_of slots None = None
message_of slots (Some at) = message_in (slice_get slots at)

abbrev pub next_of : List Slot → Option ℕ → Option ℕ
next_of slots None = None
next_of slots (Some at) = next_in (slice_get slots at)

-- the link behind a slot, or the first link
abbrev pub link_behind : List Slot → Option ℕ → Option ℕ → Option ℕ
link_behind slots first None = first
link_behind slots first (Some at) = next_in (slice_get slots at)

abbrev pub before : Option Tree → List Tree → List Tree
before None messages = messages
before (Some message) messages = message ∷ messages

-- the messages of so many slots, from where a link leads
abbrev pub contents : List Slot → ℕ → Option ℕ → List Tree
contents slots zero link = []
contents slots (suc n) link = before (message_of slots link) (contents slots n (next_of slots link))

-- what stands in so many slots, from where a link leads
abbrev pub row : List Slot → ℕ → Option ℕ → List (Option Tree)
row slots zero link = []
row slots (suc n) link = message_of slots link ∷ row slots n (next_of slots link)

-- the slots after the link behind a slot, or the first link, was made to lead elsewhere
abbrev pub Relinked : List Slot → List Slot → Option ℕ → Option ℕ → Option ℕ → Option ℕ → Type 0
Relinked old new old_first new_first None to = (new_first ≡ to) × (new ≡ old)
Relinked old new old_first new_first (Some at) to = (new_first ≡ old_first) × (new ≡ slice_set old at (record { message = message_in (slice_get old at); next = to }))

-- the slots after a free one was looked for: the first of the free slots, or a new one at the end
abbrev pub Opened : List Slot → List Slot → Option ℕ → ℕ → Type 0
Opened old new None at = (at ≡ length old) × (new ≡ old ++ vacant None ∷ [])
Opened old new (Some free) at = (at ≡ free) × (new ≡ old)

-- the last slot, once the one between two links is taken out: the slot before it, if no slot is behind it
abbrev pub last_behind : Option ℕ → Option ℕ → Option ℕ → Option ℕ
last_behind before None last = before
last_behind before (Some next) last = last
