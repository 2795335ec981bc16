-- What was done to a mailbox, and what came of it, with the messages numbered in order of arrival, from 0.
use Rattle.std.specs.Prelude.{◌≡◌, ℕ, ◌+◌, ◌<◌, ◌⊎◌, List, [], ◌∷◌, ◌++◌, Option, Some, None}
use Rattle.bx_terms.specs.Tree.{Tree}
use Rattle.bx_mail.specs.Mail.{Box, Mail, empty, added, current, passed_over, taken, reset}

pub data Operation : Type 0 where
  Add : Tree → Operation
  Current : Operation
  Pass : Operation
  Take : Operation
  Reset : Operation

-- what an operation makes of a mailbox
abbrev pub done : Mail → Operation → Mail
done mail (Add message) = added mail message
done mail Current = mail
done mail Pass = passed_over mail
done mail Take = taken mail
done mail Reset = reset mail

abbrev pub all_done : Mail → List Operation → Mail
all_done mail [] = mail
all_done mail (operation ∷ operations) = all_done (done mail operation) operations

-- a message, behind its number
abbrev pub Numbered : Type 0
Numbered = ℕ × Tree

abbrev pub numbers : List Numbered → List ℕ
numbers [] = []
numbers (message ∷ behind) = message.0 ∷ numbers behind

abbrev pub messages : List Numbered → List Tree
messages [] = []
messages (message ∷ behind) = message.1 ∷ messages behind

abbrev pub unnumbered : Box Numbered → Mail
unnumbered mail = record { passed = messages mail.passed; rest = messages mail.rest }

-- how many messages arrived, the numbers of those that a take gave, and the numbers of those that were passed over since
-- the last reset, or the last take that gave a message
pub record History : Type 0 where
  pub mail : Box Numbered
  pub arrived : ℕ
  pub gone : List ℕ
  pub skipped : List ℕ

abbrev pub unused : History
unused = record { mail = empty; arrived = 0; gone = []; skipped = [] }

abbrev pub and_its_number : List ℕ → Option Numbered → List ℕ
and_its_number numbers None = numbers
and_its_number numbers (Some message) = numbers ++ message.0 ∷ []

abbrev pub forgotten_with : List ℕ → Option Numbered → List ℕ
forgotten_with numbers None = numbers
forgotten_with numbers (Some message) = []

abbrev pub recorded : History → Operation → History
recorded h (Add message) = record { mail = added h.mail (h.arrived, message); arrived = h.arrived + 1; gone = h.gone; skipped = h.skipped }
recorded h Current = h
recorded h Pass = record { mail = passed_over h.mail; arrived = h.arrived; gone = h.gone; skipped = and_its_number h.skipped (current h.mail) }
recorded h Take = record { mail = taken h.mail; arrived = h.arrived; gone = and_its_number h.gone (current h.mail); skipped = forgotten_with h.skipped (current h.mail) }
recorded h Reset = record { mail = reset h.mail; arrived = h.arrived; gone = h.gone; skipped = [] }

abbrev pub all_recorded : History → List Operation → History
all_recorded h [] = h
all_recorded h (operation ∷ operations) = all_recorded (recorded h operation) operations

abbrev pub history : List Operation → History
history operations = all_recorded unused operations

-- n is one of the numbers
abbrev pub In : ℕ → List ℕ → Type 0
In n [] = ⊥
In n (number ∷ numbers) = (n ≡ number) ⊎ In n numbers

abbrev pub AllAbove : ℕ → List ℕ → Type 0
AllAbove n [] = Unit {0}
AllAbove n (number ∷ numbers) = (n < number) × AllAbove n numbers

-- each number is below all that follow
abbrev pub Rises : List ℕ → Type 0
Rises [] = Unit {0}
Rises (number ∷ numbers) = AllAbove number numbers × Rises numbers

-- the message of this number arrived, and no take gave it
abbrev pub IsLeft : History → ℕ → Type 0
IsLeft h n = (n < h.arrived) × (In n h.gone → ⊥)

-- nor was it passed over since the last reset, or the last take that gave a message
abbrev pub Waits : History → ℕ → Type 0
Waits h n = IsLeft h n × (In n h.skipped → ⊥)
