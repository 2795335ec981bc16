-- A mailbox: the messages that were passed over, in order of arrival, and the rest, whose first is the current message.
-- Source: The BEAM Book, "The Mailbox"; Erlang Reference Manual, "Receive".
use Rattle.std.specs.Prelude.{List, [], ◌∷◌, ◌++◌, Option, Some, None, refl}
use Rattle.std.specs.Coded.{Coded, code_by, coded×, coded_list}
use Rattle.bx_terms.specs.Tree.{Tree}

-- a mailbox for messages of any kind
pub record Box (Message : Type 0) : Type 0 where
  pub passed : List Message
  pub rest : List Message

abbrev pub Mail : Type 0
Mail = Box Tree

-- a mailbox is stored as the pair of its lists
abbrev pub mail_code : Coded Tree → Coded Mail
mail_code tree =
    code_by (List Tree × List Tree) (coded× (coded_list tree) (coded_list tree))
    (λ m. (m.passed, m.rest))
    (λ p. record { passed = p.0; rest = p.1 })
    (λ _. refl)

abbrev pub empty : {M : Type 0} → Box M
empty = record { passed = []; rest = [] }

-- a message that arrives comes last
abbrev pub added : {M : Type 0} → Box M → M → Box M
added mail message = record { passed = mail.passed; rest = mail.rest ++ message ∷ [] }

-- the current message is the first of the rest
abbrev pub first : {M : Type 0} → List M → Option M
first [] = None
first (message ∷ rest) = Some message

abbrev pub current : {M : Type 0} → Box M → Option M
current mail = first mail.rest

-- the current message is passed over: it stays, behind those passed before
abbrev pub pass_first : {M : Type 0} → List M → List M → Box M
pass_first passed [] = record { passed = passed; rest = [] }
pass_first passed (message ∷ rest) = record { passed = passed ++ message ∷ []; rest = rest }

abbrev pub passed_over : {M : Type 0} → Box M → Box M
passed_over mail = pass_first mail.passed mail.rest

-- the current message is taken out, and nothing is passed over any more; without a current message nothing changes
abbrev pub take_first : {M : Type 0} → List M → List M → Box M
take_first passed [] = record { passed = passed; rest = [] }
take_first passed (message ∷ rest) = record { passed = []; rest = passed ++ rest }

abbrev pub taken : {M : Type 0} → Box M → Box M
taken mail = take_first mail.passed mail.rest

-- nothing is passed over any more
abbrev pub reset : {M : Type 0} → Box M → Box M
reset mail = record { passed = []; rest = mail.passed ++ mail.rest }
