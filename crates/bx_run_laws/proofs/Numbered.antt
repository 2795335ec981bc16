-- Messages behind their numbers in order of arrival are those that arrived.
use Rattle.std.proofs.Common.{◌≡◌, ℕ, ◌+◌, ◌≤◌, List, [], ◌∷◌, ◌++◌, Some, length, refl, sym, ap, subst, ◌∙◌, arith, append_assoc, append-nil, length-append}
use Rattle.std.specs.Prelude.{map, slice_get, MatchOption}
use Rattle.bx_share.proofs.Places.{get_more, get_last}
use Rattle.bx_terms.specs.Tree.{Tree}
use Rattle.bx_mail.specs.Mail.{Mail, empty, current, first, pass_first, take_first}
use Rattle.bx_mail.specs.History.{Operation, Add, Current, Pass, Take, Reset, all_done, Numbered, numbers, messages, History, unused, recorded, all_recorded, history, Waits}
use Rattle.bx_mail.proofs.Histories.{in_order, those_left, least_waiting, plain}
use Rattle.bx_run_laws.specs.Earliest.{arrived, IsEarliest, AreLeft}

-- each stands behind the number that it arrived as
abbrev Named : List Tree → List Numbered → Type 0
Named came [] = Unit {0}
Named came (message ∷ more) = (slice_get came message.0 ≡ Some message.1) × Named came more

named_append : (came : List Tree) (xs ys : List Numbered) → Named came xs → Named came ys → Named came (xs ++ ys)
named_append came [] ys h k = k
named_append came (x ∷ xs) ys h k = (h.0, named_append came xs ys h.1 k)

named_before : (came : List Tree) (last : Tree) (xs : List Numbered) → Named came xs → Named (came ++ last ∷ []) xs
named_before came last [] h = tt
named_before came last (x ∷ xs) h = (get_more came (last ∷ []) x.0 x.1 h.0, named_before came last xs h.1)

record IsNamed (came : List Tree) (passed rest : List Numbered) (count : ℕ) : Type 0 where
  passed_are : Named came passed
  rest_are : Named came rest
  count_is : count ≡ length came

abbrev AreNamed : List Tree → History → Type 0
AreNamed came h = IsNamed came h.mail.passed h.mail.rest h.arrived

add_named : (came : List Tree) (passed rest : List Numbered) (count : ℕ) (message : Tree) → IsNamed came passed rest count → IsNamed (came ++ message ∷ []) passed (rest ++ (count, message) ∷ []) (count + 1)
add_named came passed rest count message h = record {
  passed_are = named_before came message passed h.passed_are;
  rest_are = named_append (came ++ message ∷ []) rest ((count, message) ∷ []) (named_before came message rest h.rest_are)
      (subst (λ n. slice_get (came ++ message ∷ []) n ≡ Some message) (sym h.count_is) (get_last came message), tt);
  count_is = omega (arith, h.count_is, length-append came (message ∷ []));
}

pass_named : (came : List Tree) (passed rest : List Numbered) (count : ℕ) → IsNamed came passed rest count → IsNamed came (pass_first passed rest).passed (pass_first passed rest).rest count
pass_named came passed [] count h = h
pass_named came passed (message ∷ rest) count h = record { passed_are = named_append came passed (message ∷ []) h.passed_are (h.rest_are.0, tt); rest_are = h.rest_are.1; count_is = h.count_is }

take_named : (came : List Tree) (passed rest : List Numbered) (count : ℕ) → IsNamed came passed rest count → IsNamed came (take_first passed rest).passed (take_first passed rest).rest count
take_named came passed [] count h = h
take_named came passed (message ∷ rest) count h = record { passed_are = tt; rest_are = named_append came passed rest h.passed_are h.rest_are.1; count_is = h.count_is }

all_named : (came : List Tree) (h : History) (operations : List Operation) → AreNamed came h → AreNamed (came ++ arrived operations) (all_recorded h operations)
all_named came h [] k = subst (λ all. AreNamed all h) (sym (append-nil came)) k
all_named came h (Add message ∷ more) k =
    subst (λ all. AreNamed all (all_recorded (recorded h (Add message)) more)) (append_assoc came (message ∷ []) (arrived more))
    (all_named (came ++ message ∷ []) (recorded h (Add message)) more (add_named came h.mail.passed h.mail.rest h.arrived message k))
all_named came h (Current ∷ more) k = all_named came h more k
all_named came h (Pass ∷ more) k = all_named came (recorded h Pass) more (pass_named came h.mail.passed h.mail.rest h.arrived k)
all_named came h (Take ∷ more) k = all_named came (recorded h Take) more (take_named came h.mail.passed h.mail.rest h.arrived k)
all_named came h (Reset ∷ more) k =
    all_named came (recorded h Reset) more (record { passed_are = tt; rest_are = named_append came h.mail.passed h.mail.rest k.passed_are k.rest_are; count_is = k.count_is })

named : (operations : List Operation) → AreNamed (arrived operations) (history operations)
named operations = all_named [] unused operations (record { passed_are = tt; rest_are = tt; count_is = refl })

-- the current message
abbrev pub TheEarliest : List Operation → Mail → Type 0
TheEarliest operations mail = MatchOption (current mail) ((n : ℕ) → Waits (history operations) n → ⊥) (λ m. (n : ℕ) × IsEarliest operations n m)

pub earliest : (operations : List Operation) → TheEarliest operations (all_done empty operations)
earliest operations = subst (TheEarliest operations) (plain operations) (go (history operations).mail.rest (named operations).rest_are (least_waiting operations))
  where
    go : (rest : List Numbered) → Named (arrived operations) rest
        → MatchOption (first rest) ((n : ℕ) → Waits (history operations) n → ⊥) (λ m. Waits (history operations) m.0 × ((n : ℕ) → Waits (history operations) n → m.0 ≤ n))
        → MatchOption (first (messages rest)) ((n : ℕ) → Waits (history operations) n → ⊥) (λ m. (n : ℕ) × IsEarliest operations n m)
    go [] are h = h
    go (message ∷ rest) are h = (message.0, record { arrives = are.0; waits = h.0; first = h.1 })

-- the messages that are left
stand : (came : List Tree) (xs ys : List Numbered) → Named came xs → Named came ys → map (slice_get came) (numbers xs ++ numbers ys) ≡ map Some (messages xs ++ messages ys)
stand came [] [] h k = refl
stand came [] (y ∷ ys) h k = ap (λ o. o ∷ map (slice_get came) (numbers ys)) k.0 ∙ ap (λ os. Some y.1 ∷ os) (stand came [] ys h k.1)
stand came (x ∷ xs) ys h k = ap (λ o. o ∷ map (slice_get came) (numbers xs ++ numbers ys)) h.0 ∙ ap (λ os. Some x.1 ∷ os) (stand came xs ys h.1 k)

pub those_stand : (operations : List Operation) → AreLeft operations ((all_done empty operations).passed ++ (all_done empty operations).rest)
those_stand operations =
    let h = history operations in
    subst (λ mail. AreLeft operations (mail.passed ++ mail.rest)) (plain operations) (record {
      numbers = numbers h.mail.passed ++ numbers h.mail.rest;
      rise = in_order operations;
      left = those_left operations;
      arrive = stand (arrived operations) h.mail.passed h.mail.rest (named operations).passed_are (named operations).rest_are;
    })
