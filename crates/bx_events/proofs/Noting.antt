-- What a ledger knows behind one more signal and one more event.
use Rattle.std.proofs.Common.{◌≡◌, inl, inr, ℕ, zero, suc, ◌+◌, List, [], ◌∷◌, ◌++◌, Bool, true, false, ◌&&◌, cond, length, map, take, refl, sym, ap, ◌∙◌, arith, get_or, ◌<◌, append-nil, append_assoc, length-append}
use Rattle.std.specs.Prelude.{Some, if◌then◌else◌, nat_eq, slice_get}
use Rattle.std.specs.Ordering.{is_eq}
use Rattle.std.proofs.lemmas.Bool.{cases_Bool}
use Rattle.std.proofs.lemmas.Bool.Decides.{nat_tests}
use Rattle.std.proofs.lemmas.List.{take_more, map-append}
use Rattle.bx_signals.proofs.Maps.{equal_pair}
use Rattle.bx_world.specs.Posting.{same_pair}
use Rattle.bx_events.specs.declared.events.Event.{Event}
use Rattle.bx_events.specs.declared.events.Put.{Put}
use Rattle.bx_events.specs.declared.ledgers.Ledger.{Ledger}
use Rattle.bx_events.specs.Ledgers.{by_number, Keeps, Knows}
use Rattle.bx_events.specs.Flows.{put_at, put_from}
use Rattle.bx_events.specs.Pairing.{arrival, arrivals, by_puts, senders, senders_from}
use Rattle.bx_events.proofs.Flowing.{both, by_puts_are, put_more, row_of, senders_are}

-- what is known of channels that are told in another way
pub along : (put other : ℕ × ℕ → List ℕ) (heard also : ℕ × ℕ → ℕ) (l : Ledger) → Knows put heard l → ((q : ℕ × ℕ) → put q ≡ other q) → ((q : ℕ × ℕ) → heard q ≡ also q) → Knows other also l
along put other heard also l k p h = record {
  puts = λ q. k.puts q ∙ ap length (p q);
  arrivals = λ q. k.arrivals q ∙ h q;
  senders = λ q n. k.senders q n ∙ ap (λ (xs : List ℕ). slice_get xs n) (p q);
}

-- ---- one signal more

pub same_slot : (p q : ℕ × ℕ) (m n : ℕ) → is_eq (by_number (p, m) (q, n)) ≡ (same_pair q p && nat_eq n m)
same_slot p q m n = grind (arith, nat_tests)

get_last : (xs : List ℕ) (x n : ℕ) (b : Bool) → nat_eq n (length xs) ≡ b → slice_get (xs ++ x ∷ []) n ≡ cond b (Some x) (slice_get xs n)
get_last [] x zero b e = grind (arith, nat_tests)
get_last [] x (suc n) b e = grind (arith, nat_tests)
get_last (y ∷ xs) x zero b e = grind (arith, nat_tests)
get_last (y ∷ xs) x (suc n) b e = get_last xs x n b (grind (arith, nat_tests))

-- it stands behind the others of its channel
behind_put : (put : ℕ × ℕ → List ℕ) (p q : ℕ × ℕ) (at m n : ℕ) → m ≡ length (put p)
    → cond (same_pair q p && nat_eq n m) (Some at) (slice_get (put q) n) ≡ slice_get (if same_pair q p then put q ++ at ∷ [] else put q) n
behind_put put p q at m n count = elim (cases_Bool (same_pair q p)) [
  | inl e ↦ rw e (sym (get_last (put q) at n (nat_eq n m) (ap (nat_eq n) (sym (count ∙ ap (λ (k : ℕ × ℕ). length (put k)) (sym (equal_pair q p e)))))))
  | inr e ↦ rw e
]

pub sender_more : (put : ℕ × ℕ → List ℕ) (p q : ℕ × ℕ) (at m n : ℕ) → m ≡ length (put p)
    → cond (is_eq (by_number (p, m) (q, n))) (Some at) (slice_get (put q) n) ≡ slice_get (if same_pair q p then put q ++ at ∷ [] else put q) n
sender_more put p q at m n count = ap (λ b. cond b (Some at) (slice_get (put q) n)) (same_slot p q m n) ∙ behind_put put p q at m n count

pub count_more : (b : Bool) (xs : List ℕ) (at n : ℕ) → n ≡ length xs → (if b then n + 1 else n) ≡ length (if b then xs ++ at ∷ [] else xs)
count_more true xs at n e = omega (arith, e, length-append xs (at ∷ []))
count_more false xs at n e = e

-- ---- the signals of one event

by_puts_append : (q : ℕ × ℕ) (p at : ℕ) (xs ys : List Put) → by_puts q p at (xs ++ ys) ≡ by_puts q p at xs ++ by_puts q p at ys
by_puts_append q p at [] ys = refl
by_puts_append q p at (x ∷ xs) ys = both (same_pair q (p, x.to)) at (by_puts q p at xs) (by_puts q p at ys) (by_puts q p at (xs ++ ys)) (by_puts_append q p at xs ys)

one_more : (b : Bool) (old xs : List ℕ) (at : ℕ) → (if b then (old ++ xs) ++ at ∷ [] else old ++ xs) ≡ old ++ (xs ++ (if b then at ∷ [] else []))
one_more true old xs at = append_assoc old xs (at ∷ [])
one_more false old xs at = ap (λ (zs : List ℕ). old ++ zs) (sym (append-nil xs))

pub put_next : (old : List ℕ) (q : ℕ × ℕ) (p at : ℕ) (xs : List Put) (i : ℕ) (x : Put) → i < length xs → x ≡ get_or xs i x
    → (if same_pair q (p, x.to) then (old ++ by_puts q p at (take i xs)) ++ at ∷ [] else old ++ by_puts q p at (take i xs)) ≡ old ++ by_puts q p at (take (i + 1) xs)
put_next old q p at xs i x h is =
    one_more (same_pair q (p, x.to)) old (by_puts q p at (take i xs)) at
    ∙ ap (λ (zs : List ℕ). old ++ zs) (sym (by_puts_append q p at (take i xs) (x ∷ [])))
    ∙ ap (λ (ys : List Put). old ++ by_puts q p at ys) (ap (λ y. take i xs ++ y ∷ []) is ∙ sym (take_more xs i x h))

-- ---- one event more

senders_append : (q : ℕ × ℕ) (i : ℕ) (events : List Event) (event : Event) → senders_from q i (events ++ event ∷ []) ≡ senders_from q i events ++ by_puts q event.actor (i + length events) event.puts
senders_append q i events event =
    senders_are q i (events ++ event ∷ []) ∙ ap (map row_of) (put_more q i events event) ∙ map-append row_of (put_from q i events) (put_at q event.actor (i + length events) event.puts)
    ∙ (λ j. sym (senders_are q i events) j ++ sym (by_puts_are q event.actor (i + length events) event.puts) j)

arrivals_append : (q : ℕ × ℕ) (events : List Event) (event : Event) → arrivals q (events ++ event ∷ []) ≡ arrivals q events + arrival q event.what
arrivals_append q [] event = omega arith
arrivals_append q (e ∷ events) event = omega (arith, arrivals_append q events event)

pub keeps_more : (events : List Event) (event : Event) (l : Ledger)
    → Knows (λ q. senders q events ++ by_puts q event.actor (length events) event.puts) (λ q. arrivals q events + arrival q event.what) l → Keeps (events ++ event ∷ []) l
keeps_more events event l k =
    along (λ q. senders q events ++ by_puts q event.actor (length events) event.puts) (λ q. senders q (events ++ event ∷ []))
    (λ q. arrivals q events + arrival q event.what) (λ q. arrivals q (events ++ event ∷ [])) l k
    (λ q. sym (senders_append q 0 events event ∙ ap (λ n. senders_from q 0 events ++ by_puts q event.actor n event.puts) (omega arith))) (λ q. sym (arrivals_append q events event))
