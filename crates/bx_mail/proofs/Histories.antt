-- Whatever was done to a mailbox, its messages are those left, in order of arrival.
use Rattle.std.proofs.Common.{◌≡◌, ℕ, ◌+◌, ◌<◌, ◌≤◌, ◌↔◌, ◌⊎◌, inl, inr, List, [], ◌∷◌, ◌++◌, refl, ap, ◌∙◌, arith, append_assoc}
use Rattle.std.specs.Prelude.{MatchOption}
use Rattle.bx_mail.specs.Mail.{empty, current, first, pass_first, take_first}
use Rattle.bx_mail.specs.History.{Operation, Add, Current, Pass, Take, Reset, done, all_done, Numbered, numbers, messages, unnumbered, History, unused, recorded, all_recorded, history, In, AllAbove, Rises, IsLeft, Waits}

numbers_append : (xs ys : List Numbered) → numbers (xs ++ ys) ≡ numbers xs ++ numbers ys
numbers_append [] ys = refl
numbers_append (x ∷ xs) ys = rw (numbers_append xs ys)

messages_append : (xs ys : List Numbered) → messages (xs ++ ys) ≡ messages xs ++ messages ys
messages_append [] ys = refl
messages_append (x ∷ xs) ys = rw (messages_append xs ys)

in_append : (n : ℕ) (xs ys : List ℕ) → In n (xs ++ ys) ↔ (In n xs ⊎ In n ys)
in_append n [] ys = grind arith
in_append n (x ∷ xs) ys = grind (arith, in_append n xs ys)

above_each : (a : ℕ) (xs : List ℕ) → AllAbove a xs ↔ ((n : ℕ) → In n xs → a < n)
above_each a [] = (λ _ n f. absurd f, λ _. tt)
above_each a (x ∷ xs) = let rest = above_each a xs in (λ h n. grind (arith, rest.0 h.1 n), λ h. (h x (inl refl), rest.1 (λ n i. h n (inr i))))

-- two lists rise where each does, and what stands in the first is below what stands in the second
rises_append : (xs ys : List ℕ) → Rises (xs ++ ys) ↔ (Rises xs × Rises ys × ((m n : ℕ) → In m xs → In n ys → m < n))
rises_append [] ys = (λ h. (tt, h, λ m n f. absurd f), λ h. h.1)
rises_append (x ∷ xs) ys = (
  λ h.
      let all = (above_each x (xs ++ ys)).0 h.0 in
      let rest = (rises_append xs ys).0 h.1 in
      let front = (above_each x xs).1 (λ n i. all n ((in_append n xs ys).1 (inl i))) in
      ((front, rest.0), rest.1, λ m n. grind (arith, all n, in_append n xs ys, rest.2 m n)),
  λ h.
      let front = (above_each x xs).0 h.0.0 in
      ((above_each x (xs ++ ys)).1 (λ n. grind (arith, in_append n xs ys, front n, h.2 x n)), (rises_append xs ys).1 (h.0.1, h.1, λ m n i. h.2 m n (inr i))),
)

-- these numbers are those left, in order
record Told (all : List ℕ) (arrived : ℕ) (gone : List ℕ) : Type 0 where
  pub gone_arrived : (n : ℕ) → In n gone → n < arrived
  pub left : (n : ℕ) → In n all ↔ ((n < arrived) × (In n gone → ⊥))
  pub rising : Rises all

add_told : (all : List ℕ) (arrived : ℕ) (gone : List ℕ) → Told all arrived gone → Told (all ++ arrived ∷ []) (arrived + 1) gone
add_told all arrived gone t = record {
  gone_arrived = (λ n g. let b = t.gone_arrived n g in omega arith);
  left = (λ n. grind (arith, in_append n all (arrived ∷ []), t.left n, t.gone_arrived n));
  rising = (rises_append all (arrived ∷ [])).1 (t.rising, (tt, tt), λ m n i j. let b = t.left m in grind arith);
}

take_told : (xs : List ℕ) (m : ℕ) (ys : List ℕ) (arrived : ℕ) (gone : List ℕ) → Told (xs ++ m ∷ ys) arrived gone → Told (xs ++ ys) arrived (gone ++ m ∷ [])
take_told xs m ys arrived gone t =
    let parts = (rises_append xs (m ∷ ys)).0 t.rising in
    let above = (above_each m ys).0 parts.1.0 in
    let it = ((t.left m).0 ((in_append m xs (m ∷ ys)).1 (inr (inl refl)))).0 in
    record {
      gone_arrived = (λ n. grind (arith, in_append n gone (m ∷ []), t.gone_arrived n, it));
      left = (λ n. grind (arith, in_append n gone (m ∷ []), in_append n xs ys, in_append n xs (m ∷ ys), t.left n, above n, parts.2 n m));
      rising = (rises_append xs ys).1 (parts.0, parts.1.1, λ k n i j. parts.2 k n i (inr j));
    }

-- the numbers of a mailbox are those left, and those before the current message are those skipped
abbrev ToldOf : History → Type 0
ToldOf h = Told (numbers (h.mail.passed ++ h.mail.rest)) h.arrived h.gone × (numbers h.mail.passed ≡ h.skipped)

one_told : (ps rs : List Numbered) (arrived : ℕ) (gone skipped : List ℕ) (o : Operation)
    → ToldOf (record { mail = record { passed = ps; rest = rs }; arrived = arrived; gone = gone; skipped = skipped })
    → ToldOf (recorded (record { mail = record { passed = ps; rest = rs }; arrived = arrived; gone = gone; skipped = skipped }) o)
one_told ps [] arrived gone skipped Pass t = t
one_told ps [] arrived gone skipped Take t = t
one_told ps (m ∷ rs) arrived gone skipped Pass t = (rw (append_assoc ps (m ∷ []) rs) t.0, numbers_append ps (m ∷ []) ∙ ap (λ l. l ++ m.0 ∷ []) t.1)
one_told ps (m ∷ rs) arrived gone skipped Take t =
    (rw (numbers_append ps rs) (take_told (numbers ps) m.0 (numbers rs) arrived gone (rw (numbers_append ps (m ∷ rs)) at t.0)), refl)
one_told ps rs arrived gone skipped (Add m) t =
    let more : List Numbered = (arrived, m) ∷ [] in (rw (← append_assoc ps rs more, numbers_append (ps ++ rs) more) (add_told (numbers (ps ++ rs)) arrived gone t.0), t.1)
one_told ps rs arrived gone skipped Current t = t
one_told ps rs arrived gone skipped Reset t = (t.0, refl)

all_told : (h : History) (os : List Operation) → ToldOf h → ToldOf (all_recorded h os)
all_told h [] t = t
all_told h (o ∷ os) t = all_told (recorded h o) os (one_told h.mail.passed h.mail.rest h.arrived h.gone h.skipped o t)

told : (os : List Operation) → ToldOf (history os)
told os = all_told unused os (record { gone_arrived = (λ n i. absurd i); left = (λ n. grind arith); rising = tt }, refl)

pub in_order : (os : List Operation) → Rises (numbers (history os).mail.passed ++ numbers (history os).mail.rest)
in_order os = rw numbers_append at (told os).0.rising

pub those_left : (os : List Operation) (n : ℕ) → In n (numbers (history os).mail.passed ++ numbers (history os).mail.rest) ↔ IsLeft (history os) n
those_left os n = rw numbers_append at ((told os).0.left n)

least : (skipped : List ℕ) (rs : List Numbered) (arrived : ℕ) (gone : List ℕ) → Told (skipped ++ numbers rs) arrived gone → MatchOption (first rs)
    ((n : ℕ) → ((n < arrived) × (In n gone → ⊥)) × (In n skipped → ⊥) → ⊥)
    (λ m. (((m.0 < arrived) × (In m.0 gone → ⊥)) × (In m.0 skipped → ⊥)) × ((n : ℕ) → ((n < arrived) × (In n gone → ⊥)) × (In n skipped → ⊥) → m.0 ≤ n))
least skipped [] arrived gone t = λ n w. grind (arith, in_append n skipped [], t.left n)
least skipped (m ∷ rs) arrived gone t =
    let parts = (rises_append skipped (m.0 ∷ numbers rs)).0 t.rising in
    let above = (above_each m.0 (numbers rs)).0 parts.1.0 in
    let it = (t.left m.0).0 ((in_append m.0 skipped (m.0 ∷ numbers rs)).1 (inr (inl refl))) in
    ((it, λ s. let b = parts.2 m.0 m.0 s (inl refl) in omega arith), λ n w. grind (arith, in_append n skipped (m.0 ∷ numbers rs), t.left n, above n))

pub least_waiting : (os : List Operation) → MatchOption (current (history os).mail) ((n : ℕ) → Waits (history os) n → ⊥) (λ m. Waits (history os) m.0 × ((n : ℕ) → Waits (history os) n → m.0 ≤ n))
least_waiting os =
    let t = told os in least _ (history os).mail.rest _ _ (rw (numbers_append (history os).mail.passed (history os).mail.rest, t.1) at t.0)

-- without their numbers, the messages are those of the mailbox
plain_first : (ps rs : List Numbered) → (unnumbered (pass_first ps rs) ≡ pass_first (messages ps) (messages rs)) × (unnumbered (take_first ps rs) ≡ take_first (messages ps) (messages rs))
plain_first ps [] = (refl, refl)
plain_first ps (m ∷ rs) = (rw (messages_append ps (m ∷ [])), rw (messages_append ps rs))

plain_one : (h : History) (o : Operation) → unnumbered (recorded h o).mail ≡ done (unnumbered h.mail) o
plain_one h (Add m) = rw (messages_append h.mail.rest ((h.arrived, m) ∷ []))
plain_one h Current = refl
plain_one h Pass = (plain_first h.mail.passed h.mail.rest).0
plain_one h Take = (plain_first h.mail.passed h.mail.rest).1
plain_one h Reset = rw (messages_append h.mail.passed h.mail.rest)

plain_all : (h : History) (os : List Operation) → unnumbered (all_recorded h os).mail ≡ all_done (unnumbered h.mail) os
plain_all h [] = refl
plain_all h (o ∷ os) = plain_all (recorded h o) os ∙ ap (λ m. all_done m os) (plain_one h o)

pub plain : (os : List Operation) → unnumbered (history os).mail ≡ all_done empty os
plain os = plain_all unused os
