-- What stands in two rows of slots, compared slot by slot.
use Rattle.std.proofs.Common.{◌≡◌, ℕ, zero, suc, ◌-◌, ◌<◌, List, [], ◌∷◌, ◌++◌, length, map, take, drop, refl, ap, sym, ◌∙◌, arith, ◌↔◌}
use Rattle.std.specs.Prelude.{Option, Some, None}
use Rattle.std.proofs.lemmas.List.{take_at, drop_at}
use Rattle.bx_terms.specs.Tree.{Tree}
use Rattle.bx_mail.specs.declared.slots.Slot.{Slot}
use Rattle.bx_mail.specs.Mail.{Mail}
use Rattle.bx_mail.specs.Slots.{message_of, next_of, row}
use Rattle.bx_mail.specs.Joined.{Leads, Joined}

-- rows are equal exactly where they begin with the same and what follows is equal
pub row_next : (ss os : List Slot) (n : ℕ) (p q : Option ℕ) → 0 < n → (row ss n p ≡ row os n q) ↔ ((message_of ss p ≡ message_of os q) × (row ss (n - 1) (next_of ss p) ≡ row os (n - 1) (next_of os q)))
row_next ss os zero p q h = absurd (omega arith)
row_next ss os (suc n) p q h = let e : suc n - 1 ≡ n = omega arith in rw e (λ same. (cc, cc), λ parts. cc)

-- a row of messages
row_is : (ss : List Slot) (ms : List Tree) (p q : Option ℕ) → Leads ss ms p q → row ss (length ms) p ≡ map (λ m. Some m) ms
row_is ss [] p q h = refl
row_is ss (m ∷ ms) p q h = rw (h.2, h.3, row_is ss ms h.1 q h.4)

somes_same : (ms ns : List Tree) → map (λ m. Some m) ms ≡ map (λ m. Some m) ns → ms ≡ ns
somes_same [] [] e = refl
somes_same (m ∷ ms) (n ∷ ns) e = let rest = somes_same ms ns (cc) in cc
somes_same _ _ e = cc

all_row : {ss : List Slot} {first last saved free : Option ℕ} {passed len : ℕ} {mail : Mail} → Joined ss first last saved free passed len mail → row ss len first ≡ map (λ m. Some m) (mail.passed ++ mail.rest)
all_row {ss} {first} {mail = mail} j = rw j.len_is (row_is ss (mail.passed ++ mail.rest) first None j.order)

-- mailboxes with as many messages, passed over and in all, are the same exactly where their rows are
pub same_mail : {ss os : List Slot} {first last saved free first' last' saved' free' : Option ℕ} {passed passed' len len' : ℕ} {mail mail' : Mail} → Joined ss first last saved free passed len mail → Joined os first' last' saved' free' passed' len' mail' → passed ≡ passed' → len ≡ len' → (row ss len first ≡ row os len first') ↔ (mail ≡ mail')
same_mail {os = os} {first' = first'} {mail = mail} {mail' = mail'} j k p n = (
  λ e.
      let all = somes_same _ _ (sym (all_row j) ∙ e ∙ ap (λ x. row os x first') n ∙ all_row k) in
      let count : length mail.passed ≡ length mail'.passed = sym j.passed_is ∙ p ∙ k.passed_is in
      let front = sym (take_at mail.passed mail.rest _ count) ∙ ap (take (length mail'.passed)) all ∙ take_at mail'.passed mail'.rest _ refl in
      let rest = sym (drop_at mail.passed mail.rest _ count) ∙ ap (drop (length mail'.passed)) all ∙ drop_at mail'.passed mail'.rest _ refl in
      λ i. record { passed = front i; rest = rest i },
  λ e. all_row j ∙ ap (λ (m : Mail). map (λ x. Some x) (m.passed ++ m.rest)) e ∙ sym (all_row k) ∙ ap (λ x. row os x first') (sym n),
)
