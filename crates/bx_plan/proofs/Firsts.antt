-- Entries are read one after another, each from the head of the text that is left.
use Rattle.bx_plan.proofs.Words.{◌≡◌, inl, inr, ℕ, ◌+◌, ◌-◌, ◌*◌, ◌^◌, ◌<◌, ◌≤◌, true, false, cond, ◌&&◌, List, [], ◌∷◌, ◌++◌, Option, Some, None, length, refl, sym, ap, ◌∙◌, arith, subst, option_map, true_from_ne_false, number_first}
use Rattle.bx_plan.proofs.Words.{deliver_first, choice_by, some_times, times_first, entry_first, next_of, next_first, first_view, IsFirst, append_assoc, append-nil, length-append, nat_eq, nat_le, MatchOption, option_and_then}
use Rattle.bx_plan.proofs.Words.{option_map_or, is_ascii_digit, decimal, and_parts, cond_both, eqb-true, eqb-false, ne_eqb, le-leb, nat_tests, option_and_then_some, same_Some, Choice, Run, Deliver, Expire, Entry, digits_first}
use Rattle.bx_plan.proofs.Words.{words_left, size_left, spelling, HasPids, IsEntry, cut, parts_of, digits_from, number_of, entry_of, entry_each, entries_of}
use Rattle.std.specs.Borrow.{Bor}
use Rattle.bx_plan.specs.Firsts.{choice_first, First}
use Rattle.bx_plan.proofs.Decimals.{number_again, number_plain, number_spelled, plain_number}
use Rattle.bx_plan.proofs.Marks.{Lacks, cut_takes, option_map_some, parts_at, parts_lacks}
use Rattle.bx_plan.proofs.Cuts.{parts_none, parts_some}
use Rattle.bx_plan.proofs.Spellings.{entry_again, entry_lacks, entry_spelled}

abbrev NoDigit : List ℕ → Type 0
NoDigit [] = Unit {0}
NoDigit (b ∷ bs) = is_ascii_digit b ≡ false

-- ---- numbers

-- the digits that are read, and what stands behind them
abbrev Reads : ℕ → ℕ → List ℕ → ℕ → List ℕ → Type 0
Reads most n text m rest = (digits : List ℕ) × (text ≡ digits ++ rest) × (digits_from most n digits ≡ Some m)

digits_read : (most n : ℕ) (text : List ℕ) (m : ℕ) (rest : List ℕ) → digits_first most n text ≡ Some (m, rest) → Reads most n text m rest
digits_read most n [] m rest h = let e = same_Some (n, []) (m, rest) h in ([], ap (λ r. r.1) e, ap (λ r. Some r.0) e)
digits_read most n (b ∷ bs) m rest h =
    let next = n * 10 + (b - 48) in
    cond_both (is_ascii_digit b) (cond (nat_le next most) (digits_first most next bs) None) (Some (n, b ∷ bs)) (λ r. r ≡ Some (m, rest) → Reads most n (b ∷ bs) m rest)
    (λ p r. cond_both (nat_le next most) (digits_first most next bs) None (λ r. r ≡ Some (m, rest) → Reads most n (b ∷ bs) m rest)
    (λ q s. let more = digits_read most next bs m rest s in (b ∷ more.0, ap (λ t. b ∷ t) more.1, rw (p, q) more.2)) (λ q s. cc) r)
    (λ p r. let e = same_Some (n, b ∷ bs) (m, rest) r in ([], ap (λ r. r.1) e, ap (λ r. Some r.0) e)) h

digits_again : (most n : ℕ) (digits : List ℕ) (m : ℕ) (rest : List ℕ) → digits_from most n digits ≡ Some m → NoDigit rest → digits_first most n (digits ++ rest) ≡ Some (m, rest)
digits_again most n [] m [] h k = ap (λ i. Some (i, [])) (same_Some n m h)
digits_again most n [] m (b ∷ bs) h k = rw k (ap (λ i. Some (i, b ∷ bs)) (same_Some n m h))
digits_again most n (b ∷ bs) m rest h k =
    let next = n * 10 + (b - 48) in
    cond_both (is_ascii_digit b && nat_le next most) (digits_from most next bs) None (λ r. r ≡ Some m → digits_first most n (b ∷ (bs ++ rest)) ≡ Some (m, rest))
    (λ t r. let parts = and_parts (is_ascii_digit b) (nat_le next most) t in rw (parts.0, parts.1) (digits_again most next bs m rest r k)) (λ f r. cc) h

-- a first digit
first_digit : (most b : ℕ) (bs : List ℕ) → 9 ≤ most → is_ascii_digit b ≡ true → digits_from most 0 (b ∷ bs) ≡ digits_from most (b - 48) bs
first_digit most b bs low h = grind (arith, le-leb, nat_tests)

-- what is read is spelled there, and what is spelled there is read
number_read : (most : ℕ) (text : List ℕ) (n : ℕ) (rest : List ℕ) → 9 ≤ most → most < 2 ^ 64 → number_first most text ≡ Some (n, rest) → (n ≤ most) × (text ≡ decimal n ++ rest)
number_read most [] n rest low wide h = cc
number_read most (b ∷ bs) n rest low wide h =
    cond_both (is_ascii_digit b) (cond (nat_eq b 48) (Some (0, bs)) (digits_first most (b - 48) bs)) None (λ r. r ≡ Some (n, rest) → (n ≤ most) × (b ∷ bs ≡ decimal n ++ rest))
    (λ p r. cond_both (nat_eq b 48) (Some (0, bs)) (digits_first most (b - 48) bs) (λ r. r ≡ Some (n, rest) → (n ≤ most) × (b ∷ bs ≡ decimal n ++ rest))
    (λ q s. let e = same_Some (0, bs) (n, rest) s in spelled (48 ∷ []) (ap (λ c. c ∷ bs) (eqb-true b 48 q) ∙ ap (λ r. 48 ∷ r.1) e) (first_digit most 48 [] low refl ∙ ap (λ r. Some r.0) e))
    (λ q s. let more = digits_read most (b - 48) bs n rest s in
    spelled (b ∷ more.0) (ap (λ t. b ∷ t) more.1) (plain_number most (b ∷ more.0) (omega arith, λ e. absurd (eqb-false b 48 q e)) ∙ first_digit most b more.0 low p ∙ more.2)) r)
    (λ p r. cc) h
  where
    spelled : (digits : List ℕ) → b ∷ bs ≡ digits ++ rest → number_of most digits ≡ Some n → (n ≤ most) × (b ∷ bs ≡ decimal n ++ rest)
    spelled digits e r = let is = number_spelled most n digits wide r in (is.0, e ∙ ap (λ t. t ++ rest) is.1)

number_first_again : (most n : ℕ) (rest : List ℕ) → 9 ≤ most → most < 2 ^ 64 → n ≤ most → NoDigit rest → number_first most (decimal n ++ rest) ≡ Some (n, rest)
number_first_again most n rest low wide small k = by (decimal n) (number_again most n wide small) where
  alone : (b : ℕ) (bs : List ℕ) → b ≡ 48 → length (b ∷ bs) ≡ 1 → digits_from most (b - 48) bs ≡ Some n → ◌≡◌ {A = Option (ℕ × List ℕ)} (Some (0, bs ++ rest)) (Some (n, rest))
  alone b [] e l r = ap (λ i. Some (i, rest)) (let zero : 0 ≡ n = omega (arith, e, same_Some (b - 48) n r) in zero)
  alone b (c ∷ cs) e l r = absurd (omega (arith, l))

  by : (digits : List ℕ) → number_of most digits ≡ Some n → number_first most (digits ++ rest) ≡ Some (n, rest)
  by [] h = cc
  by (b ∷ bs) h =
      let plain = number_plain most (b ∷ bs) n h in
      let read = sym (plain_number most (b ∷ bs) plain) ∙ h in
      let digit = true_from_ne_false (is_ascii_digit b) (λ f. let no : digits_from most 0 (b ∷ bs) ≡ None = rw f refl in cc) in
      let more = sym (first_digit most b bs low digit) ∙ read in
      rw digit (cond_both (nat_eq b 48) (Some (0, bs ++ rest)) (digits_first most (b - 48) (bs ++ rest)) (λ r. r ≡ Some (n, rest))
      (λ q. alone b bs (eqb-true b 48 q) (plain.1 (eqb-true b 48 q)) more) (λ q. digits_again most (b - 48) bs n rest more k))

-- ---- entries

abbrev Spelled : List ℕ → Choice → List ℕ → Type 0
Spelled text choice rest = HasPids choice × (text ≡ spelling choice ++ rest)

behind_mark : (front : List ℕ) (mark b : ℕ) (bs : List ℕ) (n : ℕ) (rest : List ℕ) → b ≡ mark → bs ≡ decimal n ++ rest → front ++ b ∷ bs ≡ (front ++ mark ∷ decimal n) ++ rest
behind_mark front mark b bs n rest e f = rw (e, f, append_assoc front (mark ∷ decimal n) rest) refl

deliver_read : (p : ℕ) (behind : List ℕ) (choice : Choice) (rest : List ℕ) → p ≤ 1023 → deliver_first (p, behind) ≡ Some (choice, rest) → Spelled (100 ∷ (decimal p ++ behind)) choice rest
deliver_read p [] choice rest small h = cc
deliver_read p (b ∷ bs) choice rest small h =
    cond_both (nat_eq b 62) (option_map (λ r. (Deliver p r.0, r.1)) (number_first 1023 bs)) None (λ r. r ≡ Some (choice, rest) → Spelled (100 ∷ (decimal p ++ b ∷ bs)) choice rest)
    (λ t r. option_map_some (λ (r : ℕ × List ℕ). (Deliver p r.0, r.1)) (number_first 1023 bs) (choice, rest) r (λ to q e.
    let is = number_read 1023 bs to.0 to.1 (omega arith) (omega arith) q in
    subst (λ (r : Choice × List ℕ). Spelled (100 ∷ (decimal p ++ b ∷ bs)) r.0 r.1) e ((small, is.0), behind_mark (100 ∷ decimal p) 62 b bs to.0 to.1 (eqb-true b 62 t) is.1))) (λ f r. cc) h

choice_read : (text : List ℕ) (choice : Choice) (rest : List ℕ) → choice_first text ≡ Some (choice, rest) → Spelled text choice rest
choice_read [] choice rest h = cc
choice_read (b ∷ bs) choice rest h =
    option_and_then_some (choice_by b) (number_first 1023 bs) (choice, rest) h (λ pid q d.
    let is = number_read 1023 bs pid.0 pid.1 (omega arith) (omega arith) q in
    subst (λ t. Spelled (b ∷ t) choice rest) (sym is.1) (one pid.0 pid.1 is.0 d))
  where
    head : (k : ℕ) (t : List ℕ) → nat_eq b k ≡ true → Spelled (k ∷ t) choice rest → Spelled (b ∷ t) choice rest
    head k t e s = subst (λ c. Spelled (c ∷ t) choice rest) (sym (eqb-true b k e)) s

    made : (k : ℕ) (t : List ℕ) (c : Choice) (behind : List ℕ) → ◌≡◌ {A = Option (Choice × List ℕ)} (Some (c, behind)) (Some (choice, rest)) → Spelled (k ∷ t) c behind → Spelled (k ∷ t) choice rest
    made k t c behind e s = subst (λ (r : Choice × List ℕ). Spelled (k ∷ t) r.0 r.1) (same_Some (c, behind) (choice, rest) e) s

    one : (p : ℕ) (behind : List ℕ) → p ≤ 1023 → choice_by b (p, behind) ≡ Some (choice, rest) → Spelled (b ∷ (decimal p ++ behind)) choice rest
    one p behind small d =
        let t = decimal p ++ behind in
        cond_both (nat_eq b 114) _ _ (λ r. r ≡ Some (choice, rest) → Spelled (b ∷ t) choice rest) (λ e r. head 114 t e (made 114 t (Run p) behind r (small, refl)))
        (λ _. cond_both (nat_eq b 100) _ _ (λ r. r ≡ Some (choice, rest) → Spelled (b ∷ t) choice rest) (λ e r. head 100 t e (deliver_read p behind choice rest small r))
        (λ _. cond_both (nat_eq b 101) _ _ (λ r. r ≡ Some (choice, rest) → Spelled (b ∷ t) choice rest) (λ e r. head 101 t e (made 101 t (Expire p) behind r (small, refl))) (λ _ r. cc))) d

-- an entry, and what stands behind it
abbrev Stands : List ℕ → Entry → List ℕ → Type 0
Stands text entry rest = (word : List ℕ) × IsEntry word entry × (text ≡ word ++ rest)

times_read : (choice : Choice) (behind : List ℕ) (times : ℕ) (rest : List ℕ) → HasPids choice → times_first behind ≡ Some (times, rest) → Stands (spelling choice ++ behind) (choice, times) rest
times_read choice behind times rest pids h = one behind h where
  read : (behind : List ℕ) (n : ℕ) (left : List ℕ) → ◌≡◌ {A = Option (ℕ × List ℕ)} (Some (n, left)) (Some (times, rest))
      → Stands (spelling choice ++ behind) (choice, n) left → Stands (spelling choice ++ behind) (choice, times) rest
  read behind n left e s = subst (λ (r : ℕ × List ℕ). Stands (spelling choice ++ behind) (choice, r.0) r.1) (same_Some (n, left) (times, rest) e) s

  one : (behind : List ℕ) → times_first behind ≡ Some (times, rest) → Stands (spelling choice ++ behind) (choice, times) rest
  one [] h = read [] 1 [] h (spelling choice, (pids, inl (refl, refl)), refl)
  one (b ∷ bs) h =
      cond_both (nat_eq b 42) (option_and_then some_times (number_first 100000 bs)) (Some (1, b ∷ bs)) (λ r. r ≡ Some (times, rest) → Stands (spelling choice ++ b ∷ bs) (choice, times) rest)
      (λ t r. option_and_then_some some_times (number_first 100000 bs) (times, rest) r (λ number q d.
      let is = number_read 100000 bs number.0 number.1 (omega arith) (omega arith) q in
      cond_both (nat_eq number.0 0) None (Some number) (λ r. r ≡ Some (times, rest) → Stands (spelling choice ++ b ∷ bs) (choice, times) rest) (λ z s. cc)
      (λ z s. read (b ∷ bs) number.0 number.1 s (
        spelling choice ++ 42 ∷ decimal number.0,
        (pids, inr (omega (arith, eqb-false number.0 0 z), is.0, refl)),
        behind_mark (spelling choice) 42 b bs number.0 number.1 (eqb-true b 42 t) is.1,
      )) d))
      (λ f r. read (b ∷ bs) 1 (b ∷ bs) r (spelling choice, (pids, inl (refl, refl)), refl)) h

entry_read : (text : List ℕ) (entry : Entry) (rest : List ℕ) → entry_first text ≡ Some (entry, rest) → Stands text entry rest
entry_read text entry rest h =
    option_and_then_some (λ (c : Choice × List ℕ). option_map (λ (t : ℕ × List ℕ). ((c.0, t.0), t.1)) (times_first c.1)) (choice_first text) (entry, rest) h (λ choice q d.
    option_map_some (λ (t : ℕ × List ℕ). ((choice.0, t.0), t.1)) (times_first choice.1) (entry, rest) d (λ times t e.
    let is = choice_read text choice.0 choice.1 q in
    let stands = times_read choice.0 choice.1 times.0 times.1 is.0 t in
    subst (λ (r : Entry × List ℕ). Stands text r.0 r.1) e (stands.0, stands.1, is.1 ∙ stands.2)))

-- what stands behind an entry: nothing, or a space and more
abbrev EndsThere : List ℕ → Type 0
EndsThere [] = Unit {0}
EndsThere (b ∷ bs) = b ≡ 32

entry_first_again : (word : List ℕ) (entry : Entry) (rest : List ℕ) → IsEntry word entry → EndsThere rest → entry_first (word ++ rest) ≡ Some (entry, rest)
entry_first_again word entry rest h k = grind (arith, append_assoc, number_first_again, ne_eqb)

-- ---- all entries

-- entries that are read begin with the one that stands first
first_there : (text : List ℕ) (entries : List Entry) → entries_of text ≡ Some entries → (entry : Entry) × (rest : List ℕ) × (entry_first text ≡ Some (entry, rest)) × EndsThere rest
first_there text entries h = one (cut 32 text) refl where
  word_is : (word : List ℕ) (words : List (List ℕ)) → entry_each (word ∷ words) ≡ Some entries → (entry : Entry) × (entry_of word ≡ Some entry)
  word_is word words e = option_and_then_some (λ entry. option_map (λ more. entry ∷ more) (entry_each words)) (entry_of word) entries e (λ entry q d. (entry, q))

  one : (found : Option (List ℕ × List ℕ)) → cut 32 text ≡ found → (entry : Entry) × (rest : List ℕ) × (entry_first text ≡ Some (entry, rest)) × EndsThere rest
  one None e =
      let word = word_is text [] (sym (ap entry_each (parts_none 32 text e)) ∙ h) in
      (word.0, [], ap entry_first (sym (append-nil text)) ∙ entry_first_again text word.0 [] (entry_spelled text word.0 word.1) tt, tt)
  one (Some parts) e =
      let word = word_is parts.0 (parts_of 32 parts.1) (sym (ap entry_each (parts_some 32 text parts.0 parts.1 e)) ∙ h) in
      (word.0, 32 ∷ parts.1, ap entry_first (cut_takes 32 text parts e).0 ∙ entry_first_again parts.0 word.0 (32 ∷ parts.1) (entry_spelled parts.0 word.0 word.1) refl, refl)

ends : (entry : Entry) (rest : List ℕ) → EndsThere rest → next_of (entry, rest) ≡ None → ⊥
ends entry rest h2 h3 = grind (arith)

next_none : (text : List ℕ) → next_first text ≡ None → entries_of text ≡ None
next_none text h = one (entries_of text) refl where
  one : (all : Option (List Entry)) → entries_of text ≡ all → entries_of text ≡ None
  one None e = e
  one (Some entries) e = let there = first_there text entries e in absurd (ends there.0 there.1 there.3 (sym (ap (option_and_then next_of) there.2) ∙ h))

abbrev Next : List ℕ → Entry → Option (List ℕ) → Type 0
Next text entry behind = (word : List ℕ) × (parts_of 32 text ≡ word ∷ option_map_or (parts_of 32) behind []) × (entry_of word ≡ Some entry) × (option_map_or (λ (t : List ℕ). length t + 1) behind 0 ≤ length text)

next_is : (text : List ℕ) (entry : Entry) (behind : Option (List ℕ)) → next_first text ≡ Some (entry, behind) → Next text entry behind
next_is text entry behind h =
    option_and_then_some next_of (entry_first text) (entry, behind) h (λ first q n. let is = entry_read text first.0 first.1 q in one first.0 first.1 is.0 is.1 is.2 n)
  where
    lacks : (word : List ℕ) (e : Entry) → IsEntry word e → Lacks 32 word
    lacks word e is = entry_lacks 32 word e refl refl refl refl refl refl is

    one : (e : Entry) (rest word : List ℕ) → IsEntry word e → text ≡ word ++ rest → next_of (e, rest) ≡ Some (entry, behind) → Next text entry behind
    one e [] word is t r =
        subst (λ (p : Entry × Option (List ℕ)). Next text p.0 p.1) (same_Some (e, None) (entry, behind) r)
        (word, ap (parts_of 32) (t ∙ append-nil word) ∙ parts_lacks 32 word (lacks word e is), entry_again word e is, omega arith)
    one e (b ∷ bs) word is t r =
        cond_both (nat_eq b 32) (Some (e, Some bs)) None (λ r. r ≡ Some (entry, behind) → Next text entry behind)
        (λ q s. subst (λ (p : Entry × Option (List ℕ)). Next text p.0 p.1) (same_Some (e, Some bs) (entry, behind) s)
        (word, ap (parts_of 32) (t ∙ ap (λ c. word ++ c ∷ bs) (eqb-true b 32 q)) ∙ parts_at 32 word bs (lacks word e is), entry_again word e is, omega (arith, ap length t, length-append word (b ∷ bs)))) (λ f s. cc) r

pub first_is : (text : List ℕ) (o : Option First) → option_map first_view o ≡ next_first text → MatchOption o (entries_of text ≡ None) (IsFirst text)
first_is text None h = next_none text (sym h)
first_is text (Some first) h =
    let is = next_is text first.0 (option_map (λ (t : Bor (List ℕ)). t.now) first.1) (sym h) in
    let same = both first.1 in
    record { word = is.0; split = is.1 ∙ ap (λ ws. is.0 ∷ ws) same.0; is = is.2; some = let spelled = entry_spelled is.0 first.0 is.2 in grind arith; shorter = omega (arith, is.3, same.1) }
  where
    both : (b : Option (Bor (List ℕ))) → (option_map_or (parts_of 32) (option_map (λ (t : Bor (List ℕ)). t.now) b) [] ≡ words_left b)
        × (option_map_or (λ (t : List ℕ). length t + 1) (option_map (λ (t : Bor (List ℕ)). t.now) b) 0 ≡ size_left b)
    both b = grind (arith)
