-- Choices and entries are read as they are spelled.
use Rattle.bx_plan.proofs.Words.{◌≡◌, ◌⊎◌, ⊎_elim, inl, inr, ℕ, ◌<◌, ◌≤◌, true, false, List, [], ◌∷◌, ◌++◌, Option, Some, None, length, refl, sym, ap, ◌∙◌, arith, subst, nat_eq, ◌↔◌, option_and_then, option_map_or, choice_of}
use Rattle.bx_plan.proofs.Words.{deliver_of, made, repeated_of, AreEntries, decimal, cond_both, eqb-true, eqb-false, ne_eqb, is_ascii_digit, join_with_byte, option_and_then_some, same_Some, length-slice_split}
use Rattle.bx_plan.proofs.Words.{join_with_byte-slice_split, Choice, Run, Deliver, Expire, Entry, cut, parts_of, number_of, entry_of, entry_each, entries_of, tail_of, spelling, HasPids, IsOnce, IsRepeated, IsEntry}
use Rattle.std.proofs.lemmas.List.{append-nil}
use Rattle.std.specs.Option.{option_map}
use Rattle.bx_plan.proofs.Marks.{Lacks, Lacks-append, cut_lacks, cut_at, cut_takes, option_map_some, parts_lacks, parts_at}
use Rattle.bx_plan.proofs.Decimals.{number_spelled, number_again, decimal_lacks}

abbrev Spells : List ℕ → Choice → Type 0
Spells text choice = HasPids choice × (text ≡ spelling choice)

-- a pid behind a mark
pid_spelled : (mark : ℕ) (make : ℕ → Choice) (pid : List ℕ) (choice : Choice) → ((p : ℕ) → p ≤ 1023 → Spells (mark ∷ decimal p) (make p)) → option_map make (number_of 1023 pid) ≡ Some choice → Spells (mark ∷ pid) choice
pid_spelled mark make pid choice is h = grind (arith, option_map_some, number_spelled)

deliver_spelled : (pids : List ℕ) (choice : Choice) → option_and_then deliver_of (cut 62 pids) ≡ Some choice → Spells (100 ∷ pids) choice
deliver_spelled pids choice h =
    option_and_then_some deliver_of (cut 62 pids) choice h (λ parts found d. option_and_then_some (λ p. option_map (λ q. Deliver p q) (number_of 1023 parts.1)) (number_of 1023 parts.0) choice d
    (λ p sent r. option_map_some (λ q. Deliver p q) (number_of 1023 parts.1) choice r (λ q got e.
    let from = number_spelled 1023 p parts.0 (omega arith) sent in
    let to = number_spelled 1023 q parts.1 (omega arith) got in
    subst (Spells (100 ∷ pids)) e ((from.0, to.0), ap (λ t. 100 ∷ t) (rw (from.1, to.1) at (cut_takes 62 pids parts found).0)))))

pub choice_spelled : (text : List ℕ) (choice : Choice) → choice_of text ≡ Some choice → Spells text choice
choice_spelled [] choice h = cc
choice_spelled (b ∷ bs) choice h =
    cond_both (nat_eq b 114) _ _ (λ r. r ≡ Some choice → Spells (b ∷ bs) choice) (λ t r. head 114 t (pid_spelled 114 (λ p. Run p) bs choice (λ p l. (l, refl)) r))
    (λ _. cond_both (nat_eq b 100) _ _ (λ r. r ≡ Some choice → Spells (b ∷ bs) choice) (λ t r. head 100 t (deliver_spelled bs choice r))
    (λ _. cond_both (nat_eq b 101) _ _ (λ r. r ≡ Some choice → Spells (b ∷ bs) choice) (λ t r. head 101 t (pid_spelled 101 (λ p. Expire p) bs choice (λ p l. (l, refl)) r)) (λ _ r. cc))) h
  where
    head : (mark : ℕ) → nat_eq b mark ≡ true → Spells (mark ∷ bs) choice → Spells (b ∷ bs) choice
    head mark t s = subst (λ c. Spells (c ∷ bs) choice) (sym (eqb-true b mark t)) s

pub choice_again : (choice : Choice) → HasPids choice → choice_of (spelling choice) ≡ Some choice
choice_again (Run p) h = rw (number_again 1023 p (omega arith) h) refl
choice_again (Expire p) h = rw (number_again 1023 p (omega arith) h) refl
choice_again (Deliver p q) h = rw (cut_at 62 (decimal p) (decimal q) (decimal_lacks 62 p refl (omega (arith, h.0))), number_again 1023 p (omega arith) h.0, number_again 1023 q (omega arith) h.1) refl

-- marks that no spelling has
spelling_lacks : (mark : ℕ) (choice : Choice) → is_ascii_digit mark ≡ false → nat_eq 114 mark ≡ false → nat_eq 100 mark ≡ false → nat_eq 101 mark ≡ false → nat_eq 62 mark ≡ false → HasPids choice → Lacks mark (spelling choice)
spelling_lacks mark (Run p) digit r d e gt h = (r, decimal_lacks mark p digit (omega arith))
spelling_lacks mark (Expire p) digit r d e gt h = (e, decimal_lacks mark p digit (omega arith))
spelling_lacks mark (Deliver p q) digit r d e gt h = (d, Lacks-append mark (decimal p) (62 ∷ decimal q) (decimal_lacks mark p digit (omega (arith, h.0))) (gt, decimal_lacks mark q digit (omega (arith, h.1))))

made_is : (choice : Choice) (times : ℕ) (entry : Entry) → made choice times ≡ Some entry → (0 < times) × ((choice, times) ≡ entry)
made_is choice times entry h = grind (arith, cond_both, eqb-false, same_Some)

pub entry_spelled : (text : List ℕ) (entry : Entry) → entry_of text ≡ Some entry → IsEntry text entry
entry_spelled text entry h = one (cut 42 text) refl h where
  one : (found : Option (List ℕ × List ℕ)) → cut 42 text ≡ found → option_map_or repeated_of found (option_map (λ choice. (choice, 1)) (choice_of text)) ≡ Some entry → IsEntry text entry
  one None p r = option_map_some (λ choice. (choice, 1)) (choice_of text) entry r (λ choice q e. let spelled = choice_spelled text choice q in subst (IsEntry text) e (spelled.0, inl (refl, spelled.1)))
  one (Some parts) p r =
      option_and_then_some (λ choice. option_and_then (made choice) (number_of 100000 parts.1)) (choice_of parts.0) entry r (λ choice q d. option_and_then_some (made choice) (number_of 100000 parts.1) entry d (λ times t m.
      let is = made_is choice times entry m in
      let spelled = choice_spelled parts.0 choice q in
      let number = number_spelled 100000 times parts.1 (omega arith) t in
      subst (IsEntry text) is.1 (spelled.0, inr (is.0, number.0, rw (spelled.1, number.1) at (cut_takes 42 text parts p).0))))

pub entry_again : (text : List ℕ) (entry : Entry) → IsEntry text entry → entry_of text ≡ Some entry
entry_again text entry h = one h.1 where
  no_star : Lacks 42 (spelling entry.0)
  no_star = spelling_lacks 42 entry.0 refl refl refl refl refl h.0

  one : IsOnce text entry ⊎ IsRepeated text entry → entry_of text ≡ Some entry
  one h0 = grind (arith, cut_lacks, no_star, choice_again, cut_at, number_again, ne_eqb)

pub entry_lacks : (mark : ℕ) (text : List ℕ) (entry : Entry) → is_ascii_digit mark ≡ false → nat_eq 114 mark ≡ false → nat_eq 100 mark ≡ false → nat_eq 101 mark ≡ false → nat_eq 62 mark ≡ false → nat_eq 42 mark ≡ false → IsEntry text entry → Lacks mark text
entry_lacks mark text entry digit r d e gt star h =
    let choice = spelling_lacks mark entry.0 digit r d e gt h.0 in
    ⊎_elim (λ (once : IsOnce text entry). subst (Lacks mark) (sym once.1) choice)
    (λ (more : IsRepeated text entry). subst (Lacks mark) (sym more.2) (Lacks-append mark (spelling entry.0) (42 ∷ decimal entry.1) choice (star, decimal_lacks mark entry.1 digit (omega (arith, more.1))))) h.1

pub entry_law : (text : List ℕ) (entry : Entry) → (entry_of text ≡ Some entry) ↔ IsEntry text entry
entry_law text entry = (entry_spelled text entry, entry_again text entry)

-- the words, each behind a space
abbrev spaced : List (List ℕ) → List ℕ
spaced [] = []
spaced (word ∷ words) = 32 ∷ (word ++ spaced words)

each_spelled : (words : List (List ℕ)) (entries : List Entry) → entry_each words ≡ Some entries → AreEntries (spaced words) entries
each_spelled [] entries h = subst (AreEntries []) (same_Some [] entries h) refl
each_spelled (word ∷ words) entries h =
    option_and_then_some (λ entry. option_map (λ more. entry ∷ more) (entry_each words)) (entry_of word) entries h (λ entry p d. option_map_some (λ more. entry ∷ more) (entry_each words) entries d
    (λ more q e. subst (AreEntries (spaced (word ∷ words))) e (word, spaced words, entry_spelled word entry p, each_spelled words more q, refl)))

spaced_join : (words : List (List ℕ)) → 0 < length words → spaced words ≡ 32 ∷ join_with_byte 32 words
spaced_join [] h = absurd (omega (arith, h))
spaced_join (word ∷ []) h = ap (λ t. 32 ∷ t) (append-nil word)
spaced_join (word ∷ next ∷ words) h = ap (λ t. 32 ∷ (word ++ t)) (spaced_join (next ∷ words) (omega arith))

-- the parts of a text, each behind a space, are the text behind a space
spaced_parts : (text : List ℕ) → spaced (parts_of 32 text) ≡ 32 ∷ text
spaced_parts text = spaced_join (parts_of 32 text) (omega (arith, length-slice_split (λ b. nat_eq b 32) text)) ∙ ap (λ t. 32 ∷ t) (join_with_byte-slice_split 32 text)

tail_spelled : (text : List ℕ) (entries : List Entry) → tail_of text ≡ Some entries → AreEntries text entries
tail_spelled [] entries h = subst (AreEntries []) (same_Some [] entries h) refl
tail_spelled (b ∷ bs) entries h =
    cond_both (nat_eq b 32) (entries_of bs) None (λ r. r ≡ Some entries → AreEntries (b ∷ bs) entries)
    (λ t r. subst (λ text. AreEntries text entries) (spaced_parts bs ∙ ap (λ c. c ∷ bs) (sym (eqb-true b 32 t))) (each_spelled (parts_of 32 bs) entries r)) (λ f r. cc) h

tail_again : (text : List ℕ) (entries : List Entry) → AreEntries text entries → tail_of text ≡ Some entries
tail_again text [] h = ap tail_of h
tail_again text (entry ∷ []) (word, rest, spelled, last, whole) = grind (arith, entry_lacks, append-nil, parts_lacks, entry_again)
tail_again text (entry ∷ next ∷ entries) (word, rest, spelled, (word', rest', spelled', more, whole'), whole) = grind (arith, entry_lacks, parts_at, entry_again, tail_again (32 ∷ (word' ++ rest')) (next ∷ entries) (word', rest', spelled', more, refl))

pub tail_law : (text : List ℕ) (entries : List Entry) → (tail_of text ≡ Some entries) ↔ AreEntries text entries
tail_law text entries = (tail_spelled text entries, tail_again text entries)
