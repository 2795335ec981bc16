-- What is left of a word, a character at a time.
use Rattle.std.proofs.Common.{◌≡◌, ℕ, Bool, true, false, List, [], ◌∷◌, ◌++◌, Option, Some, None, codes, refl, sym, ap, ◌∙◌, subst, append_assoc, append-nil}
use Rattle.std.specs.Prelude.{MatchOption}
use Rattle.std.specs.Borrow.{Bor}
use Rattle.std.specs.Str.{bytes_eq, encode_utf8_all}
use Rattle.std.proofs.lemmas.List.{append_cancel_left}
use Rattle.std.proofs.lemmas.Str.{encodes_same}
use Rattle.std.proofs.lemmas.Slice.Eq.{bytes_eq-Decides}
use Rattle.bx_text.specs.Left.{IsLeft}

pub left_same : (word : List ℕ) (o : Option (Bor (List ℕ))) (ks ls : List ℕ) → ks ≡ ls → IsLeft word ks o → IsLeft word ls o
left_same word o ks ls e h = subst (λ xs. IsLeft word xs o) e h

pub none_more : (word ks : List ℕ) (o : Option (Bor (List ℕ))) → IsLeft word ks o → IsLeft word (ks ++ []) o
none_more word ks o h = left_same word o ks (ks ++ []) (sym (append-nil ks)) h

pub one_more : (word ks left rest : List ℕ) (c : ℕ) → left ≡ c ∷ rest → word ≡ ks ++ left → word ≡ (ks ++ c ∷ []) ++ rest
one_more word ks left rest c e h = h ∙ ap (λ xs. ks ++ xs) e ∙ sym (append_assoc ks (c ∷ []) rest)

pub no_more : (word ks left : List ℕ) (c : ℕ) → ((rest : List ℕ) → left ≡ c ∷ rest → ⊥) → word ≡ ks ++ left → (rest : List ℕ) → word ≡ (ks ++ c ∷ []) ++ rest → ⊥
no_more word ks left c other h rest e = other rest (append_cancel_left ks left (c ∷ rest) (sym h ∙ e ∙ append_assoc ks (c ∷ []) rest))

pub none_left : (word ks : List ℕ) (c : ℕ) → ((rest : List ℕ) → word ≡ ks ++ rest → ⊥) → (rest : List ℕ) → word ≡ (ks ++ c ∷ []) ++ rest → ⊥
none_left word ks c h rest e = h (c ∷ rest) (e ∙ append_assoc ks (c ∷ []) rest)

-- what is left behind a character more
pub behind_more : (word ks left : List ℕ) (c : ℕ) (o : Option (Bor (List ℕ))) → MatchOption o ((rest : List ℕ) → left ≡ c ∷ rest → ⊥) (λ rest. left ≡ c ∷ rest.now) → word ≡ ks ++ left → IsLeft word (ks ++ c ∷ []) o
behind_more word ks left c (Some rest) m h = one_more word ks left rest.now c m h
behind_more word ks left c None m h = no_more word ks left c m h

-- whether nothing is left
meant : (ks : List ℕ) → codes "utf8" ≡ ks → bytes_eq (encode_utf8_all ks) (codes "utf8") ≡ true
unfolding lib.Utf8.encode
meant ks e = ap (λ xs. bytes_eq (encode_utf8_all xs) (codes "utf8")) (sym e)

not_meant : (ks : List ℕ) → (codes "utf8" ≡ ks → ⊥) → bytes_eq (encode_utf8_all ks) (codes "utf8") ≡ false
unfolding lib.Utf8.encode
not_meant ks other = by (bytes_eq (encode_utf8_all ks) (codes "utf8")) refl
  where
    by : (b : Bool) → bytes_eq (encode_utf8_all ks) (codes "utf8") ≡ b → b ≡ false
    by true e = absurd (other (sym (encodes_same ks (codes "utf8") ((bytes_eq-Decides (encode_utf8_all ks) (codes "utf8")).0 e))))
    by false e = refl

pub nothing_left : (ks left : List ℕ) → left ≡ [] → codes "utf8" ≡ ks ++ left → bytes_eq (encode_utf8_all ks) (codes "utf8") ≡ true
nothing_left ks left e h = meant ks (h ∙ ap (λ xs. ks ++ xs) e ∙ append-nil ks)

pub some_left : (ks left : List ℕ) → (left ≡ [] → ⊥) → codes "utf8" ≡ ks ++ left → bytes_eq (encode_utf8_all ks) (codes "utf8") ≡ false
some_left ks left more h = not_meant ks (λ e. more (append_cancel_left ks left [] (sym h ∙ e ∙ sym (append-nil ks))))

pub other_word : (ks : List ℕ) → ((rest : List ℕ) → codes "utf8" ≡ ks ++ rest → ⊥) → bytes_eq (encode_utf8_all ks) (codes "utf8") ≡ false
other_word ks h = not_meant ks (λ e. h [] (e ∙ sym (append-nil ks)))
