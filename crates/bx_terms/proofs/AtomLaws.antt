-- The laws of the table of atoms.
use Rattle.bx_terms.proofs.Words.{◌≡◌, ◌⊎◌, ℕ, zero, suc, ◌<◌, Bool, true, false, not, cond, ◌&&◌, ◌||◌, List, [], ◌∷◌, ◌++◌, length, take, get_or, fold}
use Rattle.bx_terms.proofs.Words.{filter, Option, Some, None, Ok, Err, Result, slice_get, is_none, append-nil, append_assoc, bytes_eq, nat_lt, refl, sym, ◌∙◌}
use Rattle.bx_terms.proofs.Words.{ap, subst, arith, inl, inr, true≢false, if◌then◌else◌, prefix_len, list_any, IsDistinct, is_utf8, IsUtf8-from_is_utf8}
use Rattle.bx_terms.proofs.Words.{get_or_from_slice_get, slice_get-get_or, slice_get_within, cases_order, cases_Bool, true_from_ne_false, same_from_decides}
use Rattle.bx_terms.proofs.Words.{filter_agree, bytes_eq-Decides, list_any_at, list_any-append, position-Some, apart_from_distinct, IsDistinct-push}
use Rattle.bx_terms.proofs.Words.{nat_list_eq_equiv, IsAtomTable, number_of, is_new, first_uses, used, is_short, Spells, naming, numbered, naming_all}
use Rattle.bx_share.proofs.Places.{get_more, get_last}
use Rattle.bx_terms.specs.declared.atom_table.AtomId.{AtomId}
use Rattle.bx_terms.specs.declared.faults.Fault.{Fault, TheVariants.TooManyAtoms}
use Rattle.bx_terms.specs.Naming.{atom}
use borrow.Author.Tests.{ltb-true}
use Rattle.bx_terms.proofs.Outcomes.{ok_pair, bind_ok}
use Rattle.bx_terms.proofs.AtomTables.{list_any-place, list_any_none, grown}

same : (xs ys : List ℕ) → bytes_eq xs ys ≡ true → xs ≡ ys
same xs ys e = (bytes_eq-Decides xs ys).0 e

module _ (texts : List (List ℕ)) (once : IsDistinct bytes_eq texts) where
  below : (text : List ℕ) (i j : ℕ) → slice_get texts i ≡ Some text → slice_get texts j ≡ Some text → i < j → ⊥
  below text i j at_i at_j lt =
      let apart = apart_from_distinct bytes_eq texts i j [] once lt (slice_get_within texts j text at_j) in
      let same_i : get_or texts i [] ≡ text = get_or_from_slice_get texts i text [] at_i in
      let same_j : get_or texts j [] ≡ text = get_or_from_slice_get texts j text [] at_j in
      true≢false (sym (nat_list_eq_equiv.refl text) ∙ sym (λ k. bytes_eq (same_i k) (same_j k)) ∙ apart)

  pub distinct : (text : List ℕ) (i j : ℕ) → slice_get texts i ≡ Some text → slice_get texts j ≡ Some text → i ≡ j
  distinct text i j at_i at_j =
      elim (cases_order i j) [ inl e ↦ e | inr w ↦ elim w [ inl lt ↦ absurd (below text i j at_i at_j lt) | inr gt ↦ absurd (below text j i at_j at_i gt) ] ]

  pub text_at : (text : List ℕ) (i : ℕ) → number_of texts text ≡ Some i → slice_get texts i ≡ Some text
  text_at text i e =
      let at = position-Some (bytes_eq text) texts i [] e in
      slice_get-get_or texts i [] at.0 ∙ ap Some (sym (same text (get_or texts i []) at.1))

  pub number_at : (text : List ℕ) (i : ℕ) → slice_get texts i ≡ Some text → number_of texts text ≡ Some i
  number_at text i e = by (number_of texts text) refl
    where
      by : (o : Option ℕ) → number_of texts text ≡ o → number_of texts text ≡ Some i
      by (Some j) f = f ∙ ap Some (distinct text j i (text_at text j f) e)
      by None f =
          let there : get_or texts i [] ≡ text = get_or_from_slice_get texts i text [] e in
          let passes : bytes_eq text (get_or texts i []) ≡ true = rw there (nat_list_eq_equiv.refl text) in
          absurd (true≢false (sym (list_any_at (bytes_eq text) texts i [] (slice_get_within texts i text e) passes) ∙ list_any_none (bytes_eq text) texts f))

-- the two ways in which naming goes well
pub record IsHeld (texts after : List (List ℕ)) (text : List ℕ) (a : AtomId) : Type 0 where
  pub held : number_of texts text ≡ Some a.0
  pub stays : after ≡ texts

pub record IsAdded (texts after : List (List ℕ)) (text : List ℕ) (a : AtomId) : Type 0 where
  pub new : number_of texts text ≡ None
  pub room : length texts < 65536
  pub grows : after ≡ texts ++ text ∷ []
  pub last : a ≡ atom (length texts)

abbrev put : List (List ℕ) → List ℕ → Bool → Result (List (List ℕ) × AtomId) Fault
put texts text fits = if fits then Ok (texts ++ text ∷ [], atom (length texts)) else Err (TooManyAtoms None)

module _ (texts after : List (List ℕ)) (text : List ℕ) (a : AtomId) where
  pub short_if_named : naming texts text ≡ Ok (after, a) → is_short text ≡ true
  short_if_named h = true_from_ne_false (is_short text) (λ f. cc (rw f at h))

  pub named_cases : naming texts text ≡ Ok (after, a) → IsHeld texts after text a ⊎ IsAdded texts after text a
  named_cases h = let short = short_if_named h in let is = rw short at h in by (number_of texts text) refl is
    where
      by : (o : Option ℕ) → number_of texts text ≡ o → numbered (number_of texts text) texts text ≡ Ok (after, a) → IsHeld texts after text a ⊎ IsAdded texts after text a
      by (Some i) e is =
          let known = rw e at is in
          let both = ok_pair texts after (atom i) a known in
          inl (record { held = e ∙ ap (λ (n : AtomId). Some n.0) both.1; stays = sym both.0 })
      by None e is =
          let next : put texts text (nat_lt (length texts) 65536) ≡ Ok (after, a) = rw e at is in elim (cases_Bool (nat_lt (length texts) 65536)) [
            | inl fits ↦
                let both = ok_pair (texts ++ text ∷ []) after (atom (length texts)) a (rw fits at next) in
                inr (record { new = e; room = omega (arith, ltb-true _ _ fits); grows = sym both.0; last = sym both.1 })
            | inr full ↦ cc (rw full at next)
          ]

-- the table grows, if at all, at its end
pub after_naming : (texts after : List (List ℕ)) (text : List ℕ) (a : AtomId) → naming texts text ≡ Ok (after, a) → after ≡ used texts text
after_naming texts after text a h =
    elim (named_cases texts after text a h) [ inl was ↦ rw was.held was.stays | inr came ↦ rw came.new came.grows ]

pub table_after : (texts after : List (List ℕ)) (text : List ℕ) (a : AtomId) → IsAtomTable texts → is_utf8 text ≡ true → naming texts text ≡ Ok (after, a) → IsAtomTable after
table_after texts after text a table utf8 h =
    elim (named_cases texts after text a h) [
      | inl was ↦ subst IsAtomTable (sym was.stays) table
      | inr came ↦ subst IsAtomTable (sym came.grows) (grown texts text table (IsUtf8-from_is_utf8 text utf8) (short_if_named texts after text a h) came.new came.room)
    ]

pub number_stays : (texts after : List (List ℕ)) (text old : List ℕ) (a : AtomId) (i : ℕ) → naming texts text ≡ Ok (after, a) → slice_get texts i ≡ Some old → slice_get after i ≡ Some old
number_stays texts after text old a i h e =
    elim (named_cases texts after text a h) [
      | inl was ↦ rw was.stays e
      | inr came ↦ rw came.grows (get_more texts (text ∷ []) i old e)
    ]

pub found_after : (texts after : List (List ℕ)) (text : List ℕ) (a : AtomId) → IsAtomTable texts → naming texts text ≡ Ok (after, a) → (number_of after text ≡ Some a.0) × (slice_get after a.0 ≡ Some text)
found_after texts after text a table h =
    elim (named_cases texts after text a h) [
      | inl was ↦ (rw was.stays was.held, rw was.stays (text_at texts table.distinct text a.0 was.held))
      | inr came ↦
          let once : IsDistinct bytes_eq (texts ++ text ∷ []) = IsDistinct-push nat_list_eq_equiv texts text table.distinct (list_any_none (bytes_eq text) texts came.new) in
          let last = get_last texts text in
          let there : slice_get after a.0 ≡ Some text = rw (came.grows, came.last) last in
          (rw came.grows (number_at (texts ++ text ∷ []) once text a.0 (rw came.last last)), there)
    ]

-- what was named is held, and so is its text short
pub again : (texts after : List (List ℕ)) (text : List ℕ) (a : AtomId) → IsAtomTable texts → naming texts text ≡ Ok (after, a) → naming after text ≡ Ok (after, a)
again texts after text a table h =
    let short = short_if_named texts after text a h in
    let held = (found_after texts after text a table h).0 in
    rw (short, held)

-- ---- the order of first use
is_new_any : (texts : List (List ℕ)) (text : List ℕ) → is_new texts text ≡ not (list_any (bytes_eq text) texts)
is_new_any texts text = rw (list_any-place (bytes_eq text) texts) (grind arith)

neither : (a b : Bool) → not (a || (b || false)) ≡ (not b && not a)
neither a b = grind arith

is_new-push : (texts : List (List ℕ)) (text other : List ℕ) → is_new (texts ++ text ∷ []) other ≡ (not (bytes_eq text other) && is_new texts other)
is_new-push texts text other =
    rw (is_new_any (texts ++ text ∷ []) other, is_new_any texts other, list_any-append (bytes_eq other) texts (text ∷ []), nat_list_eq_equiv.symm other text)
    (neither (list_any (bytes_eq other) texts) (bytes_eq text other))

held_apart : (texts : List (List ℕ)) (text other : List ℕ) (i : ℕ) → number_of texts text ≡ Some i → is_new texts other ≡ (not (bytes_eq text other) && is_new texts other)
held_apart texts text other i e = elim (cases_Bool (bytes_eq text other)) [
  | inl h ↦ rw h (ap is_none (subst (λ (t : List ℕ). number_of texts t ≡ Some i) (same text other h) e))
  | inr h ↦ rw h
]

filter_twice : {X : Type 0} (p q : X → Bool) (xs : List X) → filter p (filter q xs) ≡ filter (λ x. q x && p x) xs
filter_twice p q [] = refl
filter_twice p q (x ∷ xs) = elim (cases_Bool (q x)) [ inl t ↦ rw (t, filter_twice p q xs) | inr f ↦ rw (f, filter_twice p q xs) ]

-- the others of a list, apart from the first text
abbrev others : List ℕ → List (List ℕ) → List (List ℕ)
others text more = filter (λ other. not (bytes_eq text other)) (first_uses more)

others_of_held : (texts : List (List ℕ)) (text : List ℕ) (more : List (List ℕ)) (i : ℕ) → number_of texts text ≡ Some i
    → filter (is_new texts) (others text more) ≡ filter (is_new texts) (first_uses more)
others_of_held texts text more i e =
    filter_twice (is_new texts) (λ other. not (bytes_eq text other)) (first_uses more)
    ∙ filter_agree (λ other. not (bytes_eq text other) && is_new texts other) (is_new texts) (λ other. sym (held_apart texts text other i e)) (first_uses more)

others_of_new : (texts : List (List ℕ)) (text : List ℕ) (more : List (List ℕ))
    → filter (is_new texts) (others text more) ≡ filter (is_new (texts ++ text ∷ [])) (first_uses more)
others_of_new texts text more =
    filter_twice (is_new texts) (λ other. not (bytes_eq text other)) (first_uses more)
    ∙ filter_agree (λ other. not (bytes_eq text other) && is_new texts other) (is_new (texts ++ text ∷ [])) (λ other. sym (is_new-push texts text other)) (first_uses more)

use_all : (texts given : List (List ℕ)) → fold used texts given ≡ texts ++ filter (is_new texts) (first_uses given)
use_all texts [] = sym (append-nil texts)
use_all texts (text ∷ more) = by (number_of texts text) refl (use_all texts more) (use_all (texts ++ text ∷ []) more)
  where
    by : (o : Option ℕ) → number_of texts text ≡ o
        → fold used texts more ≡ texts ++ filter (is_new texts) (first_uses more)
        → fold used (texts ++ text ∷ []) more ≡ (texts ++ text ∷ []) ++ filter (is_new (texts ++ text ∷ [])) (first_uses more)
        → fold used (used texts text) more ≡ texts ++ filter (is_new texts) (text ∷ others text more)
    by (Some i) e held new = rw e (held ∙ ap (λ t. texts ++ t) (sym (others_of_held texts text more i e)))
    by None e held new = rw e (new ∙ append_assoc texts (text ∷ []) _ ∙ ap (λ t. texts ++ text ∷ t) (sym (others_of_new texts text more)))

all_used : (texts after given : List (List ℕ)) → naming_all texts given ≡ Ok after → after ≡ fold used texts given
all_used texts after [] h = let same : texts ≡ after = cc in sym same
all_used texts after (text ∷ more) h =
    let step = bind_ok (naming texts text) (λ named. naming_all named.0 more) after h in
    all_used step.0.0 after more step.2 ∙ ap (λ t. fold used t more) (after_naming texts step.0.0 text step.0.1 step.1)

pub in_order : (texts after given : List (List ℕ)) → naming_all texts given ≡ Ok after → after ≡ texts ++ filter (is_new texts) (first_uses given)
in_order texts after given h = all_used texts after given h ∙ use_all texts given

-- ---- the fixed atoms
slice_get_first : {X : Type 0} (n : ℕ) (xs : List X) (i : ℕ) (x : X) → slice_get (take n xs) i ≡ Some x → slice_get xs i ≡ Some x
slice_get_first (suc n) (y ∷ xs) zero x e = e
slice_get_first (suc n) (y ∷ xs) (suc i) x e = slice_get_first n xs i x e
slice_get_first _ _ i x e = cc

pub fixed_in : (texts : List (List ℕ)) (a : AtomId) (text : List ℕ) → IsAtomTable texts → Spells a text → (slice_get texts a.0 ≡ Some text) × (number_of texts text ≡ Some a.0)
fixed_in texts a text table names =
    let there : slice_get texts a.0 ≡ Some text = slice_get_first 80 texts a.0 text (subst (λ (l : List (List ℕ)). slice_get l a.0 ≡ Some text) (sym table.fixed) names) in
    (there, number_at texts table.distinct text a.0 there)
