-- Tables of atoms: what is held, and what a new text adds.
use Rattle.bx_terms.proofs.Words.{◌≡◌, ℕ, ◌+◌, ◌<◌, ◌≤◌, Bool, true, false, not, cond, ◌||◌, List, [], ◌∷◌, ◌++◌, length, get_or, fold, Some, None, Ok}
use Rattle.bx_terms.proofs.Words.{bytes_eq, position, nat_lt, refl, sym, ◌∙◌, ap, subst, arith, lit≤, inl, inr, prefix_len, list_any, IsUtf8}
use Rattle.bx_terms.proofs.Words.{encodes-chars, length-le-encodes, is_utf8-from_IsUtf8, length-append, length-take, take-append-le}
use Rattle.bx_terms.proofs.Words.{AllPass-from_list_all, position-Some, All-push, IsDistinct-push, cases_Bool, false_from_ne_true, bytes_eq-Decides}
use Rattle.bx_terms.proofs.Words.{nat_list_eq_equiv, TEXTS, naming, is_short, number_of, used, IsAtomTable}
use Rattle.std.specs.Str.{is_utf8, chars}
use Rattle.bx_terms.specs.FixedAtoms.{fixed_atoms}
use Rattle.std.proofs.lemmas.Map.Made.{IsDistinct-from_count}
use Rattle.bx_terms.specs.Naming.{atom}

-- a text has no more characters than bytes
pub count_of_chars : (bs : List ℕ) → IsUtf8 bs → length (chars bs) ≤ length bs
count_of_chars bs u = subst (λ (xs : List ℕ). length (chars bs) ≤ length xs) (encodes-chars bs u) (length-le-encodes (chars bs))

-- a text is in the list exactly where it has a place
pub list_any-place : {X : Type 0} (p : X → Bool) (xs : List X) → list_any p xs ≡ nat_lt (prefix_len (λ x. not (p x)) xs) (length xs)
list_any-place p [] = refl
list_any-place p (x ∷ xs) = elim (cases_Bool (p x)) [ inl t ↦ rw t (grind arith) | inr f ↦ rw f (grind (arith, list_any-place p xs)) ]

pub list_any_none : {X : Type 0} (p : X → Bool) (xs : List X) → position p xs ≡ None → list_any p xs ≡ false
list_any_none p xs none = rw (list_any-place p xs) (false_from_ne_true _ (λ t. cc (rw t at none)))

-- a held text is one of the table's own
pub known_short : (texts : List (List ℕ)) (text : List ℕ) (i : ℕ) → IsAtomTable texts → number_of texts text ≡ Some i → is_short text ≡ true
known_short texts text i table held =
    let at = position-Some (bytes_eq text) texts i [] held in
    rw ((bytes_eq-Decides text (get_or texts i [])).0 at.1) (table.short i [] at.0)

length-fixed_atoms : length fixed_atoms ≡ 80
unfolding fixed_atoms
length-fixed_atoms = refl

-- the fixed atoms stand first
pub holds_fixed : (texts : List (List ℕ)) → IsAtomTable texts → 80 ≤ length texts
holds_fixed texts table = omega (arith, length-take 80 texts, ap length table.fixed, length-fixed_atoms)

-- a new text that is not refused
pub grown : (texts : List (List ℕ)) (text : List ℕ) → IsAtomTable texts → IsUtf8 text → is_short text ≡ true
    → number_of texts text ≡ None → length texts < 65536 → IsAtomTable (texts ++ text ∷ [])
grown texts text table utf8 short new room = record {
  at_most = omega (arith, length-append texts (text ∷ []));
  distinct = IsDistinct-push nat_list_eq_equiv texts text table.distinct (list_any_none (bytes_eq text) texts new);
  short = All-push (λ t. is_short t ≡ true) texts text table.short short;
  utf8 = All-push (λ t. is_utf8 t ≡ true) texts text table.utf8 (is_utf8-from_IsUtf8 text utf8);
  fixed = take-append-le 80 texts (text ∷ []) (holds_fixed texts table) ∙ table.fixed;
}

pub fixed_table : IsAtomTable fixed_atoms
unfolding fixed_atoms chars is_utf8 lib.Utf8.encode
fixed_table = record {
  at_most = lit≤ tt;
  distinct = IsDistinct-from_count nat_list_eq_equiv _ refl;
  short = AllPass-from_list_all is_short fixed_atoms refl;
  utf8 = AllPass-from_list_all is_utf8 fixed_atoms refl;
  fixed = refl;
}

-- where a text is held its number is given, and nothing is added
pub naming_held : (texts : List (List ℕ)) (text : List ℕ) (i : ℕ) → IsAtomTable texts → number_of texts text ≡ Some i → naming texts text ≡ Ok (texts, atom i)
naming_held texts text i table held = rw (known_short texts text i table held, held)

-- a new text goes last
pub naming_new : (texts : List (List ℕ)) (text : List ℕ) → is_short text ≡ true → number_of texts text ≡ None → length texts < 65536
    → naming texts text ≡ Ok (texts ++ text ∷ [], atom (length texts))
naming_new texts text short new room = let fits : nat_lt (length texts) 65536 ≡ true = grind arith in rw (short, new, fits)

-- the program's table of fixed atoms is the one above
pub fixed_by_use : fold (λ held text. used held text.now) [] TEXTS ≡ fixed_atoms
unfolding fixed_atoms
fixed_by_use = refl
