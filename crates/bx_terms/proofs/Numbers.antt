-- Numbers of texts, one text after the other.
use Rattle.bx_terms.proofs.Words.{◌≡◌, ℕ, ◌+◌, ◌≤◌, Bool, true, false, not, cond, List, [], ◌∷◌, ◌++◌, length, map, Option, Some, None, is_some, String}
use Rattle.bx_terms.proofs.Words.{string_bytes, bytes_eq, nat_lt, nat_eq, eqb, refl, sym, ap, subst, ◌∙◌, arith, length-append, position_or_len, string_cmp}
use Rattle.bx_terms.proofs.Words.{bytes_eq-Decides, nat_list_eq_equiv, false_from_ne_true, nat_tests, map-append, position_or_len_push, prefix_len-le-length}
use Rattle.bx_terms.proofs.Words.{number_of, AreNumbers}
use Rattle.std.specs.Map.{update}
use Rattle.std.specs.BTreeMap.{BTreeMap, get_by_text, Updates}
use Rattle.std.proofs.lemmas.Map.Text.{btree_map_updates_text}
use Rattle.indexmap.specs.IndexMap.{IndexMap, get, insert_entry, values, IsUnchanged}
use Rattle.indexmap.proofs.CallerLemmas.{insert_entry-new}

pub none_numbered : {Z : Type 0} (numbers : BTreeMap (String Z) ℕ) (texts : List (List ℕ)) → numbers.entries ≡ [] → texts ≡ [] → AreNumbers texts numbers
none_numbered numbers texts none empty text = rw (none, empty) refl

-- the place of the first, where it is within so many
abbrev found : ℕ → ℕ → Option ℕ
found n count = cond (nat_lt n count) (Some n) None

not_found : (n count : ℕ) → found n count ≡ None → nat_lt n count ≡ false
not_found n count none = false_from_ne_true (nat_lt n count) (λ t. cc (rw t at none))

-- one more behind them, which is the first or is none
one_behind : (n count : ℕ) (own : Bool) → n ≤ count
    → found (cond (eqb n count) (count + cond own 0 1) n) (count + 1) ≡ cond (nat_lt n count) (Some n) (cond own (Some count) None)
one_behind n count own most = by (nat_lt n count) refl
  where
    here : (b : Bool) → found (count + cond b 0 1) (count + 1) ≡ cond b (Some count) None
    here b = grind (arith, nat_tests)

    by : (b : Bool) → nat_lt n count ≡ b → found (cond (eqb n count) (count + cond own 0 1) n) (count + 1) ≡ cond b (Some n) (cond own (Some count) None)
    by true e =
        let other : eqb n count ≡ false = grind (arith, nat_tests) in
        let within : nat_lt n (count + 1) ≡ true = grind (arith, nat_tests) in
        rw (other, within) refl
    by false e =
        let same : eqb n count ≡ true = grind (arith, nat_tests) in
        rw same (here own)

-- the number of a text once one more follows
number_behind : (texts : List (List ℕ)) (text other : List ℕ) → number_of texts text ≡ None
    → number_of (texts ++ text ∷ []) other ≡ cond (bytes_eq text other) (Some (length texts)) (number_of texts other)
number_behind texts text other new = step ∙ by (bytes_eq text other) refl
  where
    n : ℕ
    n = position_or_len (bytes_eq other) texts

    count : ℕ
    count = length texts

    step : number_of (texts ++ text ∷ []) other ≡ cond (nat_lt n count) (Some n) (cond (bytes_eq other text) (Some count) None)
    step =
        ap (λ k. found k (length (texts ++ text ∷ []))) (position_or_len_push (bytes_eq other) texts text)
        ∙ ap (found (cond (eqb n count) (count + cond (bytes_eq other text) 0 1) n)) (length-append texts (text ∷ []))
        ∙ one_behind n count (bytes_eq other text) (prefix_len-le-length (λ x. not (bytes_eq other x)) texts)

    by : (b : Bool) → bytes_eq text other ≡ b → cond (nat_lt n count) (Some n) (cond (bytes_eq other text) (Some count) None) ≡ cond b (Some count) (number_of texts other)
    by true e =
        let same : text ≡ other = (bytes_eq-Decides text other).0 e in
        let past : nat_lt n count ≡ false = not_found n count (subst (λ (t : List ℕ). number_of texts t ≡ None) same new) in
        let own : bytes_eq other text ≡ true = nat_list_eq_equiv.symm other text ∙ e in
        rw (past, own) refl
    by false e =
        let own : bytes_eq other text ≡ false = nat_list_eq_equiv.symm other text ∙ e in
        rw own refl

not_there : {X : Type 0} (o : Option X) (there : Bool) → there ≡ is_some o → there ≡ false → o ≡ None
not_there None there e gone = refl
not_there (Some x) there e gone = cc

-- a text that goes in under a new number goes last
pub put_last : {Z S : Type 0} (old room : IndexMap ℕ (String Z) S) (after : List (ℕ × String Z)) (number : ℕ) (own : String Z) (text : List ℕ) (there : Bool)
    → there ≡ is_some (get nat_eq old number) → there ≡ false → IsUnchanged old room → after ≡ insert_entry nat_eq room.entries number own → string_bytes own ≡ text
    → map string_bytes (map (λ (e : ℕ × String Z). e.1) after) ≡ map string_bytes (values old) ++ text ∷ []
put_last old room after number own text there says gone same put is =
    ap (λ es. map string_bytes (map (λ e. e.1) es)) (put ∙ ap (λ es. insert_entry nat_eq es number own) same ∙ insert_entry-new nat_eq old number own (not_there (get nat_eq old number) there says gone))
    ∙ ap (map string_bytes) (map-append (λ e. e.1) old.entries ((number, own) ∷ []))
    ∙ map-append string_bytes (values old) (own ∷ []) ∙ ap (λ t. map string_bytes (values old) ++ t ∷ []) is

pub one_numbered : {Z : Type 0} (old new : BTreeMap (String Z) ℕ) (texts : List (List ℕ)) (key : String Z) (text : List ℕ) (number : ℕ) → AreNumbers texts old → string_bytes key ≡ text
    → number_of texts text ≡ None → number ≡ length texts → Updates string_cmp old new key (Some number) → AreNumbers (texts ++ text ∷ []) new
one_numbered old new texts key text number are is none count put other =
    rw (btree_map_updates_text (string_bytes key) old new (Some number) put other, is, count, are other, number_behind texts text other none)
