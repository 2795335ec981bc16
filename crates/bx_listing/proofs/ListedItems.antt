-- What is read as an item is one, and is read so wherever it is one.
use Rattle.bx_listing.proofs.Known.{arith, ◌≡◌, ℕ, Bool, true, false, List, [], ◌∷◌, ◌++◌, length, Option, Some, None, Ok, codes, refl, sym, ap, subst, ◌∙◌}
use Rattle.bx_listing.proofs.Known.{if◌then◌else◌, nat_eq, append-nil, Decides-eqb, Tree, Op, Bif, Slot, slots, way, Operand, FormWord, Table, read, ◌>>=◌}
use Rattle.bx_listing.proofs.Known.{give, from_result, Shape, bare, tagged, other, shape, word, list_elements, form_word, bif_op, gc_bif_op, bif_found}
use Rattle.bx_listing.proofs.Known.{is_raise, bif_called, bif_form, gc_bif_called, gc_bif_form, tuple_form, Read, formed_item, written_item, tuple_item}
use Rattle.bx_listing.proofs.Known.{item_row, Item, read_as, item, Tuple, AreSlots, no_slot, IsItem}
use Rattle.bx_listing.proofs.Lemmas.{some_then, both, same_bytes, given, after_read, after_result, Written, AllWritten, parts_written, IsFormWord, form_word_is}
use Rattle.bx_listing.proofs.ListedOperands.{at_word, bare_word, word_bare}
use Rattle.bx_listing.proofs.ListedSlots.{elements_written, formed_is, formed_read, slots_length}
use Rattle.std.proofs.lemmas.Bool.{and_parts}
use Rattle.bx_ops.{specs.Opcodes.opcode, specs.Opcodes.with_name, specs.GuardBifs.guard_bif_with, proofs.OpcodeLemmas.name_finds}
use Rattle.bx_ops.{proofs.OpcodeLemmas.with_name-name, specs.declared.sorts.Way.Way}
use Rattle.bx_listing.specs.Ways.{counted, bad_form_operand, named_way, named_op, named_form, bare_way, bare_op, bare_form, test_listed, test_row, test_way}
use Rattle.bx_listing.specs.Ways.{test_op, test_found, test_form, bif_row, raise_listed, raise_form}
use Rattle.bx_listing.specs.ListedItems.{IsWritten, bare as written_bare, plain, test, bif, gc_bif, raise, raise_bif}
use Rattle.bx_ops.specs.declared.opcode.Op.TheVariants as ops
use Rattle.bx_ops.specs.declared.sorts.Way.TheVariants as ways
use Rattle.bx_listing.specs.declared.words.FormWord.TheVariants as forms

abbrev IsForm : Tree → Op × List Tree → Type 0
IsForm t f = IsWritten t f.0 f.1 × AllWritten f.1 × (length f.1 ≡ length (slots f.0))

counted_then : (P : Op × List Tree → Type 0) (op : Op) (ts : List Tree) (f : Op × List Tree) → counted op ts ≡ Ok f → (length ts ≡ length (slots op) → P (op, ts)) → P f
counted_then P op ts f e k = by (nat_eq (length ts) (length (slots op))) (Decides-eqb (length ts) (length (slots op))).0 e
  where
    by : (b : Bool) → (b ≡ true → length ts ≡ length (slots op)) → (if b then Ok (op, ts) else bad_form_operand) ≡ Ok f → P f
    by true is h = let same : (op, ts) ≡ f = cc in subst P same (k (is refl))
    by false is h = absurd (cc)

bif_row_then : (P : Op × List Tree → Type 0) (op : Op) (before ts behind : List Tree) (f : Op × List Tree) → bif_row (Some op) before ts behind ≡ Ok f
    → ((d : Tree) → behind ≡ d ∷ [] → length (before ++ (ts ++ d ∷ [])) ≡ length (slots op) → P (op, before ++ (ts ++ d ∷ []))) → P f
bif_row_then P op before ts (d ∷ []) f e k = counted_then P op (before ++ (ts ++ d ∷ [])) f e (k d refl)
bif_row_then P op before ts _ f e k = absurd (cc)

bif_found_then : (P : Op × List Tree → Type 0) (text : List ℕ) (o : Option Op) (before ts behind : List Tree) (g : Option Bif) (f : Op × List Tree) → bif_found text o before ts behind g ≡ Ok f
    → ((op : Op) (d : Tree) (b : Bif) → g ≡ Some b → o ≡ Some op → behind ≡ d ∷ [] → length (before ++ (ts ++ d ∷ [])) ≡ length (slots op) → P (op, before ++ (ts ++ d ∷ []))) → P f
bif_found_then P text o before ts behind g f e k =
    some_then (bif_found text o before ts behind) (Ok f) g (λ h. cc) (λ b known.
    some_then (λ o. bif_row o before ts behind) (Ok f) o (λ h. cc) (λ op is h. bif_row_then P op before ts behind f h (λ d. k op d b known is))) e

named_is : (t : Tree) (text : List ℕ) (parts : List Tree) (f : Op × List Tree) → AllWritten parts → shape t ≡ tagged text parts → named_form text parts ≡ Ok f → IsForm t f
named_is t text parts f w e = some_then (named_op text parts) (Ok f) (with_name text) (λ h. cc) (λ op is. by op (way op) is refl)
  where
    by : (op : Op) (k : Way) → with_name text ≡ Some op → way op ≡ k → named_way text op parts k ≡ Ok f → IsForm t f
    by op ways.Plain is at h = counted_then (IsForm t) op parts f h (λ n. (plain at (at_word t e (sym ((name_finds text op).0 is))), w, n))
    by op k is at h = absurd (cc)

test_is : (t : Tree) (parts : List Tree) (f : Op × List Tree) → AllWritten parts → Tuple t (codes "test") parts → test_form parts ≡ Ok f → IsForm t f
test_is t [] f w e h = absurd (cc)
test_is t (n ∷ rest) f w e h =
    some_then (test_found rest) (Ok f) (word n) (λ h. cc) (λ text name.
    some_then (test_op text rest) (Ok f) (with_name text) (λ h. cc) (λ op is. by_way text op (way op) (name ∙ ap Some (sym ((name_finds text op).0 is))) refl)) h
  where
    by_row : (op : Op) (us : List Tree) → rest ≡ us → way op ≡ ways.Test → word n ≡ Some (opcode op).name → test_row op us ≡ Ok f → IsForm t f
    by_row op (l ∷ args ∷ []) is at name h =
        some_then (test_listed op l) (Ok f) (list_elements args) (λ h. cc) (λ ts list h.
        let w2 = subst AllWritten is w.1 in
        counted_then (IsForm t) op (l ∷ ts) f h (λ m. (test at (e ∙ ap (λ us. tagged (codes "test") (n ∷ us)) is) name list, (w2.0, elements_written args ts w2.1.0 list), m))) h
    by_row op _ is at name h = absurd (cc)

    by_way : (text : List ℕ) (op : Op) (k : Way) → word n ≡ Some (opcode op).name → way op ≡ k → test_way text op rest k ≡ Ok f → IsForm t f
    by_way text op ways.Test name at h = by_row op rest refl at name h
    by_way text op k name at h = absurd (cc)

bif_is : (t : Tree) (parts : List Tree) (f : Op × List Tree) → AllWritten parts → Tuple t (codes "bif") parts → bif_form parts ≡ Ok f → IsForm t f
bif_is t (b ∷ l ∷ args ∷ rest) f w e h =
    some_then (λ o. bif_called (b ∷ l ∷ []) (l ∷ []) rest o (list_elements args)) (Ok f) (word b) (λ h. cc) (λ text name.
    some_then (bif_called (b ∷ l ∷ []) (l ∷ []) rest (Some text)) (Ok f) (list_elements args) (λ h. cc) (λ ts list.
    chosen text ts (is_raise text ts) (λ yes. let (one, two) = and_parts _ _ yes in (same_bytes text (codes "raise") one, (Decides-eqb (length ts) 2).0 two)) name list)) h
  where
    tuple_at : (d : Tree) → rest ≡ d ∷ [] → Tuple t (codes "bif") (b ∷ l ∷ args ∷ d ∷ [])
    tuple_at d is = e ∙ ap (λ us. tagged (codes "bif") (b ∷ l ∷ args ∷ us)) is

    last_of : (d : Tree) → rest ≡ d ∷ [] → Written d
    last_of d is = (subst AllWritten is w.1.1.1).0

    chosen : (text : List ℕ) (ts : List Tree) (yes_raise : Bool) → (yes_raise ≡ true → (text ≡ codes "raise") × (length ts ≡ 2)) → word b ≡ Some text → list_elements args ≡ Some ts
        → (if yes_raise then bif_row (Some ops.Raise) (l ∷ []) ts rest else bif_found text (bif_op (length ts)) (b ∷ l ∷ []) ts rest (guard_bif_with text (length ts))) ≡ Ok f → IsForm t f
    chosen text ts true raises name list h =
        bif_row_then (IsForm t) ops.Raise (l ∷ []) ts rest f h (λ d is n.
        let (called, two) = raises refl in
        (raise_bif (tuple_at d is) (name ∙ ap Some called) list two, (w.1.0, both ts (d ∷ []) (elements_written args ts w.1.1.0 list) (last_of d is, tt)), n))
    chosen text ts false raises name list h =
        bif_found_then (IsForm t) text (bif_op (length ts)) (b ∷ l ∷ []) ts rest (guard_bif_with text (length ts)) f h (λ op d g known o is n.
        (bif (tuple_at d is) name list known o, (w.0, (w.1.0, both ts (d ∷ []) (elements_written args ts w.1.1.0 list) (last_of d is, tt))), n))
bif_is t _ f w e h = absurd (cc)

gc_bif_is : (t : Tree) (parts : List Tree) (f : Op × List Tree) → AllWritten parts → Tuple t (codes "gc_bif") parts → gc_bif_form parts ≡ Ok f → IsForm t f
gc_bif_is t (b ∷ l ∷ n ∷ args ∷ rest) f w e h =
    some_then (λ o. gc_bif_called (b ∷ l ∷ n ∷ []) rest o (list_elements args)) (Ok f) (word b) (λ h. cc) (λ text name.
    some_then (gc_bif_called (b ∷ l ∷ n ∷ []) rest (Some text)) (Ok f) (list_elements args) (λ h. cc) (λ ts list h.
    bif_found_then (IsForm t) text (gc_bif_op (length ts)) (b ∷ l ∷ n ∷ []) ts rest (guard_bif_with text (length ts)) f h (λ op d g known o is m. (
      gc_bif (e ∙ ap (λ us. tagged (codes "gc_bif") (b ∷ l ∷ n ∷ args ∷ us)) is) name list known o,
      (w.0, (w.1.0, (w.1.1.0, both ts (d ∷ []) (elements_written args ts w.1.1.1.0 list) ((subst AllWritten is w.1.1.1.1).0, tt)))),
      m,
    )))) h
gc_bif_is t _ f w e h = absurd (cc)

raise_is : (t : Tree) (parts : List Tree) (f : Op × List Tree) → AllWritten parts → Tuple t (codes "raise") parts → raise_form parts ≡ Ok f → IsForm t f
raise_is t (l ∷ args ∷ rest) f w e h =
    some_then (raise_listed l rest) (Ok f) (list_elements args) (λ h. cc) (λ ts list h.
    bif_row_then (IsForm t) ops.Raise (l ∷ []) ts rest f h (λ d is n.
    (raise (e ∙ ap (λ us. tagged (codes "raise") (l ∷ args ∷ us)) is) list, (w.0, both ts (d ∷ []) (elements_written args ts w.1.0 list) ((subst AllWritten is w.1.1).0, tt)), n))) h
raise_is t _ f w e h = absurd (cc)

tuple_is : (t : Tree) (text : List ℕ) (k : FormWord) (parts : List Tree) (f : Op × List Tree) → AllWritten parts → IsFormWord text k → shape t ≡ tagged text parts → tuple_form text k parts ≡ Ok f → IsForm t f
tuple_is t text forms.Test parts f w is e h = test_is t parts f w (at_word t e is) h
tuple_is t text forms.Bif parts f w is e h = bif_is t parts f w (at_word t e is) h
tuple_is t text forms.GcBif parts f w is e h = gc_bif_is t parts f w (at_word t e is) h
tuple_is t text forms.Raise parts f w is e h = raise_is t parts f w (at_word t e is) h
tuple_is t text forms.Named parts f w is e h = named_is t text parts f w e h
tuple_is t text _ parts f w is e h = absurd (cc)

-- what stands behind a dot is no item where it is passed over
abbrev pub IsRead : List Operand → Table → Tree → Read → Table → Type 0
IsRead done b t (Some op, all) c = (os : List Operand) × (all ≡ done ++ os) × IsItem b t (record { op = op; operands = os }) c
IsRead done b t (None, all) c = (note : Tree) × Tuple t (codes "%") (note ∷ []) × (all ≡ done) × (b ≡ c)

read_is : (done : List Operand) (t : Tree) (b c : Table) (x : Read) (text : List ℕ) (k : FormWord) (parts : List Tree) → AllWritten parts → IsFormWord text k → shape t ≡ tagged text parts
    → (written_item done text k parts).run b ≡ read c x → IsRead done b t x c
read_is done t b c x text k parts w is e h =
    after_result (tuple_form text k parts) (formed_item done) b c x (λ f good h1.
    let (written, all_written, n) = tuple_is t text k parts f w is e good in
    let (os, same, are, agree) = formed_is done f.0 f.1 b c x all_written n h1 in
    subst (λ x. IsRead done b t x c) (sym same) (os, refl, (f.1, written, are, agree))) h

tuple_read_is : (done : List Operand) (t : Tree) (b c : Table) (x : Read) (text : List ℕ) (k : FormWord) (parts : List Tree) → AllWritten parts → IsFormWord text k → shape t ≡ tagged text parts
    → (tuple_item done text k parts).run b ≡ read c x → IsRead done b t x c
tuple_read_is done t b c x text forms.Annotation (note ∷ []) w is e h = given (λ x c. IsRead done b t x c) (None, done) x b c h (note, at_word t e is, refl, refl)
tuple_read_is done t b c x text k parts w is e h = read_is done t b c x text k parts w is e h

pub no_slots : (op : Op) → way op ≡ ways.Bare → slots op ≡ []
no_slots ops.Return e = refl
no_slots _ e = cc

bare_is : (done : List Operand) (t : Tree) (b c : Table) (x : Read) (text : List ℕ) (k : FormWord) → shape t ≡ bare text
    → (from_result (bare_form text k) >>= λ f. give (Some f.0, done)).run b ≡ read c x → IsRead done b t x c
bare_is done t b c x text forms.Named e h =
    some_then (λ o. (from_result (bare_op text o) >>= λ f. give (Some f.0, done)).run b) (read c x) (with_name text) (λ h. cc) (λ op is. by_way op (way op) is refl) h
  where
    by_way : (op : Op) (k : Way) → with_name text ≡ Some op → way op ≡ k → (from_result (bare_way text op k) >>= λ f. give (Some f.0, done)).run b ≡ read c x → IsRead done b t x c
    by_way op ways.Bare is at h =
        given (λ x c. IsRead done b t x c) (Some op, done) x b c h
        ([], sym (append-nil done), ([], written_bare at (bare_word t text e ∙ ap Some (sym ((name_finds text op).0 is))), subst (λ ss. AreSlots b ss [] [] b) (sym (no_slots op at)) no_slot, refl))
    by_way op k is at h = absurd (cc)
bare_is done t b c x text k e h = absurd (cc)

-- what is read as an item is one
row_item_is : (done : List Operand) (t : Tree) (b c : Table) (x : Read) → Written t → (item_row done (shape t)).run b ≡ read c x → IsRead done b t x c
row_item_is done t b c x w h = by (shape t) refl h
  where
    by : (s : Shape) → shape t ≡ s → (item_row done s).run b ≡ read c x → IsRead done b t x c
    by (tagged text parts) e h = tuple_read_is done t b c x text (form_word text) parts (parts_written w text parts e) (form_word_is text) e h
    by (bare text) e h = bare_is done t b c x text (form_word text) e h
    by other e h = absurd (cc)

-- the name of an opcode that is written by it sets no other way apart
named_word : (op : Op) → (way op ≡ ways.Raise → ⊥) → form_word (opcode op).name ≡ forms.Named
named_word ops.Raise never = absurd (never refl)
named_word _ never = refl

counted_read : (op : Op) (ts : List Tree) → length ts ≡ length (slots op) → counted op ts ≡ Ok (op, ts)
counted_read op ts n = ap (λ (b : Bool). if b then Ok (op, ts) else bad_form_operand) ((Decides-eqb (length ts) (length (slots op))).1 n)

no_bif : (b : Bif) → guard_bif_with (codes "raise") 2 ≡ Some b → ⊥
unfolding guard_bif_with
no_bif b e = cc

gc_bif_way : (n : ℕ) (op : Op) → gc_bif_op n ≡ Some op → way op ≡ ways.GcBif
gc_bif_way n op e = grind arith

bif_way : (n : ℕ) (op : Op) → bif_op n ≡ Some op → way op ≡ ways.Bif
bif_way n op e = grind arith

not_raise : (text : List ℕ) (ts : List Tree) (b : Bif) → guard_bif_with text (length ts) ≡ Some b → is_raise text ts ≡ false
not_raise text ts b known = grind (arith, same_bytes, no_bif)

-- how an instruction is written is found again
written_read : (done : List Operand) (b : Table) {t : Tree} {op : Op} {ts : List Tree} → IsWritten t op ts → length ts ≡ length (slots op) → (way op ≡ ways.Bare → ⊥)
    → (item_row done (shape t)).run b ≡ (formed_item done (op, ts)).run b
written_read done b (written_bare at w) n busy = absurd (busy at)
written_read done b (plain {op = op} {ts = ts} at e) n busy = rw (e, named_word op (λ r. absurd (cc)), with_name-name op, at, counted_read op ts n)
written_read done b (test {l = l} {op = op} {ts = ts} at e named listed) n busy = rw (e, named, with_name-name op, at, listed, counted_read op (l ∷ ts) n)
written_read done b (bif {b = name} {f = f} {d = d} {text = text} {named = known} {op = op} {ts = ts} e named listed is chosen) n busy =
    rw (e, named, listed, not_raise text ts known is, is, chosen, counted_read op ((name ∷ f ∷ []) ++ (ts ++ d ∷ [])) n)
written_read done b (gc_bif {b = name} {f = f} {n = live} {d = d} {op = op} {ts = ts} e named listed is chosen) n busy =
    rw (e, named, listed, is, chosen, counted_read op ((name ∷ f ∷ live ∷ []) ++ (ts ++ d ∷ [])) n)
written_read done b (raise {f = f} {d = d} {ts = ts} e listed) n busy = rw (e, listed, counted_read ops.Raise ((f ∷ []) ++ (ts ++ d ∷ [])) n)
written_read done b (raise_bif {f = f} {d = d} {ts = ts} e named listed two) n busy =
    rw (e, named, listed, ap (λ n. nat_eq n 2) two, counted_read ops.Raise ((f ∷ []) ++ (ts ++ d ∷ [])) n)

-- where no term stands, nothing is read
empty_slots : {b c : Table} {ss : List Slot} {os : List Operand} → AreSlots b ss [] os c → ([] ≡ os) × (b ≡ c)
empty_slots no_slot = (refl, refl)

bare_read : (done : List Operand) (b c : Table) (t : Tree) (op : Op) (ts : List Tree) (os : List Operand) → way op ≡ ways.Bare → IsWritten t op ts → AreSlots b (slots op) ts os c
    → (item_row done (shape t)).run b ≡ read c (Some op, done ++ os)
bare_read done b c t op ts os at (written_bare at2 w) are =
    let (none, same) = empty_slots are in
    rw (word_bare t (opcode op).name w, named_word op (λ r. absurd (cc)), with_name-name op, at, ← none, append-nil, same)
bare_read done b c t op ts os at (plain at2 e) are = absurd (cc)
bare_read done b c t op ts os at (test at2 e named listed) are = absurd (cc)
bare_read done b c t op ts os at (bif {ts = us} e named listed is chosen) are = absurd (cc (bif_way (length us) op chosen))
bare_read done b c t op ts os at (gc_bif {ts = us} e named listed is chosen) are = absurd (cc (gc_bif_way (length us) op chosen))
bare_read done b c t op ts os at _ are = absurd (cc)

-- what is an item is read as it
row_item_read : (done : List Operand) (b c : Table) (t : Tree) (op : Op) (os : List Operand) → IsItem b t (record { op = op; operands = os }) c → (item_row done (shape t)).run b ≡ read c (Some op, done ++ os)
row_item_read done b c t op os (ts, written, are, agree) = by (way op) refl
  where
    busy : (way op ≡ ways.Bare → ⊥) → (item_row done (shape t)).run b ≡ read c (Some op, done ++ os)
    busy never = written_read done b written (slots_length are) never ∙ formed_read done op ts b c os are agree

    by : (k : Way) → way op ≡ k → (item_row done (shape t)).run b ≡ read c (Some op, done ++ os)
    by ways.Bare at = bare_read done b c t op ts os at written are
    by k at = busy (λ e. absurd (cc))

-- an item, or an annotation that is passed over
abbrev pub IsPassed : Table → Tree → Option Item → Table → Type 0
IsPassed before t (Some i) behind = IsItem before t i behind
IsPassed before t None behind = (note : Tree) × Tuple t (codes "%") (note ∷ []) × (before ≡ behind)

passed_is : (t : Tree) (b c : Table) (r : Read) → IsRead [] b t r c → IsPassed b t (read_as r) c
passed_is t b c (Some op, all) (os, same, is) = subst (λ os. IsItem b t (record { op = op; operands = os }) c) (sym same) is
passed_is t b c (None, all) (note, e, none, same) = (note, e, same)

-- what is read as an item is one
pub item_is : (t : Tree) (b c : Table) (i : Option Item) → Written t → (item (shape t)).run b ≡ read c i → IsPassed b t i c
item_is t b c i w h =
    after_read ((item_row [] (shape t)).run b) (λ r. give (read_as r)) c i (λ d r e1 h1.
    given (IsPassed b t) (read_as r) i d c h1 (passed_is t b d r (row_item_is [] t b d r w e1))) h

-- what is an item is read as it
pub item_read : {b c : Table} {t : Tree} {i : Item} → IsItem b t i c → (item (shape t)).run b ≡ read c (Some i)
item_read {b = b} {c = c} {t = t} {i = i} is = rw (row_item_read [] b c t i.op i.operands is)

pub note_read : (t note : Tree) (b : Table) → Tuple t (codes "%") (note ∷ []) → (item (shape t)).run b ≡ read b None
note_read t note b e = rw e
