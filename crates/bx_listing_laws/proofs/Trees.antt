-- Texts that are printed terms, and what is known of every term that such a text is read as, wherever its parts stand.
use Rattle.std.proofs.Common.{◌≡◌, ℕ, suc, ◌≤◌, ◌<◌, ◌^◌, true, false, List, [], ◌∷◌, ◌++◌, map, Some, ℤ, pos, negsuc, refl, sym, ap, ◌∙◌, subst, arith, append_assoc, decimal, IsAscii, IsUtf8, codes, ltb-true}
use Rattle.std.specs.Prelude.{nat_lt, option_map}
use Rattle.std.specs.List.{AllByRecursion, flat_map, list_all}
use Rattle.std.specs.Fmt.{signed_decimal}
use Rattle.std.proofs.lemmas.Bool.Decides.{nat_tests}
use Rattle.std.proofs.lemmas.Bool.{and_parts}
use Rattle.std.proofs.lemmas.Str.{IsUtf8-from_ascii}
use Rattle.std.proofs.lemmas.Str.Ascii.{IsAscii-nil, IsAscii-cons}
use lib.Signed.{mag}
use Rattle.bx_terms.specs.AtomText.{printed_atom}
use Rattle.bx_text.specs.declared.node.Span.{Span}
use Rattle.bx_text.specs.Number.{is_large}
use Rattle.bx_text.specs.Printed.{integer_text, node_text, rest_text}
use Rattle.bx_text.specs.Tree.{Tree, integer, atom, tuple, list, nil, cons, chain}
use Rattle.bx_text.proofs.Shown.{small_text}
use Rattle.bx_text_laws.specs.Shown.{Shown, ShownRow, ShownList, ShownRest, nowhere, unplaced}
use Rattle.bx_listing.specs.Shape.{tagged, shape, elements, number, word, proper, list_elements}

-- a text that a term is printed as, and what every term is that differs from it only in its spans
pub record Printed (d : ℕ) (text : List ℕ) (Is : Tree → Type 0) : Type 0 where
  pub tree : Tree
  pub shown : Shown d tree
  pub printed : node_text tree ≡ text
  pub means : (u : Tree) → unplaced u ≡ unplaced tree → Is u

-- the same of terms in a row
pub record PrintedAll (d : ℕ) (texts : List (List ℕ)) (Are : List Tree → Type 0) : Type 0 where
  pub trees : List Tree
  pub shown : AllByRecursion (Shown d) trees
  pub printed : map node_text trees ≡ texts
  pub means : (us : List Tree) → map unplaced us ≡ map unplaced trees → Are us

pub weaker : {d : ℕ} {text : List ℕ} {Is Also : Tree → Type 0} → ((u : Tree) → Is u → Also u) → Printed d text Is → Printed d text Also
weaker f p = record { tree = p.tree; shown = p.shown; printed = p.printed; means = λ u e. f u (p.means u e) }

pub reworded : {d : ℕ} {text others : List ℕ} {Is : Tree → Type 0} → text ≡ others → Printed d text Is → Printed d others Is
reworded e p = record { tree = p.tree; shown = p.shown; printed = p.printed ∙ e; means = p.means }

-- texts behind commas, and what ends them
abbrev pub behind : List (List ℕ) → List ℕ → List ℕ
behind [] end = end
behind (w ∷ ws) end = 44 ∷ (w ++ behind ws end)

-- texts with commas between them, and what ends them
abbrev pub between : List (List ℕ) → List ℕ → List ℕ
between [] end = end
between (w ∷ ws) end = w ++ behind ws end

pub commas_are : {X : Type 0} (text : X → List ℕ) (xs : List X) (end : List ℕ) → flat_map (λ x. codes "," ++ text x) xs ++ end ≡ behind (map text xs) end
commas_are text [] end = refl
commas_are text (x ∷ xs) end = ap (λ w. 44 ∷ w) (append_assoc (text x) (flat_map (λ x. codes "," ++ text x) xs) end ∙ ap (λ w. text x ++ w) (commas_are text xs end))

pub joined_is : {X : Type 0} (text : X → List ℕ) (x : X) (xs : List X) (end : List ℕ) → (text x ++ flat_map (λ x. codes "," ++ text x) xs) ++ end ≡ text x ++ behind (map text xs) end
joined_is text x xs end = append_assoc (text x) (flat_map (λ x. codes "," ++ text x) xs) end ∙ ap (λ w. text x ++ w) (commas_are text xs end)

-- terms without their spans

pub atom_is : (u : Tree) (w : List ℕ) → unplaced u ≡ atom nowhere w → (s : Span) × (u ≡ atom s w)
atom_is (atom s v) w e = let same : v ≡ w = cc in (s, ap (atom s) same)
atom_is _ w e = absurd (cc)

pub integer_is : (u : Tree) (n : ℤ) → unplaced u ≡ integer nowhere n → (s : Span) × (u ≡ integer s n)
integer_is (integer s m) n e = let same : m ≡ n = cc in (s, ap (integer s) same)
integer_is _ n e = absurd (cc)

-- the parts of a row
proper_is : (row : Tree) (ts : List Tree) → unplaced row ≡ unplaced (chain ts nil) → (proper row ≡ Some (elements row)) × (map unplaced (elements row) ≡ map unplaced ts)
proper_is nil [] e = (refl, refl)
proper_is (cons u row) (t ∷ ts) e = let (all, same) = proper_is row ts cc in (ap (option_map (λ us. u ∷ us)) all, cc)
proper_is _ [] e = absurd (cc)
proper_is _ (t ∷ ts) e = absurd (cc)

-- a tuple that begins with a word
tagged_is : (u : Tree) (w : List ℕ) (ts : List Tree) → unplaced u ≡ tuple nowhere (cons (atom nowhere w) (unplaced (chain ts nil)))
    → (us : List Tree) × (shape u ≡ tagged w us) × (map unplaced us ≡ map unplaced ts)
tagged_is (tuple s (cons (atom r v) row)) w ts e = let same : v ≡ w = cc in (elements row, ap (λ w. tagged w (elements row)) same, (proper_is row ts cc).1)
tagged_is _ w ts e = absurd (cc)

listed_is : (u : Tree) (ts : List Tree) → unplaced u ≡ list nowhere (unplaced (chain ts nil)) → (us : List Tree) × (list_elements u ≡ Some us) × (map unplaced us ≡ map unplaced ts)
listed_is (list s row) ts e = let (all, same) = proper_is row ts cc in (elements row, all, same)
listed_is _ ts e = absurd (cc)

-- their texts
rest_is : (ts : List Tree) (end : List ℕ) → rest_text (chain ts nil) ++ end ≡ behind (map node_text ts) end
rest_is [] end = refl
rest_is (t ∷ ts) end = ap (λ us. 44 ∷ us) (append_assoc (node_text t) (rest_text (chain ts nil)) end ∙ ap (λ us. node_text t ++ us) (rest_is ts end))

tagged_text : (w : List ℕ) (ts : List Tree) → node_text (tuple nowhere (cons (atom nowhere w) (chain ts nil))) ≡ 123 ∷ (printed_atom w ++ behind (map node_text ts) (125 ∷ []))
tagged_text w ts = ap (λ us. 123 ∷ us) (append_assoc (printed_atom w) (rest_text (chain ts nil)) (125 ∷ []) ∙ ap (λ us. printed_atom w ++ us) (rest_is ts (125 ∷ [])))

listed_text : (ts : List Tree) → node_text (list nowhere (chain ts nil)) ≡ 91 ∷ between (map node_text ts) (93 ∷ [])
listed_text [] = refl
listed_text (t ∷ ts) = ap (λ us. 91 ∷ us) (append_assoc (node_text t) (rest_text (chain ts nil)) (93 ∷ []) ∙ ap (λ us. node_text t ++ us) (rest_is ts (93 ∷ [])))

-- how deep they nest
row_shown : (d : ℕ) (ts : List Tree) → AllByRecursion (Shown d) ts → ShownRow d (chain ts nil)
row_shown d [] a = tt
row_shown d (t ∷ ts) a = (a.0, row_shown d ts a.1)

rest_shown : (d : ℕ) (ts : List Tree) → AllByRecursion (Shown d) ts → ShownRest d (chain ts nil)
rest_shown d [] a = tt
rest_shown d (t ∷ ts) a = (a.0, rest_shown d ts a.1)

list_shown : (d : ℕ) (ts : List Tree) → AllByRecursion (Shown d) ts → ShownList d (chain ts nil)
list_shown d [] a = tt
list_shown d (t ∷ ts) a = (a.0, rest_shown d ts a.1)

-- a word of ASCII
ascii : (w : List ℕ) → list_all (λ b. nat_lt b 128) w ≡ true → IsAscii w
ascii [] a = IsAscii-nil
ascii (b ∷ w) a = let (low, more) = and_parts (nat_lt b 128) (list_all (λ b. nat_lt b 128) w) a in IsAscii-cons b w (ltb-true b 128 low) (ascii w more)

pub plain_utf8 : (w : List ℕ) → list_all (λ b. nat_lt b 128) w ≡ true → IsUtf8 w
plain_utf8 w a = IsUtf8-from_ascii w (ascii w a)

-- texts of words, numbers, tuples and lists

pub word_printed : (d : ℕ) (w : List ℕ) {Is : Tree → Type 0} → IsUtf8 w → ((u : Tree) → word u ≡ Some w → Is u) → Printed d (printed_atom w) Is
word_printed d w utf8 k = record { tree = atom nowhere w; shown = utf8; printed = refl; means = λ u e. k u (ap word (atom_is u w e).1) }

small : (z : ℤ) → is_large z ≡ false → mag z < 2 ^ 63
small (pos n) h = grind (arith, nat_tests)
small (negsuc n) h = grind (arith, nat_tests)

-- an integer of 64 bits, as terms print it
pub integer_shown : (z : ℤ) → is_large z ≡ false → integer_text z ≡ signed_decimal z
integer_shown z h = sym (small_text z (small z h))

pub integer_printed : (d : ℕ) (z : ℤ) {Is : Tree → Type 0} → is_large z ≡ false → ((s : Span) → Is (integer s z)) → Printed d (signed_decimal z) Is
integer_printed d z {Is} h k = record {
  tree = integer nowhere z;
  shown = tt;
  printed = integer_shown z h;
  means = λ u e. let (s, is) = integer_is u z e in subst Is (sym is) (k s);
}

pub number_printed : (d n : ℕ) {Is : Tree → Type 0} → n ≤ 4294967295 → ((u : Tree) → number u ≡ Some n → Is u) → Printed d (decimal n) Is
number_printed d n h k = integer_printed d (pos n) (grind (arith, nat_tests)) (λ s. k (integer s (pos n)) (grind (arith, nat_tests)))

pub none_printed : {d : ℕ} {Are : List Tree → Type 0} → Are [] → PrintedAll d [] Are
none_printed {d} {Are} a = record { trees = []; shown = tt; printed = refl; means = λ us e. by us e }
  where
    by : (us : List Tree) → map unplaced us ≡ [] → Are us
    by [] e = a
    by (u ∷ us) e = absurd (cc)

-- `[]`, where anything may stand
pub nothing_printed : (d : ℕ) {Is : Tree → Type 0} → ((u : Tree) → Is u) → Printed (suc d) (codes "[]") Is
nothing_printed d k = record { tree = list nowhere nil; shown = tt; printed = refl; means = λ u e. k u }

pub more_printed : {d : ℕ} {text : List ℕ} {texts : List (List ℕ)} {Is : Tree → Type 0} {Rest Are : List Tree → Type 0} → Printed d text Is → PrintedAll d texts Rest
    → ((u : Tree) (us : List Tree) → Is u → Rest us → Are (u ∷ us)) → PrintedAll d (text ∷ texts) Are
more_printed {text = text} {texts = texts} {Are = Are} p ps k = record {
  trees = p.tree ∷ ps.trees;
  shown = (p.shown, ps.shown);
  printed = ap (λ w. w ∷ map node_text ps.trees) p.printed ∙ ap (λ ws. text ∷ ws) ps.printed;
  means = λ us e. by us e;
}
  where
    by : (us : List Tree) → map unplaced us ≡ unplaced p.tree ∷ map unplaced ps.trees → Are us
    by [] e = absurd (cc)
    by (u ∷ us) e = k u us (p.means u cc) (ps.means us cc)

-- `{w,..}`
pub tagged_printed : (d : ℕ) (w : List ℕ) {texts : List (List ℕ)} {Are : List Tree → Type 0} {Is : Tree → Type 0} → IsUtf8 w → PrintedAll d texts Are
    → ((u : Tree) (us : List Tree) → shape u ≡ tagged w us → Are us → Is u) → Printed (suc d) (123 ∷ (printed_atom w ++ behind texts (125 ∷ []))) Is
tagged_printed d w utf8 ps k = record {
  tree = tuple nowhere (cons (atom nowhere w) (chain ps.trees nil));
  shown = (utf8, row_shown d ps.trees ps.shown);
  printed = tagged_text w ps.trees ∙ ap (λ ws. 123 ∷ (printed_atom w ++ behind ws (125 ∷ []))) ps.printed;
  means = λ u e. let (us, is, same) = tagged_is u w ps.trees e in k u us is (ps.means us same);
}

-- `[..]`
pub list_printed : (d : ℕ) {texts : List (List ℕ)} {Are : List Tree → Type 0} {Is : Tree → Type 0} → PrintedAll d texts Are
    → ((u : Tree) (us : List Tree) → list_elements u ≡ Some us → Are us → Is u) → Printed (suc d) (91 ∷ between texts (93 ∷ [])) Is
list_printed d ps k = record {
  tree = list nowhere (chain ps.trees nil);
  shown = list_shown d ps.trees ps.shown;
  printed = listed_text ps.trees ∙ ap (λ ws. 91 ∷ between ws (93 ∷ [])) ps.printed;
  means = λ u e. let (us, is, same) = listed_is u ps.trees e in k u us is (ps.means us same);
}
