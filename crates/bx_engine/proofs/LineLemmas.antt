-- The text of a failure has no line feed, where the files' names have none.
use Rattle.std.proofs.Common.{◌≡◌, ◌<◌, ◌≤◌, ◌+◌, ◌/◌, ◌%◌, ◌==◌, ◌∙◌, ◌&&◌, ℕ, Bool, true, false, true≢false, zero, suc, cond, List, [], ◌∷◌, ◌++◌, Option, Some, None, arith, ap, codes, decimal, not, refl, sym, nat_lt, nat_le, slice_get}
use Rattle.std.specs.Prelude.{IfSome, option_map}
use Rattle.std.specs.Fmt.{digit_glyph, digits, digits_onto}
use Rattle.std.specs.List.{list_all}
use Rattle.std.specs.Option.{option_map_or}
use Rattle.std.proofs.lemmas.Bool.{leb-true, ne_eqb}
use Rattle.std.proofs.lemmas.List.Folds.{list_all-append}
use Rattle.bx_terms.specs.declared.faults.Fault.{Fault}
use Rattle.bx_terms.specs.declared.faults.Fault.TheVariants.{TooManyAtoms, AtomTooLong, BadToken, BadTerm, TooDeep, Truncated, NotUtf8, BadForm, Unsupported, BadOperand, LiteralRange, LabelTwice, LabelMissing, EntryMissing, RegisterRange, TooLarge, ModuleTwice, ExportMissing, TooManyModules, NotEnabled, Halted, BeforeStart, AfterEnd, BadLine, NameTwice, TooLong, NotIndependent, NotLeased, Foreign, Twice, Unfinished, NoEntry, BadCommand, Workers, Memory}
use Rattle.bx_engine.specs.FaultLines.{at_line, counted, detail_of, is_plain, name_at, named, raw_text, spelled, text_of, titled_text}
use Rattle.bx_engine.specs.Lines.{is_unbroken}
use Rattle.bx_terms.specs.Refusals.{refusal}
use Rattle.bx_engine.specs.declared.failures.Failure.{Failure, TheVariants.Refused, TheVariants.Read, TheVariants.Write, TheVariants.Start}

abbrev stays : ℕ → Bool
stays code = not (code == 10)

past_ten : (code : ℕ) → 10 < code → stays code ≡ true
past_ten code h = ap not (ne_eqb code 10 (λ e. absurd (omega arith)))

joined : (xs ys : List ℕ) → is_unbroken xs ≡ true → is_unbroken ys ≡ true → is_unbroken (xs ++ ys) ≡ true
joined xs ys a b = rw (list_all-append stays xs ys, a, b) refl

behind : (code : ℕ) (xs : List ℕ) → stays code ≡ true → is_unbroken xs ≡ true → is_unbroken (code ∷ xs) ≡ true
behind code xs a b = rw (a, b) refl

glyph_stays : (d : ℕ) → stays (digit_glyph false d) ≡ true
glyph_stays d = go (nat_lt d 10)
  where
    go : (b : Bool) → stays (cond b (48 + d) (87 + d)) ≡ true
    go true = past_ten (48 + d) (omega arith)
    go false = past_ten (87 + d) (omega arith)

digits_stay : (k base n : ℕ) (acc : List ℕ) → is_unbroken acc ≡ true → is_unbroken (digits_onto k base false n acc) ≡ true
digits_stay zero base n acc h = h
digits_stay (suc k) base n acc h =
    let longer = behind (digit_glyph false (n % base)) acc (glyph_stays (n % base)) h in
    go (n / base == 0) longer (digits_stay k base (n / base) (digit_glyph false (n % base) ∷ acc) longer)
  where
    go : (b : Bool) → is_unbroken (digit_glyph false (n % base) ∷ acc) ≡ true → is_unbroken (digits_onto k base false (n / base) (digit_glyph false (n % base) ∷ acc)) ≡ true
        → is_unbroken (cond b (digit_glyph false (n % base) ∷ acc) (digits_onto k base false (n / base) (digit_glyph false (n % base) ∷ acc))) ≡ true
    go true one more = one
    go false one more = more

number_stays : (base n : ℕ) → is_unbroken (digits base false n) ≡ true
unfolding digits
number_stays base n = digits_stay 64 base n [] refl

counted_stays : (before : List ℕ) (n : ℕ) → is_unbroken before ≡ true → is_unbroken (counted before n) ≡ true
counted_stays before n h = joined before (decimal n) h (number_stays 10 n)

line_stays : (line : ℕ) → is_unbroken (at_line line) ≡ true
line_stays line = counted_stays (codes " line ") line refl

spelled_stays : (code : ℕ) → is_unbroken (spelled code) ≡ true
spelled_stays code = go (is_plain code) refl
  where
    plain_stays : (a b : Bool) → nat_le 32 code ≡ a → (a && b) ≡ true → stays code ≡ true
    plain_stays true b e h = let above : 32 ≤ code = leb-true 32 code e in past_ten code (omega arith)
    plain_stays false b e h = absurd (true≢false (sym h))

    go : (b : Bool) → is_plain code ≡ b → is_unbroken (cond b (code ∷ []) (codes "\\x{" ++ digits 16 false code ++ codes "}")) ≡ true
    go true e = behind code [] (plain_stays (nat_le 32 code) (not (code == 127)) refl e) refl
    go false e = joined (codes "\\x{" ++ digits 16 false code) (codes "}") (joined (codes "\\x{") (digits 16 false code) refl (number_stays 16 code)) refl

raw_stays : (name : List ℕ) → is_unbroken (raw_text name) ≡ true
raw_stays [] = refl
raw_stays (code ∷ name) = joined (spelled code) (raw_text name) (spelled_stays code) (raw_stays name)

at_some_line : (line : Option ℕ) → is_unbroken (option_map_or at_line line []) ≡ true
at_some_line None = refl
at_some_line (Some line) = line_stays line

detail_stays : (fault : Fault) → is_unbroken (detail_of fault) ≡ true
detail_stays (TooManyAtoms line) = at_some_line line
detail_stays (AtomTooLong line) = at_some_line line
detail_stays (BadToken line) = line_stays line
detail_stays (BadTerm line) = line_stays line
detail_stays (TooDeep line) = line_stays line
detail_stays (Truncated line) = line_stays line
detail_stays (NotUtf8 line) = line_stays line
detail_stays (BadForm line) = line_stays line
detail_stays (Unsupported line name) = joined (at_line line ++ codes " ") (raw_text name) (joined (at_line line) (codes " ") (line_stays line) refl) (raw_stays name)
detail_stays (BadOperand line) = line_stays line
detail_stays (LiteralRange line) = line_stays line
detail_stays (LabelTwice label) = counted_stays (codes " ") label refl
detail_stays (LabelMissing label) = counted_stays (codes " ") label refl
detail_stays (EntryMissing function) = counted_stays (codes " ") function refl
detail_stays (RegisterRange line) = line_stays line
detail_stays (BadLine line) = line_stays line
detail_stays (NameTwice line) = line_stays line
detail_stays (TooLong line) = line_stays line
detail_stays (NotIndependent position) = counted_stays (codes " ") position refl
detail_stays (BadCommand line) = line_stays line
detail_stays TooLarge = refl
detail_stays ModuleTwice = refl
detail_stays ExportMissing = refl
detail_stays TooManyModules = refl
detail_stays NotEnabled = refl
detail_stays Halted = refl
detail_stays BeforeStart = refl
detail_stays AfterEnd = refl
detail_stays NotLeased = refl
detail_stays Foreign = refl
detail_stays Twice = refl
detail_stays Unfinished = refl
detail_stays NoEntry = refl
detail_stays Workers = refl
detail_stays Memory = refl

-- a title has a number of 1 to 34, and its name is unbroken
pub record IsTitle (title : ℕ × List ℕ) : Type 0 where
  pub number : (1 ≤ title.0) × (title.0 ≤ 34)
  pub name : is_unbroken title.1 ≡ true

pub titled : (fault : Fault) → IfSome (refusal fault) IsTitle
titled (TooManyAtoms x) = record { number = (omega arith, omega arith); name = refl }
titled (AtomTooLong x) = record { number = (omega arith, omega arith); name = refl }
titled (BadToken x) = record { number = (omega arith, omega arith); name = refl }
titled (BadTerm x) = record { number = (omega arith, omega arith); name = refl }
titled (TooDeep x) = record { number = (omega arith, omega arith); name = refl }
titled (Truncated x) = record { number = (omega arith, omega arith); name = refl }
titled (NotUtf8 x) = record { number = (omega arith, omega arith); name = refl }
titled (BadForm x) = record { number = (omega arith, omega arith); name = refl }
titled (Unsupported line name) = record { number = (omega arith, omega arith); name = refl }
titled (BadOperand x) = record { number = (omega arith, omega arith); name = refl }
titled (LiteralRange x) = record { number = (omega arith, omega arith); name = refl }
titled (LabelTwice x) = record { number = (omega arith, omega arith); name = refl }
titled (LabelMissing x) = record { number = (omega arith, omega arith); name = refl }
titled (EntryMissing x) = record { number = (omega arith, omega arith); name = refl }
titled (RegisterRange x) = record { number = (omega arith, omega arith); name = refl }
titled TooLarge = record { number = (omega arith, omega arith); name = refl }
titled ModuleTwice = record { number = (omega arith, omega arith); name = refl }
titled ExportMissing = record { number = (omega arith, omega arith); name = refl }
titled TooManyModules = record { number = (omega arith, omega arith); name = refl }
titled NotEnabled = record { number = (omega arith, omega arith); name = refl }
titled Halted = record { number = (omega arith, omega arith); name = refl }
titled BeforeStart = record { number = (omega arith, omega arith); name = refl }
titled AfterEnd = record { number = (omega arith, omega arith); name = refl }
titled (BadLine x) = record { number = (omega arith, omega arith); name = refl }
titled (NameTwice x) = record { number = (omega arith, omega arith); name = refl }
titled (TooLong x) = record { number = (omega arith, omega arith); name = refl }
titled (NotIndependent x) = record { number = (omega arith, omega arith); name = refl }
titled NotLeased = record { number = (omega arith, omega arith); name = refl }
titled Foreign = record { number = (omega arith, omega arith); name = refl }
titled Twice = record { number = (omega arith, omega arith); name = refl }
titled Unfinished = record { number = (omega arith, omega arith); name = refl }
titled NoEntry = record { number = (omega arith, omega arith); name = refl }
titled (BadCommand x) = record { number = (omega arith, omega arith); name = refl }
titled Workers = record { number = (omega arith, omega arith); name = refl }
titled Memory = tt

-- a title's number is one of 1 to 34
pub number_of_title : (title : Option (ℕ × List ℕ)) → IfSome title IsTitle → IfSome title (λ t. (1 ≤ t.0) × (t.0 ≤ 34))
number_of_title None h = tt
number_of_title (Some title) h = h.number

titled_stays : (title : Option (ℕ × List ℕ)) (detail file : List ℕ) → IfSome title IsTitle → is_unbroken detail ≡ true → is_unbroken file ≡ true
    → is_unbroken (titled_text title detail file) ≡ true
titled_stays None detail file h a b = refl
titled_stays (Some title) detail file h a b =
    let number = joined (codes "bxemu: R") (decimal title.0) refl (number_stays 10 title.0) in
    let space = joined (codes "bxemu: R" ++ decimal title.0) (codes " ") number refl in
    let name = joined (codes "bxemu: R" ++ decimal title.0 ++ codes " ") title.1 space h.name in
    let whole = joined (codes "bxemu: R" ++ decimal title.0 ++ codes " " ++ title.1) detail name a in
    joined (codes "bxemu: R" ++ decimal title.0 ++ codes " " ++ title.1 ++ detail) file whole b

-- a file's name is unbroken where each is
name_stays : (before : List ℕ) (file : Option ℕ) (names : List (List ℕ)) → is_unbroken before ≡ true → list_all is_unbroken names ≡ true
    → is_unbroken (named before (name_at file names)) ≡ true
name_stays before None names a h = refl
name_stays before (Some i) names a h = go names i h
  where
    both : (p q : Bool) → (p && q) ≡ true → (p ≡ true) × (q ≡ true)
    both true q e = (refl, e)
    both false q e = absurd (true≢false (sym e))

    go : (ns : List (List ℕ)) (k : ℕ) → list_all is_unbroken ns ≡ true → is_unbroken (named before (slice_get ns k)) ≡ true
    go [] k e = refl
    go (n ∷ ns) zero e = joined before n a (both (is_unbroken n) (list_all is_unbroken ns) e).0
    go (n ∷ ns) (suc k) e = go ns k (both (is_unbroken n) (list_all is_unbroken ns) e).1

pub text_stays : (failure : Failure) (names : List (List ℕ)) → list_all is_unbroken names ≡ true → is_unbroken (text_of failure names) ≡ true
text_stays (Refused fault file) names h =
    titled_stays (refusal fault) (detail_of fault) (named (codes " in ") (name_at file names)) (titled fault) (detail_stays fault) (name_stays (codes " in ") file names refl h)
text_stays (Read file) names h = joined (codes "bxemu: read") (named (codes " ") (name_at (Some file) names)) refl (name_stays (codes " ") (Some file) names refl h)
text_stays Write names h = refl
text_stays Start names h = refl

-- the number and the name of a refusal are its row
pub title_is : (row : Option (ℕ × List ℕ)) (number : ℕ) (name other : List ℕ) → Some number ≡ option_map (λ r. r.0) row → name ≡ option_map_or (λ r. r.1) row other → Some (number, name) ≡ row
title_is None number name other e f = absurd (cc)
title_is (Some r) number name other e f = let first : number ≡ r.0 = cc in ap (λ n. Some (n, name)) first ∙ ap (λ t. Some (r.0, t)) f

pub untitled : (row : Option (ℕ × List ℕ)) → None ≡ option_map (λ r. r.0) row → None ≡ row
untitled None e = refl
untitled (Some r) e = absurd (cc)
