-- Files taken one after the other.
use Rattle.std.proofs.Common.{◌≡◌, ◌∙◌, ◌<◌, ◌≤◌, ◌+◌, ℕ, arith, zero, suc, List, [], ◌∷◌, ◌++◌, Option, Some, Result, Ok, Err, refl, sym, ap, subst, map, take, drop, length, take-append-drop, append-nil}
use Rattle.std.proofs.Math.ListN.{get_or, set}
use Rattle.std.proofs.lemmas.List.{drop_more, drop-map, drop-set-lt, drop-drop, length-map, map-append, take_all}
use Rattle.bx_listing.specs.Code.{Code}
use Rattle.bx_listing.specs.Reading.{Table}
use Rattle.std.specs.Prelude.{Bool, true, false, IsOk, if◌then◌else◌, nat_lt}
use Rattle.bx_terms.specs.Outcomes.{Gives}
use Rattle.bx_terms.specs.declared.faults.Fault.{Fault, TheVariants.Memory, TheVariants.TooLarge}
use Rattle.bx_engine.specs.declared.failures.Failure.{Failure, TheVariants.Refused, TheVariants.Read, TheVariants.Write, TheVariants.Start}
use Rattle.bx_listing.specs.Locations.{Location}
use Rattle.bx_engine.specs.Inputs.{input_limit}
use Rattle.bx_engine.specs.Sources.{Sources, located_in, sources_of}
use Rattle.bx_engine.specs.Units.{ClearBefore, FileGives, FilesGive, ◌>>=◌, fault_in, in_file, sized, unit_in, units_from, units_of}

-- the bytes of the next file
pub record Next (A : Type 0) (rem : A → Option (List ℕ)) (x : A) (k : ℕ) (given : List (List ℕ)) : Type 0 where
  pub text : List ℕ
  pub behind : List (List ℕ)
  pub known : rem x ≡ Some text
  pub next : (ys : List (List ℕ)) → take (k + 1) given ++ ys ≡ take k given ++ text ∷ ys
  pub rest : take k given ++ text ∷ behind ≡ given

one_more : (k : ℕ) (given : List (List ℕ)) (t : List ℕ) (ts : List (List ℕ)) → drop k given ≡ t ∷ ts
    → (ys : List (List ℕ)) → take (k + 1) given ++ ys ≡ take k given ++ t ∷ ys
one_more zero [] t ts e ys = absurd (cc)
one_more zero (g ∷ gs) t ts e ys = ap (λ (f : List ℕ). f ∷ ys) (cc)
one_more (suc k) [] t ts e ys = absurd (cc)
one_more (suc k) (g ∷ gs) t ts e ys =
    let counted : suc k + 1 ≡ suc (k + 1) = omega arith in
    rw counted (ap (λ (r : List (List ℕ)). g ∷ r) (one_more k gs t ts e ys))

known_next : {A : Type 0} (rem : A → Option (List ℕ)) (k : ℕ) (x : A) (given : List (List ℕ)) (more : List (Option (List ℕ))) (left : List (List ℕ))
    → drop k given ≡ left → rem x ∷ more ≡ map (λ text. Some text) left → Next A rem x k given
known_next rem k x given more [] at e = absurd (cc)
known_next rem k x given more (t ∷ ts) at e = record {
  text = t;
  behind = ts;
  known = cc;
  next = one_more k given t ts at;
  rest = ap (λ (r : List (List ℕ)). take k given ++ r) (sym at) ∙ take-append-drop k given;
}

-- two rows that agree on what is left agree on the next file
pub next_file : {A : Type 0} (rem : A → Option (List ℕ)) (old now : List A) (k : ℕ) (x : A) (given : List (List ℕ))
    → map rem old ≡ map (λ text. Some text) given → drop k now ≡ drop k old → k < length now → x ≡ get_or now k x
    → Next A rem x k given
next_file rem old now k x given all left short at =
    let here = drop_more now k x short ∙ ap (λ y. y ∷ drop (k + 1) now) (sym at) in
    let old_here = sym left ∙ here in
    let known = ap (map rem) (sym old_here) ∙ sym (drop-map rem k old) ∙ ap (drop k) all ∙ drop-map (λ text. Some text) k given in
    known_next rem k x given (map rem (drop (k + 1) now)) (drop k given) refl known

-- the files before that number came to this, whatever follows
abbrev pub SoFar : Table → ℕ → List (List ℕ) → Table → List Code → Type 0
SoFar texts k given now done = (ys : List (List ℕ)) → units_from 0 texts [] (take k given ++ ys) ≡ units_from k now done ys

-- one file more
pub so_far_next : {A : Type 0} (rem : A → Option (List ℕ)) (x : A) (texts : Table) (k : ℕ) (given : List (List ℕ)) (now after : Table) (done : List Code) (code : Code)
    → SoFar texts k given now done → (n : Next A rem x k given) → unit_in k now n.text ≡ Ok (after, code)
    → SoFar texts (k + 1) given after (done ++ code ∷ [])
so_far_next rem x texts k given now after done code before n e ys =
    ap (units_from 0 texts []) (n.next ys) ∙ before (n.text ∷ ys) ∙ ap (λ r. r >>= λ u. units_from (k + 1) u.0 (done ++ u.1 ∷ []) ys) e

-- a fault of the next file is the first
pub first_fault : {A : Type 0} (rem : A → Option (List ℕ)) (x : A) (texts : Table) (k : ℕ) (given : List (List ℕ)) (now : Table) (done : List Code) (failure : Failure)
    → SoFar texts k given now done → (n : Next A rem x k given) → unit_in k now n.text ≡ Err failure
    → units_of texts given ≡ Err failure
first_fault rem x texts k given now done failure before n e =
    ap (units_from 0 texts []) (sym n.rest) ∙ before (n.text ∷ n.behind) ∙ ap (λ r. r >>= λ u. units_from (k + 1) u.0 (done ++ u.1 ∷ []) n.behind) e

-- the files so far have no fault
pub none_before : (texts : Table) (k : ℕ) (given : List (List ℕ)) (now : Table) (done : List Code) → SoFar texts k given now done → units_of texts (take k given) ≡ Ok (now, done)
none_before texts k given now done before = ap (units_from 0 texts []) (sym (append-nil (take k given))) ∙ before []

-- a fault of the next file, or that it can't be read, is what all files come to
pub failed_files : {X Y A B : Type 0} (one : X → A) (all : Y → B) (k : ℕ) (failure : Failure) (said : Result A Failure) (clear : ℕ → Type 0) (whole : Result B Failure)
    → FileGives one k (Err failure) said → (said ≡ Err failure → whole ≡ Err failure) → clear k → FilesGive all (Err failure) clear whole
failed_files one all k (Refused Memory file) said clear whole gives on here = gives
failed_files one all k (Refused fault file) said clear whole gives on here = on gives
failed_files one all k (Read file) said clear whole gives on here = subst clear (sym gives) here
failed_files one all k Write said clear whole gives on here = absurd gives
failed_files one all k Start said clear whole gives on here = absurd gives

-- the fault of a text is that of its file
pub fault_of_file : {X A : Type 0} (takes : Type 0) (view : X → A) (n : ℕ) (fault : Fault) (said : Result A Fault) → Gives takes view (Err fault) said → FileGives view n (Err (fault_in n fault)) (in_file n said)
fault_of_file takes view n Memory said gives = refl
fault_of_file takes view n fault said gives = ap (in_file n) gives

pub file_fails : {X A : Type 0} (takes : Type 0) (view : X → A) (n : ℕ) (fault : Fault) (failure : Failure) (said : Result A Fault) → Gives takes view (Err fault) said → failure ≡ fault_in n fault → FileGives view n (Err failure) (in_file n said)
file_fails takes view n fault failure said gives e = subst (λ f. FileGives view n (Err f) (in_file n said)) (sym e) (fault_of_file takes view n fault said gives)

pub same_length : {A : Type 0} (rem : A → Option (List ℕ)) (old : List A) (given : List (List ℕ)) → map rem old ≡ map (λ text. Some text) given → length given ≡ length old
same_length rem old given known = sym (length-map given (λ text. Some text)) ∙ ap length (sym known) ∙ length-map old rem

-- before the next file nothing is at fault
pub clear_here : {A : Type 0} (rem : A → Option (List ℕ)) (old now : List A) (texts : Table) (k : ℕ) (given : List (List ℕ)) (table : Table) (done : List Code)
    → map rem old ≡ map (λ text. Some text) given → length now ≡ length old → k < length now → SoFar texts k given table done → ClearBefore texts given k
clear_here rem old now texts k given table done known same short before =
    let counted : length given ≡ length now = same_length rem old given known ∙ sym same in
    (rw counted short, subst IsOk (sym (none_before texts k given table done before)) refl)

-- all files
pub all_files : {A : Type 0} (rem : A → Option (List ℕ)) (old : List A) (texts : Table) (k : ℕ) (given : List (List ℕ)) (now : Table) (done : List Code)
    → map rem old ≡ map (λ text. Some text) given → length old ≤ k → SoFar texts k given now done → units_of texts given ≡ Ok (now, done)
all_files rem old texts k given now done known long before =
    let counted : length given ≡ length old = same_length rem old given known in
    ap (units_from 0 texts []) (sym (take_all k given (rw counted long))) ∙ none_before texts k given now done before

pub left_after : {A : Type 0} (old now : List A) (k : ℕ) (x : A) → drop k now ≡ drop k old → drop (k + 1) (set now k x) ≡ drop (k + 1) old
left_after old now k x left =
    let past : k < k + 1 = omega arith in
    drop-set-lt (k + 1) now k x past ∙ sym (drop-drop 1 k now) ∙ ap (drop 1) left ∙ drop-drop 1 k old

-- the locations of one file more
pub sources_next : {A : Type 0} (rem : A → Option (List ℕ)) (x : A) (k : ℕ) (given : List (List ℕ)) (old new : Sources) (items : List (Option Location))
    → old ≡ sources_of (take k given) → (n : Next A rem x k given) → items ≡ located_in n.text → new ≡ old ++ items ∷ [] → new ≡ sources_of (take (k + 1) given)
sources_next rem x k given old new items before n here made =
    made ∙ ap (λ (s : Sources). s ++ items ∷ []) before ∙ ap (λ (l : List (Option Location)). sources_of (take k given) ++ l ∷ []) here
    ∙ sym (map-append located_in (take k given) (n.text ∷ [])) ∙ ap sources_of (sym (n.next []) ∙ append-nil (take (k + 1) given))

pub all_sources : {A : Type 0} (rem : A → Option (List ℕ)) (old : List A) (k : ℕ) (given : List (List ℕ)) (sources : Sources)
    → map rem old ≡ map (λ text. Some text) given → length old ≤ k → sources ≡ sources_of (take k given) → sources ≡ sources_of given
all_sources rem old k given sources known long before =
    let counted : length given ≡ length old = same_length rem old given known in
    before ∙ ap sources_of (take_all k given (rw counted long))

-- a failure is the same of all that is made of the files
pub same_failure : {X Y A : Type 0} (view : X → A) (seen : Y → A) (failure : Failure) (clear : ℕ → Type 0) (said : Result A Failure) → FilesGive view (Err failure) clear said → FilesGive seen (Err failure) clear said
same_failure view seen (Refused Memory file) clear said h = h
same_failure view seen (Refused fault file) clear said h = h
same_failure view seen (Read file) clear said h = h
same_failure view seen Write clear said h = h
same_failure view seen Start clear said h = h

-- a text that was read whole is what its reader had
pub sized_is : (n : ℕ) (text bytes : List ℕ) → sized n text ≡ Ok bytes → bytes ≡ text
sized_is n text bytes whole = go (nat_lt input_limit (length text)) whole
  where
    go : (large : Bool) → (if large then Err (Refused TooLarge (Some n)) else Ok text) ≡ Ok bytes → bytes ≡ text
    go true whole = absurd (cc)
    go false whole = cc
