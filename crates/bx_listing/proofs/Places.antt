-- Places in files: what is kept of those that were there when one is added, and what is found.
use Rattle.bx_listing.proofs.Known.{◌≡◌, ℕ, zero, suc, ◌+◌, ◌<◌, true, List, [], ◌∷◌, ◌++◌, length, get_or, map, Option, Some, String, string_bytes, refl, ap}
use Rattle.bx_listing.proofs.Known.{◌∙◌, add-one, arith, option_map, slice_get, All, string_eq, map-append, length-append, All-push, slice_get-map}
use Rattle.bx_listing.proofs.Known.{slice_get-get_or, slice_get_within, get_or_from_slice_get, bytes_eq-Decides, get_or-append, Begins, Location, Located}
use Rattle.bx_listing.specs.{declared.locations.Mark.Mark, Marks.marked, Marks.AreMarks, Marks.place, Marks.IsPlace}

-- marks name the same places once more names follow
pub marked_more : (names more : List (List ℕ)) (marks : List Mark) → AreMarks names marks → map (marked (names ++ more)) marks ≡ map (marked names) marks
marked_more names more [] are = refl
marked_more names more (m ∷ marks) are =
    let here : marked (names ++ more) m ≡ marked names m = ap (λ n. (n, m.line)) (get_or-append names more [] m.file (are 0 m (omega arith))) in
    let rest : map (marked (names ++ more)) marks ≡ map (marked names) marks = marked_more names more marks (λ k d h. are (suc k) d (omega arith)) in
    rw (here, rest)

-- all of them, once names follow
pub marks_kept : (names after : List (List ℕ)) (marks : List Mark) → AreMarks names marks → Begins names after → map (marked after) marks ≡ map (marked names) marks
marks_kept names after marks are more = ap (λ ns. map (marked ns) marks) more.1 ∙ marked_more names more.0 marks are

pub marks_stay : (names after : List (List ℕ)) (marks : List Mark) → AreMarks names marks → Begins names after → AreMarks after marks
marks_stay names after marks are more k d h =
    let fits = are k d h in
    omega (arith, fits, ap length more.1, length-append names more.0)

last_there : {A : Type 0} (xs : List A) (x : A) → slice_get (xs ++ x ∷ []) (length xs) ≡ Some x
last_there [] x = refl
last_there (y ∷ xs) x = last_there xs x

-- a name more has the number of those before it
pub named_last : {Z : Type 0} (files after : List (String Z)) (file : String Z) (n : ℕ) → n ≡ length files → after ≡ files ++ file ∷ []
    → slice_get (map string_bytes after) n ≡ Some (string_bytes file)
named_last files after file n counted put =
    rw (put, counted) (slice_get-map string_bytes (files ++ file ∷ []) (length files) ∙ ap (option_map string_bytes) (last_there files file))

pub names_more : {Z : Type 0} (files : List (String Z)) (file : String Z) → Begins (map string_bytes files) (map string_bytes (files ++ file ∷ []))
names_more files file = (string_bytes file ∷ [], map-append string_bytes files (file ∷ []))

-- a file that is there under the name
pub named_there : {Z : Type 0} (files : List (String Z)) (file : String Z) (i : ℕ) (d : String Z) → i < length files → string_eq (get_or files i d) file ≡ true
    → slice_get (map string_bytes files) i ≡ Some (string_bytes file)
named_there files file i d within same =
    slice_get-map string_bytes files i ∙ ap (option_map string_bytes) (slice_get-get_or files i d within)
    ∙ ap Some ((bytes_eq-Decides (string_bytes (get_or files i d)) (string_bytes file)).0 same)

-- a place more
pub place_added : (names after : List (List ℕ)) (name : List ℕ) (marks longer : List Mark) (i line : ℕ) → AreMarks names marks → Begins names after
    → slice_get after i ≡ Some name → longer ≡ marks ++ record { file = i; line = line } ∷ []
    → map (marked after) longer ≡ map (marked names) marks ++ (name, line) ∷ []
place_added names after name marks longer i line are more at put =
    let m : Mark = record { file = i; line = line } in
    let last : marked after m ≡ (name, line) = ap (λ n. (n, line)) (get_or_from_slice_get after i name [] at) in
    rw (put, map-append (marked after) marks (m ∷ []), marks_kept names after marks are more, last)

pub marks_more : (names after : List (List ℕ)) (name : List ℕ) (marks longer : List Mark) (i line : ℕ) → AreMarks names marks → Begins names after
    → slice_get after i ≡ Some name → longer ≡ marks ++ record { file = i; line = line } ∷ [] → AreMarks after longer
marks_more names after name marks longer i line are more at put =
    let m : Mark = record { file = i; line = line } in
    rw put (All-push (λ (m : Mark). m.file < length after) marks m (marks_stay names after marks are more) (slice_get_within after i name at))

pub place_found : {Z : Type 0} (keys : List (String Z)) (marks : List Mark) (at : ℕ) (m : Mark) (s : String Z) → slice_get marks at ≡ Some m → slice_get keys m.file ≡ Some s
    → place (map (marked (map string_bytes keys)) marks) (suc at) ≡ Some (string_bytes s, m.line)
place_found keys marks at m s h g =
    let name : get_or (map string_bytes keys) m.file [] ≡ string_bytes s = get_or_from_slice_get (map string_bytes keys) m.file (string_bytes s) [] (slice_get-map string_bytes keys m.file ∙ ap (option_map string_bytes) g) in
    slice_get-map (marked (map string_bytes keys)) marks at ∙ (ap (option_map (marked (map string_bytes keys))) h ∙ ap (λ n. Some (n, m.line)) name)

-- items stand where they did once more places follow
slice_get_more : {A : Type 0} (xs ys : List A) (k : ℕ) → k < length xs → slice_get (xs ++ ys) k ≡ slice_get xs k
slice_get_more [] ys k h = absurd (omega (arith, h))
slice_get_more (x ∷ xs) ys zero h = refl
slice_get_more (x ∷ xs) ys (suc k) h = slice_get_more xs ys k (omega (arith, h))

pub place_more : (places more : List Location) (k : ℕ) → IsPlace places k → place (places ++ more) k ≡ place places k
place_more places more zero h = refl
place_more places more (suc k) h = slice_get_more places more k (omega (arith, h))

pub places_more : (places more : List Location) (items : List ℕ) → All (IsPlace places) items → map (place (places ++ more)) items ≡ map (place places) items
places_more places more [] are = refl
places_more places more (k ∷ items) are =
    let here : place (places ++ more) k ≡ place places k = place_more places more k (are 0 k (omega arith)) in
    let rest : map (place (places ++ more)) items ≡ map (place places) items = places_more places more items (λ j d h. are (suc j) d (omega arith)) in
    rw (here, rest)

-- the last place
pub place_last : (places : List Location) (l : Location) → place (places ++ l ∷ []) (length places + 1) ≡ Some l
place_last places l = rw (add-one (length places)) (last_there places l)

-- the same items, and those that follow stand there
abbrev pub stands : Located → Option Location → Located
stands l here = record l { here = here }

pub moved_to : (places new : List Location) (items : List ℕ) (count : ℕ) (l : Location) → All (IsPlace places) items → new ≡ places ++ l ∷ [] → count ≡ length new
    → ◌≡◌ {A = Located} (record { items = map (place new) items; here = place new count }) (record { items = map (place places) items; here = Some l })
moved_to places new items count l are grown counted =
    let last : place (places ++ l ∷ []) count ≡ Some l = ap (place (places ++ l ∷ [])) (counted ∙ ap length grown ∙ length-append places (l ∷ [])) ∙ place_last places l in
    rw (grown, places_more places (l ∷ []) items are, last) refl
