-- Rows that are seen through a view.
use Rattle.bx_world.proofs.Words.{◌≡◌, ◌≢◌, ℕ, ◌+◌, ◌<◌, ◌≤◌, List, [], ◌∷◌, ◌++◌, length, get_or, take, drop, map, sym, ap, ◌∙◌, arith, set, map-set_same}
use Rattle.std.proofs.lemmas.List.{take_more, take_all, drop_more, get_or-map, length-map, map-append}

-- what is seen of the next element comes next
pub rest_seen : {A B : Type 0} (f : A → B) (xs : List A) (i : ℕ) (x : A) → i < length xs → x ≡ get_or xs i x → drop i (map f xs) ≡ f x ∷ drop (i + 1) (map f xs)
rest_seen f xs i x here is = let long : i < length (map f xs) = omega (arith, length-map xs f) in drop_more (map f xs) i (f x) long ∙ ap (λ y. y ∷ drop (i + 1) (map f xs)) (get_or-map f xs i x (f x) here ∙ ap f (sym is))

-- one more element is seen last
pub more_seen : {A B : Type 0} (f : A → B) (xs : List A) (i : ℕ) (x : A) → i < length xs → x ≡ get_or xs i x → take (i + 1) (map f xs) ≡ take i (map f xs) ++ f x ∷ []
more_seen f xs i x here is = let long : i < length (map f xs) = omega (arith, length-map xs f) in take_more (map f xs) i (f x) long ∙ ap (λ y. take i (map f xs) ++ y ∷ []) (get_or-map f xs i x (f x) here ∙ ap f (sym is))

pub all_seen : {A B : Type 0} (f : A → B) (xs : List A) (i : ℕ) → length xs ≤ i → take i (map f xs) ≡ map f xs
all_seen f xs i past = take_all i (map f xs) (omega (arith, length-map xs f))

-- elements at one place of rows that are seen the same are seen the same
pub seen_same : {A B : Type 0} (f : A → B) (xs ys : List A) (i : ℕ) (x y : A) → i < length xs → i < length ys → x ≡ get_or xs i x → y ≡ get_or ys i y → map f xs ≡ map f ys → f x ≡ f y
seen_same f xs ys i x y hx hy ex ey e =
    ap f ex ∙ sym (get_or-map f xs i x (f x) hx) ∙ ap (λ zs. get_or zs i (f x)) e ∙ get_or-map f ys i y (f x) hy ∙ ap f (sym ey)

-- what comes behind a row that goes on is not nothing
pub goes_on : {A : Type 0} (xs : List A) (y : A) (ys zs : List A) → xs ++ y ∷ ys ≡ zs → zs ≢ []
goes_on [] y ys zs e nothing = cc
goes_on (x ∷ xs) y ys zs e nothing = cc

-- an element that is seen as the one in its place
pub seen_again : {A B : Type 0} (f : A → B) (xs : List A) (i : ℕ) (x y : A) → x ≡ get_or xs i x → f y ≡ f x → map f (set xs i y) ≡ map f xs
seen_again f xs i x y is same = map-set_same f xs i y x (same ∙ ap f is)

-- a row that was seen so far, one element further
pub seen_further : {A B C : Type 0} (f : A → C) (h : B → C) (done new : List B) (xs : List A) (i : ℕ) (x : A) (y : B) → i < length xs → x ≡ get_or xs i x
    → map h done ≡ take i (map f xs) → new ≡ done ++ y ∷ [] → h y ≡ f x → map h new ≡ take (i + 1) (map f xs)
seen_further f h done new xs i x y here is so_far one same =
    ap (map h) one ∙ map-append h done (y ∷ []) ∙ ap (λ zs. zs ++ h y ∷ []) so_far ∙ ap (λ z. take i (map f xs) ++ z ∷ []) same ∙ sym (more_seen f xs i x here is)

-- the same of what comes of what is seen
pub made_further : {A B C : Type 0} (f : A → B) (h : B → C) (done new : List C) (xs : List A) (i : ℕ) (x : A) (y : C) → i < length xs → x ≡ get_or xs i x
    → done ≡ map h (take i (map f xs)) → new ≡ done ++ y ∷ [] → y ≡ h (f x) → new ≡ map h (take (i + 1) (map f xs))
made_further f h done new xs i x y here is so_far one same =
    one ∙ ap (λ zs. zs ++ y ∷ []) so_far ∙ ap (λ z. map h (take i (map f xs)) ++ z ∷ []) same
    ∙ sym (ap (map h) (more_seen f xs i x here is) ∙ map-append h (take i (map f xs)) (f x ∷ []))

-- rows that are seen the same so far, one element further
pub same_further : {A B : Type 0} (f : A → B) (xs ys : List A) (i : ℕ) (x y : A) → i < length xs → i < length ys → x ≡ get_or xs i x → y ≡ get_or ys i y
    → take i (map f xs) ≡ take i (map f ys) → f x ≡ f y → take (i + 1) (map f xs) ≡ take (i + 1) (map f ys)
same_further f xs ys i x y hx hy ex ey so_far same =
    more_seen f xs i x hx ex ∙ ap (λ zs. zs ++ f x ∷ []) so_far ∙ ap (λ z. take i (map f ys) ++ z ∷ []) same ∙ sym (more_seen f ys i y hy ey)
