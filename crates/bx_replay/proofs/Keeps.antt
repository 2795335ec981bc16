-- What a trail keeps stays good where choices are put behind, and where its tail is another one.
use Rattle.std.proofs.Common.{◌≡◌, ℕ, ◌+◌, ◌-◌, ◌^◌, ◌<◌, ◌≤◌, inl, inr, List, [], ◌∷◌, ◌++◌, length, take, drop, refl, sym, ap, subst, ◌∙◌, arith, length-append}
use Rattle.std.specs.Prelude.{Bool, true, false, if◌then◌else◌, slice_index_or, slice_set}
use Rattle.std.specs.List.{All}
use Rattle.std.proofs.lemmas.Bool.{cases_eq, cases_lt}
use Rattle.std.proofs.lemmas.List.{take_all, take-append-le, take-take, length-take, length-take-le, get_or-take, get_or_append_left, get_or-append_right, get_or_default, get_or-set_same, get_or-set_other, length-set}
use Rattle.std.proofs.lemmas.List.Elements.{All-nil, All-append, All-push, All-take}
use Rattle.std.proofs.Math.Seq.{take-append-add}
use Rattle.bx_load.specs.Image.{Loaded}
use Rattle.bx_world.specs.declared.choices.Choice.{Choice}
use Rattle.bx_world.specs.Running.{Ended, ran}
use Rattle.bx_world.proofs.Lawful.{few_applied, ran_on}
use Rattle.bx_replay.specs.Courses.{Course, reached}
use Rattle.bx_replay.specs.Keeping.{IsReached, IsNearest, AreKept, Parts, SameCounts}
use Rattle.bx_replay.specs.declared.kept.Kept.{Kept}
use Rattle.bx_replay.proofs.Prefixes.{bounded, course, onward}

-- by how many choices
abbrev pub count_of : Kept → ℕ
count_of k = k.end.applied

-- the counts rise
pub no_later : (c : Course) (kept : List Kept) (j k : ℕ) (d : Kept) → AreKept c kept → j ≤ k → k < length kept → count_of (slice_index_or kept j d) ≤ count_of (slice_index_or kept k d)
no_later c kept j k d are le h = elim (cases_lt j k) [
  | inl less ↦ omega (arith, are.rising j k d less h)
  | inr more ↦ let same : j ≡ k = omega arith in omega (arith, ap (λ i. count_of (slice_index_or kept i d)) same)
]

-- there is room for the choices behind a prefix
pub few_left : (c now : Course) (kept : List Kept) (n : ℕ) (end : Ended) → AreKept c kept → c ≡ now → end ≡ reached n now → (end.applied + length c.choices < 2 ^ 64 + n) × (length c.choices ≡ length now.choices)
few_left c now kept n end are same is =
    let long = ap (λ (c : Course). length c.choices) same in (
      omega (arith, are.few, few_applied now.image (take n now.choices) now.start, length-take n now.choices, ap (λ (e : Ended). e.applied) is, ap (λ (c : Course). c.start.applied) same, long),
      long,
    )

-- from the nearest one on
pub from_nearest : (c now : Course) (kept : List Kept) (count first : ℕ) (found : Ended) → c ≡ now → IsNearest c kept count found → first ≡ found.applied - c.start.applied
    → ran c.image (take (count - first) (drop first c.choices)) found ≡ reached count now
from_nearest c now kept count first found same there is =
    onward c.image c.start c.choices first count found c.choices (omega (arith, is, there.before, there.is.ahead)) refl (there.is.is ∙ ap (λ n. reached n c) (sym is)) ∙ ap (reached count) same

-- an end stays one where its prefix leads there still
pub stays : (old new : Course) (end : Ended) → IsReached old end → new.start.applied ≡ old.start.applied → end.applied ≤ new.start.applied + length new.choices
    → reached (end.applied - old.start.applied) new ≡ reached (end.applied - old.start.applied) old → IsReached new end
stays old new end is begins within same =
    record { ahead = omega (arith, is.ahead, begins); within = within; is = is.is ∙ sym same ∙ ap (λ n. reached (end.applied - n) new) (sym begins) }

-- where all of them lead
pub all_reached : (c : Course) (end : Ended) → end.applied ≡ c.start.applied + length c.choices → end ≡ ran c.image c.choices c.start → IsReached c end
all_reached c end count is = record { ahead = omega arith; within = omega arith; is = is ∙ ap (λ zs. ran c.image zs c.start) (sym (take_all (end.applied - c.start.applied) c.choices (omega arith))) }

-- choices more, each of which is applied
pub further_reached : (c : Course) (here next : Ended) (i n : ℕ) → i ≤ n → n ≤ length c.choices → here ≡ reached i c → next ≡ ran c.image (take (n - i) (drop i c.choices)) here → c.start.applied + n ≤ next.applied
    → (next ≡ reached n c) × (next.applied ≡ c.start.applied + n) × IsReached c next
further_reached c here next i n le within at step more =
    let there = step ∙ onward c.image c.start c.choices i n here c.choices le refl at in
    let all : next.applied ≡ c.start.applied + n = omega (arith, bounded c n within, ap (λ (e : Ended). e.applied) there) in
    let far : n ≡ next.applied - c.start.applied = omega arith in
    (there, all, record { ahead = omega arith; within = omega arith; is = there ∙ ap (λ k. reached k c) far })

-- what is kept in two parts, of which the first lies before the second
both_kept : (c : Course) (xs ys : List Kept) → AreKept c xs → AreKept c ys → All (λ x. All (λ y. count_of x < count_of y) ys) xs → AreKept c (xs ++ ys)
both_kept c xs ys one two less = record {
  few = one.few;
  ends = All-append (λ k. IsReached c k.end) xs ys one.ends two.ends;
  past = All-append (λ k. c.start.applied < count_of k) xs ys one.past two.past;
  rising = λ j k d before h. elim (cases_lt k (length xs)) [
    | inl l ↦ omega (arith, one.rising j k d before l, ap count_of (get_or_append_left xs ys d k l), ap count_of (get_or_append_left xs ys d j (omega arith)))
    | inr m ↦
        let inside : k - length xs < length ys = omega (arith, length-append xs ys) in
        let there = ap count_of (get_or-append_right xs ys (length xs) k d refl m) in
        elim (cases_lt j (length xs)) [
          | inl l ↦ omega (arith, there, less j d l (k - length xs) d inside, ap count_of (get_or_append_left xs ys d j l))
          | inr n ↦ omega (arith, there, two.rising (j - length xs) (k - length xs) d (omega arith) inside, ap count_of (get_or-append_right xs ys (length xs) j d refl n))
        ]
  ];
}

-- the same ends, of other choices
kept_of : (old new : Course) (kept : List Kept) → AreKept old kept → new.start.applied ≤ old.start.applied → new.start.applied + length new.choices < 2 ^ 64 → All (λ k. IsReached new k.end) kept → AreKept new kept
kept_of old new kept are before few ends = record { few = few; ends = ends; past = λ k d h. omega (arith, are.past k d h, before); rising = are.rising }

-- choices more
pub longer : (image : Loaded) (start : Ended) (choices more : List Choice) (kept : List Kept) → AreKept (course image start choices) kept → start.applied + length (choices ++ more) < 2 ^ 64
    → AreKept (course image start (choices ++ more)) kept
longer image start choices more kept are few =
    kept_of (course image start choices) (course image start (choices ++ more)) kept are (omega arith) few
    (λ k d h. let e = are.ends k d h in let n = (slice_index_or kept k d).end.applied in
    stays (course image start choices) (course image start (choices ++ more)) _ e refl (omega (arith, e.within, length-append choices more))
    (ap (λ zs. ran image zs start) (take-append-le (n - start.applied) choices more (omega (arith, e.within)))))

-- the last of the first so many, or the start: all of them lie within
pub last_is : (c : Course) (kept : List Kept) (start found : Kept) (near : ℕ) → AreKept c kept → c.start ≡ start.end → near ≤ length kept → (near ≡ 0 → found ≡ start) → (0 < near → found ≡ slice_index_or kept (near - 1) found)
    → IsReached c found.end × ((k : ℕ) (d : Kept) → k < near → count_of (slice_index_or kept k d) ≤ count_of found)
last_is c kept start found near are begins bound none some = (
  elim (cases_lt 0 near) [
    | inl more ↦ subst (λ (k : Kept). IsReached c k.end) (sym (some more)) (are.ends (near - 1) found (omega arith))
    | inr nothing ↦
        let zero : 0 ≡ c.start.applied - c.start.applied = omega arith in
        subst (IsReached c) (begins ∙ ap (λ (k : Kept). k.end) (sym (none (omega arith)))) (record { ahead = omega arith; within = omega arith; is = ap (λ n. reached n c) zero })
  ],
  λ k d h.
      omega (arith, no_later c kept k (near - 1) d are (omega arith) (omega arith), ap count_of (get_or_default kept (near - 1) d found (omega arith)), ap count_of (some (omega arith))),
)

pub pushed : (c : Course) (kept : List Kept) (start found new : Kept) → AreKept c kept → c.start ≡ start.end → (length kept ≡ 0 → found ≡ start)
    → (0 < length kept → found ≡ slice_index_or kept (length kept - 1) found) → count_of found < count_of new → IsReached c new.end → AreKept c (kept ++ new ∷ [])
pushed c kept start found new are begins none some due is =
    let last = last_is c kept start found (length kept) are begins (omega arith) none some in
    let past = last.0.ahead in
    both_kept c kept (new ∷ []) are
    (record {
      few = are.few;
      ends = All-push (λ k. IsReached c k.end) [] new (All-nil (λ k. IsReached c k.end)) is;
      past = All-push (λ k. c.start.applied < count_of k) [] new (All-nil (λ k. c.start.applied < count_of k)) (omega arith);
      rising = λ j k d less h. absurd (omega arith);
    })
    (λ j d h. All-push (λ y. count_of (slice_index_or kept j d) < count_of y) [] new (All-nil (λ y. count_of (slice_index_or kept j d) < count_of y)) (omega (arith, due, last.1 j d h)))

-- the nearest end that is kept, and that none lies between
pub nearest_kept : (c : Course) (kept : List Kept) (start found : Kept) (count near : ℕ) → AreKept c kept → c.start ≡ start.end → Parts kept (c.start.applied + count) near → (near ≡ 0 → found ≡ start)
    → (0 < near → found ≡ slice_index_or kept (near - 1) found) → IsNearest c kept count found.end
nearest_kept c kept start found count near are begins parts none some =
    let last = last_is c kept start found near are begins parts.bound none some in
    record {
      is = last.0;
      before = elim (cases_lt 0 near) [
        | inl more ↦ omega (arith, parts.last found more, ap count_of (some more))
        | inr nothing ↦ omega (arith, ap count_of (none (omega arith)), ap (λ (e : Ended). e.applied) begins)
      ];
      last = λ k d h low. elim (cases_lt k near) [
        | inl lower ↦ last.1 k d lower
        | inr higher ↦ absurd (omega (arith, parts.next d (omega arith), no_later c kept near k d are higher h))
      ];
    }

-- another tail
module _ (image : Loaded) (start there : Ended) (choices more : List Choice) (count : ℕ) (within : count ≤ length choices) (is : there ≡ ran image (take count choices) start) (all : there.applied ≡ start.applied + count) where
  abbrev old : Course
  old = course image start choices

  abbrev now : Course
  now = course image start (take count choices ++ more)

  cut : length (take count choices) ≡ count
  cut = length-take-le count choices within

  long : length (take count choices ++ more) ≡ count + length more
  long = length-append (take count choices) more ∙ ap (λ n. n + length more) cut

  before_reached : (end : Ended) → IsReached old end → end.applied ≤ start.applied + count → IsReached now end
  before_reached end e low =
      let n = end.applied - start.applied in
      stays old now end e refl (omega (arith, long)) (ap (λ zs. ran image zs start) (take-append-le n (take count choices) more (omega (arith, cut)) ∙ take-take n count choices (omega arith)))

  behind_reached : (end : Ended) → IsReached (course image there more) end → IsReached now end
  behind_reached end e =
      let n = end.applied - there.applied in
      let far : end.applied - start.applied ≡ length (take count choices) + n = omega (arith, e.ahead, all, cut) in
      record {
        ahead = omega (arith, e.ahead, all);
        within = omega (arith, e.within, all, long);
        is = cc (e.is, far, take-append-add (take count choices) more n, ran_on image (take count choices) (take n more) start);
      }

  -- with what is kept of the tail, or without
  pub joined : (kept tail now_kept : List Kept) (near : ℕ) (whole : Bool) → AreKept old kept → Parts kept (start.applied + count) near → AreKept (course image there more) tail
      → now_kept ≡ (if whole then take near kept ++ tail else take near kept) → AreKept now now_kept
  joined kept tail now_kept near whole are parts behind e = subst (AreKept now) (sym e) (by whole)
    where
      few : start.applied + length (take count choices ++ more) < 2 ^ 64
      few = omega (arith, behind.few, all, long)

      short : length (take near kept) ≡ near
      short = length-take-le near kept parts.bound

      low : (k : ℕ) (d : Kept) → k < near → count_of (slice_index_or kept k d) ≤ start.applied + count
      low k d h = omega (arith, no_later old kept k (near - 1) d are (omega arith) (omega (arith, parts.bound)), parts.last d (omega arith))

      front : AreKept now (take near kept)
      front = record {
        few = few;
        ends = λ k d h. let l : k < near = omega (arith, short) in
            subst (λ (e : Kept). IsReached now e.end) (sym (get_or-take near kept k d l)) (before_reached _ (are.ends k d (omega (arith, parts.bound))) (low k d l));
        past = All-take (λ k. start.applied < count_of k) near kept are.past;
        rising = λ j k d less h. let l : k < near = omega (arith, short) in
            omega (arith, are.rising j k d less (omega (arith, parts.bound)), ap count_of (get_or-take near kept k d l), ap count_of (get_or-take near kept j d (omega arith)));
      }

      by : (whole : Bool) → AreKept now (if whole then take near kept ++ tail else take near kept)
      by true = both_kept now (take near kept) tail front (kept_of (course image there more) now tail behind (omega (arith, all)) few (λ k d h. behind_reached _ (behind.ends k d h)))
          (λ j d h k e g. let l : j < near = omega (arith, short) in omega (arith, all, behind.past k e g, low j d l, ap count_of (get_or-take near kept j d l)))
      by false = front

-- an end in the place of one that as many choices led to
pub counts_set : (kept : List Kept) (at : ℕ) (put : Kept) → at < length kept → ((d : Kept) → count_of (slice_index_or kept at d) ≡ count_of put) → SameCounts kept (slice_set kept at put)
counts_set kept at put within was = record {
  long = length-set kept at put;
  same = λ k d h. elim (cases_eq k at) [
    | inl here ↦ cc (here, get_or-set_same kept at put d within, was d)
    | inr ne ↦ ap count_of (get_or-set_other kept at k put d ne)
  ];
}
