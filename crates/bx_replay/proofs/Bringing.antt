-- A choice that is brought forward by one exchange after another.
use Rattle.std.proofs.Common.{◌≡◌, ◌∙◌, ℕ, zero, suc, ◌+◌, ◌-◌, ◌<◌, ◌≤◌, List, [], ◌∷◌, ◌++◌, length, take, drop, append_assoc, inl, inr, refl, sym, ap, subst, arith, add-one}
use Rattle.std.specs.Prelude.{Bool, slice_get, slice_index_or}
use Rattle.std.proofs.lemmas.Option.{slice_get-get_or}
use Rattle.std.proofs.lemmas.List.{drop_more, take_more, length-drop, length-take, length-take-le, length-append, take-append-drop, take_at, drop_at, get_or-take, get_or_append_left, get_or_at}
use Rattle.std.proofs.lemmas.List.Edits.{length-swap}
use Rattle.std.proofs.lemmas.Bool.{cases_lt}
use Rattle.std.proofs.Math.Seq.{drop-append-add}
use Rattle.bx_world.specs.declared.choices.Choice.{Choice}
use Rattle.bx_replay.specs.Courses.{Course, reached}
use Rattle.bx_replay.specs.Exchanges.{exchanged_at, with_exchange, MayExchange}
use Rattle.bx_replay.specs.Moving.{brought, exchanged, AllMay, AreWithin, IsExchanged}
use Rattle.bx_replay.specs.Reaching.{BringsPast}
use Rattle.bx_replay.proofs.Rows.{swapped}
use Rattle.bx_replay.proofs.Turning.{around, leads, new as turned, old as straight, short as front_long}

-- from one position down to another
pub down : (P : ℕ → Type 0) (high : ℕ) → P high → ((i : ℕ) → i < high → P (i + 1) → P i) → (i : ℕ) → i ≤ high → P i
down P high top step i le = by (high - i) i (omega arith)
  where
    by : (n i : ℕ) → i + n ≡ high → P i
    by zero i e = let same : high ≡ i = omega (arith, e) in subst P same top
    by (suc n) i e = step i (omega (arith, e)) (by n (i + 1) (omega (arith, e)))

-- ---- lists

-- what stands between, and the choice itself
module _ (xs : List Choice) (from : ℕ) (d : Choice) (within : from < length xs) where
  -- the one that is brought
  abbrev moved : Choice
  moved = slice_index_or xs from d

  -- those behind it when it stands at i
  abbrev pub behind : ℕ → List Choice
  behind i = take (from - i) (drop i xs) ++ drop (from + 1) xs

  pub brought_is : (i : ℕ) → brought from i xs ≡ take i xs ++ moved ∷ behind i
  brought_is i = ap (λ ys. take i xs ++ (take 1 ys ++ behind i)) (drop_more xs from d within)

  -- nothing is moved
  pub brought_here : brought from from xs ≡ xs
  brought_here = let none : from - from ≡ 0 = omega arith in cc (brought_is from, drop_more xs from d within, take-append-drop from xs)

  module _ (i : ℕ) (less : i < from) where
    -- the one before it
    abbrev other : Choice
    other = slice_index_or xs i d

    next_to : brought from (i + 1) xs ≡ take i xs ++ other ∷ moved ∷ behind (i + 1)
    next_to = cc (brought_is (i + 1), take_more xs i d (omega arith), append_assoc (take i xs) (other ∷ []) (moved ∷ behind (i + 1)))

    behind_is : behind i ≡ other ∷ behind (i + 1)
    behind_is = let count : from - i ≡ suc (from - (i + 1)) = omega arith in cc (drop_more xs i d (omega arith))

    short : length (take i xs) ≡ i
    short = length-take-le i xs (omega arith)

    pub rest_is : drop i (brought from (i + 1) xs) ≡ other ∷ moved ∷ behind (i + 1)
    rest_is = ap (drop i) next_to ∙ drop_at (take i xs) _ i short

    pub front_is : take i (brought from (i + 1) xs) ≡ take i xs
    front_is = ap (take i) next_to ∙ take_at (take i xs) _ i short

    -- one exchange more
    pub brought_on : exchanged_at i (brought from (i + 1) xs) ≡ brought from i xs
    brought_on = cc (swapped i (i + 1) (brought from (i + 1) xs) other moved (behind (i + 1)) (add-one i) rest_is, front_is, behind_is, brought_is i)

pub long_brought : (xs : List Choice) (from at : ℕ) (d : Choice) → from < length xs → at ≤ from → length (brought from at xs) ≡ length xs
long_brought xs from at d within le = ap length (brought_is xs from d within at) ∙ simp (length-append, length-drop, length-take) (omega arith)

-- what stands before it stays
pub brought_before : (xs : List Choice) (from to : ℕ) (d : Choice) (k : ℕ) → from < length xs → to ≤ from → k < to → slice_get (brought from to xs) k ≡ slice_get xs k
brought_before xs from to d k within le less =
    cc (
      slice_get-get_or (brought from to xs) k d (omega (arith, long_brought xs from to d within le)),
      slice_get-get_or xs k d (omega arith),
      brought_is xs from d within to,
      get_or_append_left (take to xs) (slice_index_or xs from d ∷ behind xs from d within to) d k (omega (arith, length-take-le to xs (omega arith))),
      get_or-take to xs k d less,
    )

-- and the one in whose place it stands is right behind it
pub brought_next : (xs : List Choice) (from to : ℕ) (d : Choice) → from < length xs → to < from → slice_get (brought from to xs) (to + 1) ≡ slice_get xs to
brought_next xs from to d within less =
    let front = take to xs ++ slice_index_or xs from d ∷ [] in
    cc (
      slice_get-get_or (brought from to xs) (to + 1) d (omega (arith, long_brought xs from to d within (omega arith))),
      slice_get-get_or xs to d (omega arith),
      brought_is xs from d within to,
      behind_is xs from d within to less,
      append_assoc (take to xs) (slice_index_or xs from d ∷ []) (behind xs from d within to),
      get_or_at front (slice_index_or xs to d) (behind xs from d within (to + 1)) d (to + 1) (omega (arith, length-append (take to xs) (slice_index_or xs from d ∷ []), length-take-le to xs (omega arith))),
    )

-- a choice that was brought forward is brought on
pub brought_twice : (xs : List Choice) (from at : ℕ) (d : Choice) → from < length xs → at ≤ from → (to : ℕ) → to ≤ at → brought at to (brought from at xs) ≡ brought from to xs
brought_twice xs from at d within le =
    let inside : at < length (brought from at xs) = omega (arith, long_brought xs from at d within le) in
    down (λ to. brought at to (brought from at xs) ≡ brought from to xs) at (brought_here (brought from at xs) at d inside)
    (λ to less up. cc (up, brought_on (brought from at xs) at d inside to less, brought_on xs from d within to (omega arith)))

-- ---- exchanges

pub none_made : (count : ℕ) (c : Course) → IsExchanged count c c
none_made count c = record { positions = []; within = tt; may = tt; is = refl }

pub one_made : (count i : ℕ) (c : Course) → i + 1 < count → MayExchange i c → IsExchanged count c (with_exchange i c)
one_made count i c h may = record { positions = i ∷ []; within = (h, tt); may = (may, tt); is = refl }

-- among more choices
pub among_more : (low high : ℕ) (old new : Course) → low ≤ high → IsExchanged low old new → IsExchanged high old new
among_more low high old new le e = record { positions = e.positions; within = wider e.positions e.within; may = e.may; is = e.is }
  where
    wider : (is : List ℕ) → AreWithin low is → AreWithin high is
    wider [] h = tt
    wider (i ∷ is) h = (omega (arith, h.0, le), wider is h.1)

-- one after another
abbrev after : List ℕ → Course → Course
after is c = record c { choices = exchanged is c.choices }

pub further : (count : ℕ) (old mid new : Course) → IsExchanged count old mid → IsExchanged count mid new → IsExchanged count old new
further count old mid new one two = by one.positions old one.within one.may (subst (λ (m : Course). IsExchanged count m new) one.is two)
  where
    by : (is : List ℕ) (c : Course) → AreWithin count is → AllMay is c → IsExchanged count (after is c) new → IsExchanged count c new
    by [] c w m e = e
    by (i ∷ is) c w m e = let rest = by is (with_exchange i c) w.1 m.1 e in record { positions = i ∷ rest.positions; within = (w.0, rest.within); may = (m.0, rest.may); is = rest.is }

-- a choice that stands at `at`, brought there by exchanges
pub record Came (from to : ℕ) (old new : Course) (at : ℕ) : Type 0 where
  pub reach : to ≤ at
  pub start : at ≤ from
  pub choices : new.choices ≡ brought from at old.choices
  pub exchanges : IsExchanged (from + 1) old new
  pub steps : (i : ℕ) → at ≤ i → i < from → MayExchange i (record old { choices = brought from (i + 1) old.choices })

pub came_first : (from to : ℕ) (d : Choice) (c : Course) → to ≤ from → from < length c.choices → Came from to c c from
came_first from to d c le within = record { reach = le; start = omega arith; choices = sym (brought_here c.choices from d within); exchanges = none_made (from + 1) c; steps = λ i low high. absurd (omega arith) }

-- it is brought on
pub came_on : (from to at rest : ℕ) (d : Choice) (old mid new : Course) (more : Bool) → from < length old.choices → Came from to old mid at → BringsPast at to mid new rest more → Came from to old new rest
came_on from to at rest d old mid new more within came one = record {
  reach = one.reach;
  start = omega (arith, one.start, came.start);
  choices = one.choices ∙ ap (brought at rest) came.choices ∙ brought_twice old.choices from at d within came.start rest one.start;
  exchanges = further (from + 1) old mid new came.exchanges (among_more (at + 1) (from + 1) mid new (omega (arith, came.start)) one.exchanges);
  steps = λ i low high. elim (cases_lt i at) [
    | inl less ↦
        let on = ap (brought at (i + 1)) came.choices ∙ brought_twice old.choices from at d within came.start (i + 1) (omega arith) in
        let same = ap (λ (c : Course). record c { choices = brought at (i + 1) mid.choices }) came.exchanges.is in
        subst (MayExchange i) (same ∙ ap (λ (cs : List Choice). record old { choices = cs }) on) (one.steps i low less)
    | inr past ↦ came.steps i past high
  ];
}

-- ---- what exchanges leave as it was

-- how many there are
pub long_after : (count : ℕ) (old new : Course) → IsExchanged count old new → length new.choices ≡ length old.choices
long_after count old new e = ap (λ (c : Course). length c.choices) e.is ∙ go e.positions old.choices
  where
    go : (is : List ℕ) (cs : List Choice) → length (exchanged is cs) ≡ length cs
    go [] cs = refl
    go (i ∷ is) cs = go is (exchanged_at i cs) ∙ length-swap cs i (i + 1)

-- where prefixes lead that hold all that were exchanged
pub ends_after : (count n : ℕ) (old new : Course) → IsExchanged count old new → count ≤ n → reached n new ≡ reached n old
ends_after count n old new e le = ap (reached n) e.is ∙ go e.positions old e.within e.may
  where
    go : (is : List ℕ) (c : Course) → AreWithin count is → AllMay is c → reached n (after is c) ≡ reached n c
    go [] c w m = refl
    go (i ∷ is) c w m = go is (with_exchange i c) w.1 m.1 ∙ leads i c (around i c m.0) n (omega (arith, w.0))

-- the choices behind them
pub behind_after : (count : ℕ) (old new : Course) → IsExchanged count old new → drop count new.choices ≡ drop count old.choices
behind_after count old new e = ap (λ (c : Course). drop count c.choices) e.is ∙ go e.positions old e.within e.may
  where
    one : (i : ℕ) (c : Course) → MayExchange i c → i + 1 < count → drop count (exchanged_at i c.choices) ≡ drop count c.choices
    one i c may le =
        let a = around i c may in
        let front = take i c.choices in
        let past = suc (suc (count - i - 2)) in
        let far : count ≡ length front + suc (suc (count - i - 2)) = omega (arith, le, front_long i c a) in
        cc (turned i c a, straight i c a, drop-append-add front (a.first ∷ a.second ∷ a.more) past, drop-append-add front (a.second ∷ a.first ∷ a.more) past)

    go : (is : List ℕ) (c : Course) → AreWithin count is → AllMay is c → drop count (exchanged is c.choices) ≡ drop count c.choices
    go [] c w m = refl
    go (i ∷ is) c w m = go is (with_exchange i c) w.1 m.1 ∙ one i c m.0 w.0
