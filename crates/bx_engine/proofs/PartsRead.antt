-- What is read of two parts of a plan's text, of which the first is whole lines, is what is read of both.
use Rattle.std.proofs.Common.{◌≡◌, ◌∙◌, inl, inr, ℕ, suc, ◌+◌, ◌≤◌, ◌<◌, Bool, true, false, cond, List, [], ◌∷◌, ◌++◌, length, Option, Some, None, Result, Ok, Err, append-nil, append_assoc, refl, sym, ap, subst, arith}
use Rattle.std.specs.Prelude.{nat_eq, nat_lt, ◌||◌}
use Rattle.std.specs.List.{list_any, onto_first}
use Rattle.std.specs.Str.{bytes_eq}
use Rattle.std.proofs.lemmas.Bool.{or_parts}
use Rattle.std.proofs.lemmas.Bool.Decides.{nat_tests}
use Rattle.std.proofs.lemmas.List.{map-append}
use Rattle.std.proofs.lemmas.List.Folds.{list_any-append}
use Rattle.std.proofs.lemmas.List.Splits.{length-slice_split}
use Rattle.bx_terms.specs.Outcomes.{◌>>=◌}
use Rattle.bx_terms.specs.declared.faults.Fault.{Fault, TheVariants.NameTwice, TheVariants.TooLong}
use Rattle.bx_world.specs.declared.choices.Choice.{Choice}
use Rattle.bx_plan.specs.Entry.{Entry}
use Rattle.bx_plan.specs.Nodes.{IsPrefix, node_count, nodes_of}
use Rattle.bx_plan.specs.Plans.{Named, choices_of, has_name, is_too_long, named, plan_of, with_lines, with_read}
use Rattle.bx_plan.specs.Reading.{line_of, parts_of}
use Rattle.bx_plan.proofs.Counting.{fewer_nodes}
use Rattle.bx_engine.specs.Joints.{AreApart, AreWhole, prefix_count}

-- ---- the lines of a text that is cut behind a line feed

onto_front : (b : ℕ) (parts more : List (List ℕ)) → 0 < length parts → onto_first b (parts ++ more) ≡ onto_first b parts ++ more
onto_front b [] more some = absurd (omega (arith, some))
onto_front b (part ∷ parts) more some = refl

pub lines_cut : (front rest : List ℕ) → parts_of 10 (front ++ 10 ∷ rest) ≡ parts_of 10 front ++ parts_of 10 rest
lines_cut [] rest = refl
lines_cut (b ∷ bs) rest = one (nat_eq b 10) (lines_cut bs rest) where
  one : (feed : Bool) → parts_of 10 (bs ++ 10 ∷ rest) ≡ parts_of 10 bs ++ parts_of 10 rest
      → cond feed ([] ∷ parts_of 10 (bs ++ 10 ∷ rest)) (onto_first b (parts_of 10 (bs ++ 10 ∷ rest))) ≡ cond feed ([] ∷ parts_of 10 bs) (onto_first b (parts_of 10 bs)) ++ parts_of 10 rest
  one true e = ap (λ parts. [] ∷ parts) e
  one false e = ap (onto_first b) e ∙ onto_front b (parts_of 10 bs) (parts_of 10 rest) (omega (arith, length-slice_split (λ c. nat_eq c 10) bs))

-- ---- lines behind others

abbrev pub Answer : Type 0
Answer = Result (List Named) Fault

-- a good answer of two steps is one of each
abbrev pub Steps : Answer → (List Named → Answer) → List Named → Type 0
Steps first next after = (middle : List Named) × (first ≡ Ok middle) × (next middle ≡ Ok after)

pub steps : (first : Answer) (next : List Named → Answer) (after : List Named) → (first >>= next) ≡ Ok after → Steps first next after
steps (Ok middle) next after e = (middle, refl, e)
steps (Err fault) next after e = cc

pub ok_is : (x y : List Named) → ◌≡◌ {A = Answer} (Ok x) (Ok y) → x ≡ y
ok_is x y e = cc

pub lines_after : (n : ℕ) (before : List Named) (lines more : List (List ℕ)) → with_lines n before (lines ++ more) ≡ (with_lines n before lines >>= λ middle. with_lines (n + length lines) middle more)
lines_after n before [] more = let e : n ≡ n + 0 = omega arith in ap (λ m. with_lines m before more) e
lines_after n before (line ∷ lines) more = one (with_read n before (line_of line)) (λ next. lines_after (n + 1) next lines more) where
  one : (read : Answer) → ((next : List Named) → with_lines (n + 1) next (lines ++ more) ≡ (with_lines (n + 1) next lines >>= λ middle. with_lines (n + 1 + length lines) middle more))
      → (read >>= λ next. with_lines (n + 1) next (lines ++ more)) ≡ ((read >>= λ next. with_lines (n + 1) next lines) >>= λ middle. with_lines (n + suc (length lines)) middle more)
  one (Err fault) on = refl
  one (Ok next) on = let e : n + 1 + length lines ≡ n + suc (length lines) = omega arith in on next ∙ ap (λ m. with_lines (n + 1) next lines >>= λ middle. with_lines m middle more) e

-- behind the last line feed stands no line
pub whole_lines : (front : List ℕ) → plan_of (front ++ 10 ∷ []) ≡ with_lines 1 [] (parts_of 10 front)
whole_lines front = ap (with_lines 1 []) (lines_cut front []) ∙ lines_after 1 [] (parts_of 10 front) ([] ∷ []) ∙ one (with_lines 1 [] (parts_of 10 front)) where
  one : (read : Answer) → (read >>= λ middle. with_lines (1 + length (parts_of 10 front)) middle ([] ∷ [])) ≡ read
  one (Ok plan) = refl
  one (Err fault) = refl

-- ---- lines that are read alone, behind schedules of other names

front_prefix : (xs more : List (List Choice)) (p : List Choice) → IsPrefix xs p → IsPrefix (xs ++ more) p
front_prefix [] more p h = absurd h
front_prefix (x ∷ xs) more p (inl h) = inl h
front_prefix (x ∷ xs) more p (inr h) = inr (front_prefix xs more p h)

fewer : (first more : List Named) → prefix_count first ≤ prefix_count (first ++ more)
fewer first more =
    omega (
      arith,
      fewer_nodes (choices_of first) (choices_of first ++ choices_of more) (front_prefix (choices_of first) (choices_of more)),
      ap (λ s. length (nodes_of s)) (map-append (λ (s : Named). s.1) first more),
    )

-- the schedules that stand behind the front so far are some of those that stand there in the end
pub record IsOnWay (front now after : List Named) : Type 0 where
  pub rest : List Named
  pub is : after ≡ now ++ rest
  pub apart : AreApart front after
  pub few : prefix_count (front ++ after) ≤ 1000001

new_behind : (front before after : List Named) (schedule : Named) → IsOnWay front (before ++ schedule ∷ []) after → has_name schedule.0 before ≡ false → has_name schedule.0 (front ++ before) ≡ false
new_behind front before after schedule way new =
    let test : Named → Bool = λ s. has_name s.0 front in
    let all : (list_any test (before ++ schedule ∷ []) || list_any test way.rest) ≡ false = sym (list_any-append test (before ++ schedule ∷ []) way.rest) ∙ ap (list_any test) (sym way.is) ∙ way.apart in
    let most : (list_any test before || list_any test (schedule ∷ [])) ≡ false = sym (list_any-append test before (schedule ∷ [])) ∙ (or_parts _ _ all).0 in
    let one : (test schedule || false) ≡ false = (or_parts _ _ most).1 in
    list_any-append (λ s. bytes_eq schedule.0 s.0) front before ∙ ap (λ b. b || has_name schedule.0 before) (or_parts _ _ one).0 ∙ new

short_behind : (front before after : List Named) (schedule : Named) → IsOnWay front (before ++ schedule ∷ []) after → is_too_long before schedule ≡ false → is_too_long (front ++ before) schedule ≡ false
short_behind front before after schedule way e =
    let now = (front ++ before) ++ schedule ∷ [] in
    let same : now ++ way.rest ≡ front ++ after = ap (λ s. s ++ way.rest) (append_assoc front before (schedule ∷ [])) ∙ append_assoc front (before ++ schedule ∷ []) way.rest ∙ ap (λ s. front ++ s) (sym way.is) in
    let few = fewer now way.rest in
    let enough = way.few in
    let count : nat_lt 1000000 (node_count (choices_of now)) ≡ false = grind (arith, nat_tests, few, enough, ap prefix_count same) in
    ap (λ long. long || nat_lt 1000000 (node_count (choices_of now))) (or_parts (nat_lt 100000 (length schedule.1)) _ e).0 ∙ count

-- what was read of a line
abbrev ReadsOn : ℕ → List Named → List Named → List Named → Option (Option (List ℕ × List Entry)) → Type 0
ReadsOn n front before middle read = (own : List Named) × (middle ≡ before ++ own) × ((after : List Named) → IsOnWay front middle after → with_read n (front ++ before) read ≡ Ok (front ++ middle))

read_behind : (n m : ℕ) (front before middle : List Named) (read : Option (Option (List ℕ × List Entry))) → with_read m before read ≡ Ok middle → ReadsOn n front before middle read
read_behind n m front before middle None e = cc
read_behind n m front before middle (Some None) e = ([], sym (ok_is before middle e) ∙ sym (append-nil before), λ after way. ap (λ p. Ok (front ++ p)) (ok_is before middle e))
read_behind n m front before middle (Some (Some line)) e = one (has_name line.0 before) (is_too_long before (named line)) refl refl e where
  next : List Named
  next = before ++ named line ∷ []

  one : (twice long : Bool) → has_name line.0 before ≡ twice → is_too_long before (named line) ≡ long
      → cond twice (Err (NameTwice m)) (cond long (Err (TooLong m)) (Ok next)) ≡ Ok middle → ReadsOn n front before middle (Some (Some line))
  one true long p q r = cc
  one false true p q r = cc
  one false false p q r = (named line ∷ [], sym (ok_is next middle r), on) where
    on : (after : List Named) → IsOnWay front middle after → with_read n (front ++ before) (Some (Some line)) ≡ Ok (front ++ middle)
    on after way =
        let here : IsOnWay front next after = subst (λ p. IsOnWay front p after) (sym (ok_is next middle r)) way in
        ap (λ t. cond t (Err (NameTwice n)) (cond (is_too_long (front ++ before) (named line)) (Err (TooLong n)) (Ok ((front ++ before) ++ named line ∷ [])))) (new_behind front before after (named line) here p)
        ∙ ap (λ t. cond t (Err (TooLong n)) (Ok ((front ++ before) ++ named line ∷ []))) (short_behind front before after (named line) here q)
        ∙ ap Ok (append_assoc front before (named line ∷ []) ∙ ap (λ p. front ++ p) (ok_is next middle r))

-- what lines make of schedules, they make of them behind others
pub record AreBehind (n : ℕ) (front before after : List Named) (lines : List (List ℕ)) : Type 0 where
  pub rest : List Named
  pub is : after ≡ before ++ rest
  pub read : with_lines n (front ++ before) lines ≡ Ok (front ++ after)

lines_behind : (n m : ℕ) (front before after : List Named) (lines : List (List ℕ)) → AreApart front after → prefix_count (front ++ after) ≤ 1000001 → with_lines m before lines ≡ Ok after → AreBehind n front before after lines
lines_behind n m front before after [] apart few e = record { rest = []; is = sym (ok_is before after e) ∙ sym (append-nil before); read = ap (λ p. Ok (front ++ p)) (ok_is before after e) }
lines_behind n m front before after (line ∷ lines) apart few e =
    let step = steps (with_read m before (line_of line)) (λ next. with_lines (m + 1) next lines) after e in
    let middle = step.0 in
    let more = lines_behind (n + 1) (m + 1) front middle after lines apart few step.2 in
    let here = read_behind n m front before middle (line_of line) step.1 in
    record {
      rest = here.0 ++ more.rest;
      is = more.is ∙ ap (λ p. p ++ more.rest) here.1 ∙ append_assoc before here.0 more.rest;
      read = ap (λ r. r >>= λ p. with_lines (n + 1) p lines) (here.2 after (record { rest = more.rest; is = more.is; apart = apart; few = few })) ∙ more.read;
    }

pub both_read : (part rest : List ℕ) (first second : List Named) → AreWhole part → plan_of part ≡ Ok first → plan_of rest ≡ Ok second
    → AreApart first second → prefix_count (first ++ second) ≤ 1000001 → plan_of (part ++ rest) ≡ Ok (first ++ second)
both_read part rest first second (inl none) e f apart few =
    let no : [] ≡ first = ok_is [] first (ap plan_of (sym none) ∙ e) in
    ap (λ t. plan_of (t ++ rest)) none ∙ f ∙ ap (λ p. Ok (p ++ second)) no
both_read part rest first second (inr (front, ends)) e f apart few =
    let lines = parts_of 10 front in
    let before : with_lines 1 [] lines ≡ Ok first = sym (whole_lines front) ∙ ap plan_of (sym ends) ∙ e in
    ap (λ t. plan_of (t ++ rest)) ends ∙ ap plan_of (append_assoc front (10 ∷ []) rest) ∙ ap (with_lines 1 []) (lines_cut front rest)
    ∙ lines_after 1 [] lines (parts_of 10 rest)
    ∙ ap (λ r. r >>= λ middle. with_lines (1 + length lines) middle (parts_of 10 rest)) before
    ∙ ap (λ p. with_lines (1 + length lines) p (parts_of 10 rest)) (sym (append-nil first))
    ∙ (lines_behind (1 + length lines) 1 first [] second (parts_of 10 rest) apart few f).read
