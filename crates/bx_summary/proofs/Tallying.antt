-- A schedule more in a tally.
use Rattle.std.proofs.Common.{◌≡◌, ◌∙◌, ℕ, zero, suc, ◌+◌, ◌<◌, ◌≤◌, Bool, true, false, cond, List, [], ◌∷◌, ◌++◌, length, map, get_or, set, Option, Some, None, option_map, option_copied, Ok, Bor, refl, sym, ap, subst, arith}
use Rattle.std.specs.List.{AllByRecursion}
use Rattle.std.specs.BTreeMap.{get_by_text}
use Rattle.std.specs.Map.{update}
use Rattle.std.specs.Str.{bytes_eq}
use Rattle.std.proofs.lemmas.List.{length-map, map-append}
use Rattle.std.specs.Cmp.Lexicographic.{bytes_decides, nat_list_eq_equiv}
use Rattle.std.proofs.lemmas.Bool.{both_ways}
use Rattle.bx_board.specs.declared.reports.Scheduled.{Scheduled}
use Rattle.bx_summary.specs.declared.tallies.Shared.{Shared}
use Rattle.bx_summary.specs.Counted.{Counted, counted, ends_so, with_one}
use Rattle.bx_summary.specs.Endings.{ending_lines}
use Rattle.bx_summary.specs.Tallied.{IsTally, number_of, outcomes_of, shared_texts, shared_view}
use Rattle.bx_summary.specs.Texts.{last_line, outcome_text, outcome_texts, summary_lines}
use Rattle.bx_summary.specs.declared.tallies.Tally.{Tally}
use Rattle.bx_summary.proofs.Ending.{Answer, ok_is}

-- a number that was found behind the first
abbrev Behind : Option ℕ → ℕ → Type 0
Behind found n = (m : ℕ) × (found ≡ Some m) × (n ≡ suc m)

behind : (found : Option ℕ) (n : ℕ) → option_map suc found ≡ Some n → Behind found n
behind None n e = cc
behind (Some m) n e = let same : suc m ≡ n = cc in (m, refl, sym same)

nowhere : (found : Option ℕ) → option_map suc found ≡ None → found ≡ None
nowhere None e = refl
nowhere (Some m) e = cc

module _ (texts : List (List ℕ)) (one : Scheduled) where
  abbrev own : List ℕ
  own = ending_lines texts one

  pub number_within : (outcomes : List Counted) (n : ℕ) → number_of texts own outcomes ≡ Some n → n < length outcomes
  number_within [] n e = cc
  number_within (outcome ∷ more) n e = by (ends_so texts own outcome.0) e (number_within more) where
    by : (same : Bool) → cond same (Some 0) (option_map suc (number_of texts own more)) ≡ Some n → ((m : ℕ) → number_of texts own more ≡ Some m → m < length more) → n < suc (length more)
    by true t rest = let first : 0 ≡ n = cc in omega (arith, first)
    by false t rest = let at = behind (number_of texts own more) n t in omega (arith, at.2, rest at.0 at.1)

  -- counted at the outcome of that number
  pub shared_more : (shared : List Shared) (n : ℕ) (d : Shared) → number_of texts own (map shared_view shared) ≡ Some n
      → map shared_view (set shared n (record (get_or shared n d) { count = (get_or shared n d).count + 1 })) ≡ with_one texts one (map shared_view shared)
  shared_more [] n d e = cc
  shared_more (first ∷ more) n d e = by (ends_so texts own first.first.now) e (λ m. shared_more more m d) where
    by : (same : Bool) → cond same (Some 0) (option_map suc (number_of texts own (map shared_view more))) ≡ Some n
        → ((m : ℕ) → number_of texts own (map shared_view more) ≡ Some m → map shared_view (set more m (record (get_or more m d) { count = (get_or more m d).count + 1 })) ≡ with_one texts one (map shared_view more))
        → map shared_view (set (first ∷ more) n (record (get_or (first ∷ more) n d) { count = (get_or (first ∷ more) n d).count + 1 }))
        ≡ cond same ((first.first.now, first.count + 1) ∷ map shared_view more) (shared_view first ∷ with_one texts one (map shared_view more))
    by true t rest =
        let here : 0 ≡ n = cc in
        subst (λ k. map shared_view (set (first ∷ more) k (record (get_or (first ∷ more) k d) { count = (get_or (first ∷ more) k d).count + 1 })) ≡ (first.first.now, first.count + 1) ∷ map shared_view more) here refl
    by false t rest =
        let at = behind (number_of texts own (map shared_view more)) n t in
        subst (λ k. map shared_view (set (first ∷ more) k (record (get_or (first ∷ more) k d) { count = (get_or (first ∷ more) k d).count + 1 })) ≡ shared_view first ∷ with_one texts one (map shared_view more))
        (sym at.2) (ap (λ others. shared_view first ∷ others) (rest at.0 at.1))

  -- and each is found where it was
  pub number_stays : (outcomes : List Counted) (n : ℕ) (key : List ℕ) → number_of texts own outcomes ≡ Some n → number_of texts key (with_one texts one outcomes) ≡ number_of texts key outcomes
  number_stays [] n key e = cc
  number_stays (outcome ∷ more) n key e = by (ends_so texts own outcome.0) e (λ m. number_stays more m key) where
    by : (same : Bool) → cond same (Some 0) (option_map suc (number_of texts own more)) ≡ Some n
        → ((m : ℕ) → number_of texts own more ≡ Some m → number_of texts key (with_one texts one more) ≡ number_of texts key more)
        → number_of texts key (cond same ((outcome.0, outcome.1 + 1) ∷ more) (outcome ∷ with_one texts one more)) ≡ number_of texts key (outcome ∷ more)
    by true t rest = refl
    by false t rest =
        let at = behind (number_of texts own more) n t in
        ap (λ found. cond (ends_so texts key outcome.0) (Some 0) (option_map suc found)) (rest at.0 at.1)

  -- a new outcome comes last
  pub new_last : (outcomes : List Counted) → number_of texts own outcomes ≡ None → with_one texts one outcomes ≡ outcomes ++ (one, 1) ∷ []
  new_last [] e = refl
  new_last (outcome ∷ more) e = by (ends_so texts own outcome.0) e (new_last more) where
    by : (same : Bool) → cond same (Some 0) (option_map suc (number_of texts own more)) ≡ None
        → (number_of texts own more ≡ None → with_one texts one more ≡ more ++ (one, 1) ∷ [])
        → cond same ((outcome.0, outcome.1 + 1) ∷ more) (outcome ∷ with_one texts one more) ≡ outcome ∷ (more ++ (one, 1) ∷ [])
    by true t rest = cc
    by false t rest = ap (λ others. outcome ∷ others) (rest (nowhere (number_of texts own more) t))

  pub new_number : (outcomes : List Counted) (key : List ℕ) → number_of texts own outcomes ≡ None
      → number_of texts key (outcomes ++ (one, 1) ∷ []) ≡ cond (bytes_eq own key) (Some (length outcomes)) (number_of texts key outcomes)
  new_number [] key e = ap (λ same. cond same (Some 0) None) (nat_list_eq_equiv.symm key own)
  new_number (outcome ∷ more) key e = by (ends_so texts own outcome.0) refl e (new_number more key) where
    by : (same : Bool) → ends_so texts own outcome.0 ≡ same → cond same (Some 0) (option_map suc (number_of texts own more)) ≡ None
        → (number_of texts own more ≡ None → number_of texts key (more ++ (one, 1) ∷ []) ≡ cond (bytes_eq own key) (Some (length more)) (number_of texts key more))
        → cond (ends_so texts key outcome.0) (Some 0) (option_map suc (number_of texts key (more ++ (one, 1) ∷ [])))
        ≡ cond (bytes_eq own key) (Some (suc (length more))) (cond (ends_so texts key outcome.0) (Some 0) (option_map suc (number_of texts key more)))
    by true p t rest = cc
    by false p t rest =
        ap (λ found. cond (ends_so texts key outcome.0) (Some 0) (option_map suc found)) (rest (nowhere (number_of texts own more) t))
        ∙ each (ends_so texts key outcome.0) (bytes_eq own key) refl refl
      where
        each : (here new : Bool) → ends_so texts key outcome.0 ≡ here → bytes_eq own key ≡ new
            → cond here (Some 0) (option_map suc (cond new (Some (length more)) (number_of texts key more)))
            ≡ cond new (Some (suc (length more))) (cond here (Some 0) (option_map suc (number_of texts key more)))
        each true true q r = absurd (both_ways (ends_so texts own outcome.0) p ((bytes_decides own (ending_lines texts outcome.0)).1 ((bytes_decides own key).0 r ∙ (bytes_decides key (ending_lines texts outcome.0)).0 q)))
        each true false q r = refl
        each false true q r = refl
        each false false q r = refl

  -- none has more than there are
  pub few_more : (outcomes : List Counted) (k : ℕ) → AllByRecursion (λ outcome. outcome.1 ≤ k) outcomes → AllByRecursion (λ outcome. outcome.1 ≤ k + 1) (with_one texts one outcomes)
  few_more [] k few = (omega arith, tt)
  few_more (outcome ∷ more) k few = by (ends_so texts own outcome.0) (few_more more k few.1) where
    still : (others : List Counted) → AllByRecursion (λ other. other.1 ≤ k) others → AllByRecursion (λ other. other.1 ≤ k + 1) others
    still [] h = tt
    still (other ∷ others) h = (omega (arith, h.0), still others h.1)

    by : (same : Bool) → AllByRecursion (λ other. other.1 ≤ k + 1) (with_one texts one more) → AllByRecursion (λ other. other.1 ≤ k + 1) (cond same ((outcome.0, outcome.1 + 1) ∷ more) (outcome ∷ with_one texts one more))
    by true rest = (omega (arith, few.0), still more few.1)
    by false rest = (omega (arith, few.0), rest)

-- the count of the outcome of that number
pub few_at : (shared : List Shared) (n k : ℕ) (d : Shared) → AllByRecursion (λ outcome. outcome.1 ≤ k) (map shared_view shared) → n < length shared → (get_or shared n d).count ≤ k
few_at [] n k d few within = absurd (omega (arith, within))
few_at (first ∷ more) zero k d few within = few.0
few_at (first ∷ more) (suc n) k d few within = few_at more n k d few.1 (omega (arith, within))

-- ---- a tally

module _ (texts : List (List ℕ)) (one : Scheduled) (old : Tally) (sound : IsTally texts old) where
  -- what is found by the bytes of its ending
  pub found : (key bytes : List ℕ) (got : Option (Bor ℕ)) (copied number : Option ℕ) → ◌≡◌ {A = Answer} (Ok (ending_lines texts one)) (Ok bytes) → key ≡ bytes
      → option_copied got ≡ get_by_text old.numbers key → copied ≡ option_copied got → copied ≡ number → number_of texts (ending_lines texts one) (outcomes_of old) ≡ number
  found key bytes got copied number ends is gives same at =
      sym (sound.numbered (ending_lines texts one)) ∙ ap (get_by_text old.numbers) (ok_is (ending_lines texts one) bytes ends ∙ sym is) ∙ sym gives ∙ sym same ∙ at

  pub within : (n : ℕ) → number_of texts (ending_lines texts one) (outcomes_of old) ≡ Some n → n < length old.outcomes.items
  within n e = omega (arith, number_within texts one (outcomes_of old) n e, length-map old.outcomes.items shared_view)

  pub room : (n : ℕ) (d : Shared) → number_of texts (ending_lines texts one) (outcomes_of old) ≡ Some n → d ≡ get_or old.outcomes.items n d → d.count ≤ old.schedules
  room n d e is = subst (λ (s : Shared). s.count ≤ old.schedules) (sym is) (few_at old.outcomes.items n old.schedules d sound.few (within n e))

  -- an outcome that is there
  pub again : (n : ℕ) (d : Shared) → number_of texts (ending_lines texts one) (outcomes_of old) ≡ Some n → d ≡ get_or old.outcomes.items n d
      → map shared_view (set old.outcomes.items n (record { first = d.first; count = d.count + 1 })) ≡ with_one texts one (outcomes_of old)
  again n d e is =
      ap (λ (s : Shared). map shared_view (set old.outcomes.items n (record { first = s.first; count = s.count + 1 }))) is ∙ shared_more texts one old.outcomes.items n d e

  abbrev Stands : (List ℕ → Option ℕ) → List Counted → Type 0
  Stands numbers outcomes = ((key : List ℕ) → numbers key ≡ number_of texts key outcomes) × AllByRecursion (λ outcome. outcome.1 ≤ old.schedules + 1) outcomes

  few_with : (outcomes : List Counted) → outcomes ≡ with_one texts one (outcomes_of old) → AllByRecursion (λ outcome. outcome.1 ≤ old.schedules + 1) outcomes
  few_with outcomes is = subst (λ (os : List Counted). AllByRecursion (λ outcome. outcome.1 ≤ old.schedules + 1) os) (sym is) (few_more texts one (outcomes_of old) old.schedules sound.few)

  pub stands_again : (n : ℕ) (outcomes : List Counted) → number_of texts (ending_lines texts one) (outcomes_of old) ≡ Some n → outcomes ≡ with_one texts one (outcomes_of old)
      → Stands (get_by_text old.numbers) outcomes
  stands_again n outcomes e is = (
    λ key. sound.numbered key ∙ sym (number_stays texts one (outcomes_of old) n key e) ∙ ap (number_of texts key) (sym is),
    few_with outcomes is,
  )

  -- a new one
  pub new_outcome : (shared : List Shared) (first : Bor Scheduled) → number_of texts (ending_lines texts one) (outcomes_of old) ≡ None → first.now ≡ one
      → shared ≡ old.outcomes.items ++ record { first = first; count = 1 } ∷ [] → map shared_view shared ≡ with_one texts one (outcomes_of old)
  new_outcome shared first e is pushed =
      ap (map shared_view) pushed ∙ map-append shared_view old.outcomes.items (record { first = first; count = 1 } ∷ [])
      ∙ ap (λ (s : Scheduled). outcomes_of old ++ (s, 1) ∷ []) is ∙ sym (new_last texts one (outcomes_of old) e)

  pub stands_new : (numbers : List ℕ → Option ℕ) (n : ℕ) (bytes : List ℕ) (outcomes : List Counted) → number_of texts (ending_lines texts one) (outcomes_of old) ≡ None
      → ◌≡◌ {A = Answer} (Ok (ending_lines texts one)) (Ok bytes) → n ≡ length old.outcomes.items
      → ((key : List ℕ) → numbers key ≡ update bytes_eq (get_by_text old.numbers) bytes (Some n) key) → outcomes ≡ with_one texts one (outcomes_of old) → Stands numbers outcomes
  stands_new numbers n bytes outcomes e ends last sets is = (
    λ key. sets key
        ∙ ap (λ (bs : List ℕ). update bytes_eq (get_by_text old.numbers) bs (Some n) key) (sym (ok_is (ending_lines texts one) bytes ends))
        ∙ ap (λ (m : ℕ). cond (bytes_eq (ending_lines texts one) key) (Some m) (get_by_text old.numbers key)) (last ∙ sym (length-map old.outcomes.items shared_view))
        ∙ ap (λ (o : Option ℕ). cond (bytes_eq (ending_lines texts one) key) (Some (length (outcomes_of old))) o) (sound.numbered key)
        ∙ sym (new_number texts one (outcomes_of old) key e)
        ∙ ap (number_of texts key) (sym (is ∙ new_last texts one (outcomes_of old) e)),
    few_with outcomes is,
  )

-- ---- the text

texts_of : (texts : List (List ℕ)) (shared : List Shared) → shared_texts texts shared ≡ outcome_texts texts (map shared_view shared)
texts_of texts [] = refl
texts_of texts (first ∷ more) = ap (λ rest. outcome_text texts (shared_view first) ++ rest) (texts_of texts more)

pub summary_is : (texts : List (List ℕ)) (report : List Scheduled) (shared : List Shared) (schedules outcomes : ℕ) (written whole : List ℕ)
    → map shared_view shared ≡ counted texts report → schedules ≡ length report → outcomes ≡ length shared → written ≡ shared_texts texts shared
    → whole ≡ written ++ last_line schedules outcomes → summary_lines texts report ≡ whole
summary_is texts report shared schedules outcomes written whole are all some so is =
    ap (λ (os : List Counted). outcome_texts texts os ++ last_line (length report) (length os)) (sym are)
    ∙ ap (λ (n : ℕ). outcome_texts texts (map shared_view shared) ++ last_line (length report) n) (length-map shared shared_view ∙ sym some)
    ∙ ap (λ (n : ℕ). outcome_texts texts (map shared_view shared) ++ last_line n outcomes) (sym all)
    ∙ ap (λ (text : List ℕ). text ++ last_line schedules outcomes) (sym (so ∙ texts_of texts shared)) ∙ sym is
