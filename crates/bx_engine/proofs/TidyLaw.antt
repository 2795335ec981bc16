-- A plan of tidied schedules may be read where they may, and has the report of the plan that was given.
use Rattle.std.proofs.Common.{◌≡◌, ◌∙◌, inl, inr, ℕ, ◌≤◌, Bool, true, false, List, [], ◌∷◌, ◌++◌, length, Option, Some, None, Result, Ok, Err, refl, sym, ap, subst, cond, arith}
use Rattle.std.proofs.lemmas.Bool.Decides.{nat_tests}
use Rattle.std.specs.List.{AllByRecursion}
use Rattle.std.specs.Prelude.{nat_lt, take, IsOk}
use Rattle.bx_terms.specs.Outcomes.{Gives}
use Rattle.bx_terms.specs.declared.faults.Fault.{Fault, TheVariants.Memory, TheVariants.NoEntry, TheVariants.TooLarge}
use Rattle.bx_load.specs.Image.{Loaded}
use Rattle.bx_plan.specs.Grammar.{HasPids, IsName}
use Rattle.bx_plan.specs.Plans.{Named, plan_of}
use Rattle.bx_board.specs.Jobs.{Entry, origin, world_or_none}
use Rattle.bx_board.specs.Reported.{reported_alone, told, told_alone}
use Rattle.bx_board.specs.Texts.{report_lines}
use Rattle.bx_board.specs.declared.reports.Scheduled.{Scheduled}
use Rattle.bx_world.specs.declared.choices.Choice.{Choice}
use Rattle.bx_world.specs.World.{State, started}
use Rattle.bx_world.specs.Running.{ran, unchosen}
use Rattle.bx_replay.specs.Courses.{Course}
use Rattle.bx_replay.specs.Exchanges.{with_exchange}
use Rattle.bx_replay.specs.Moving.{exchanged, AllMay}
use Rattle.bx_replay.proofs.Bringing.{long_after}
use Rattle.bx_replay.proofs.Turning.{around, new, old}
use Rattle.bx_swaps.specs.Exchanges.{from_start}
use Rattle.bx_swaps.specs.Tidying.{IsTidyFrom}
use Rattle.bx_swaps.proofs.Ends.{exchanged_end}
use Rattle.bx_engine.specs.Inputs.{input_limit}
use Rattle.bx_engine.specs.Loads.{ClearUpTo, image_of, of_no_file, plan_in}
use Rattle.bx_engine.specs.Runs.{Names, entry_in, or_start, report_in, report_of, reported, run_behind, run_of}
use Rattle.bx_engine.specs.Starts.{start_in}
use Rattle.bx_engine.specs.Tidying.{AreTidied, IsPastLimits, IsTidiedText, IsTidyOf, LinesWithin, TidiesAt, TidiesBy}
use Rattle.bx_engine.specs.Units.{◌>>=◌, FilesGive, fault_in, in_file, sized}
use Rattle.bx_engine.specs.declared.failures.Failure.{Failure, TheVariants.Refused}
use Rattle.bx_engine.proofs.FileRows.{failed_files, file_fails, same_failure, sized_is}
use Rattle.bx_engine.proofs.ReportRows.{from_no_start, from_start_found}
use Rattle.bx_engine.proofs.PlanAgain.{IsSound, plan_sound, reads_all_back}

-- ---- they may be read

all_turned : (front : List Choice) (a b : Choice) (more : List Choice) → AllByRecursion HasPids (front ++ a ∷ b ∷ more) → AllByRecursion HasPids (front ++ b ∷ a ∷ more)
all_turned [] a b more h = (h.1.0, (h.0, h.1.1))
all_turned (c ∷ front) a b more h = (h.0, all_turned front a b more h.1)

all_exchanged : (is : List ℕ) (c : Course) → AllMay is c → AllByRecursion HasPids c.choices → AllByRecursion HasPids (exchanged is c.choices)
all_exchanged [] c m h = h
all_exchanged (i ∷ is) c m h =
    let a = around i c m.0 in
    all_exchanged is (with_exchange i c) m.1
    (subst (λ (cs : List Choice). AllByRecursion HasPids cs) (sym (new i c a))
    (all_turned (take i c.choices) a.first a.second a.more (subst (λ (cs : List Choice). AllByRecursion HasPids cs) (old i c a) h)))

one_sound : (image : Loaded) (start : State) (given tidied : Named) → tidied.0 ≡ given.0 → IsTidyFrom image start given.1 (Ok tidied.1) → IsSound given → IsSound tidied
one_sound image start given tidied name is sound =
    let e = is.exchanged in
    record {
      name = subst IsName (sym name) sound.name;
      pids = subst (λ (c : Course). AllByRecursion HasPids c.choices) (sym e.is) (all_exchanged e.positions (from_start image start given.1) e.may sound.pids);
      few = let long = long_after _ _ _ e in let few = sound.few in omega arith;
    }

pub all_sound : (image : Loaded) (start : State) (plan tidied : List Named) → AreTidied image start plan tidied → AllByRecursion IsSound plan → AllByRecursion IsSound tidied
all_sound image start [] [] are h = tt
all_sound image start [] (t ∷ ts) are h = absurd are
all_sound image start (s ∷ plan) [] are h = absurd are
all_sound image start (s ∷ plan) (t ∷ ts) are h = (one_sound image start s t are.0 are.1 h.0, all_sound image start plan ts are.2 h.1)

-- ---- they are reported alike

told_alike : (image : Loaded) (entry : Entry) (start : State) (given tidied : Named) → started image entry.0 entry.1 ≡ Ok start → tidied.0 ≡ given.0 → IsTidyFrom image start given.1 (Ok tidied.1)
    → told_alone image entry tidied ≡ told_alone image entry given
told_alike image entry start given tidied begins name is =
    let at : origin image entry ≡ unchosen start = ap (λ (r : Result State Fault). unchosen (world_or_none r)) begins in
    let same : ran image tidied.1 (unchosen start) ≡ ran image given.1 (unchosen start) = exchanged_end _ (from_start image start given.1) (from_start image start tidied.1) is.exchanged in
    ap (λ e. told tidied.0 (ran image tidied.1 e)) at ∙ ap (told tidied.0) same ∙ ap (λ n. told n (ran image given.1 (unchosen start))) name
    ∙ ap (λ e. told given.0 (ran image given.1 e)) (sym at)

reported_alike : (image : Loaded) (entry : Entry) (start : State) (plan tidied : List Named) → started image entry.0 entry.1 ≡ Ok start → AreTidied image start plan tidied
    → reported_alone image entry tidied ≡ reported_alone image entry plan
reported_alike image entry start [] [] begins are = refl
reported_alike image entry start [] (t ∷ ts) begins are = absurd are
reported_alike image entry start (s ∷ plan) [] begins are = absurd are
reported_alike image entry start (s ∷ plan) (t ∷ ts) begins are =
    ap (λ row. row ∷ reported_alone image entry ts) (told_alike image entry start s t begins are.0 are.1)
    ∙ ap (λ rows. told_alone image entry s ∷ rows) (reported_alike image entry start plan ts begins are.2)

-- ---- the text is reported alike

sized_ok : (n : ℕ) (text : List ℕ) → length text ≤ input_limit → sized n text ≡ Ok text
sized_ok n text h =
    let short : nat_lt input_limit (length text) ≡ false = grind (arith, nat_tests) in
    ap (λ b. cond b (Err (Refused TooLarge (Some n))) (Ok text)) short

-- a text that was read whole is within the limit
pub within_limit : (n : ℕ) (text bytes : List ℕ) → sized n text ≡ Ok bytes → length text ≤ input_limit
within_limit n text bytes whole = go (nat_lt input_limit (length text)) refl whole
  where
    go : (large : Bool) → nat_lt input_limit (length text) ≡ large → cond large (Err (Refused TooLarge (Some n))) (Ok text) ≡ Ok bytes → length text ≤ input_limit
    go true e whole = absurd (let never : Err (Refused TooLarge (Some n)) ≡ Ok bytes = whole in cc)
    go false e whole = grind (arith, nat_tests)

pub planned_ok : (n : ℕ) (text : List ℕ) (plan : List Named) → length text ≤ input_limit → plan_of text ≡ Ok plan → plan_in n text ≡ Ok plan
planned_ok n text plan h e = ap (λ (r : Result (List ℕ) Failure). r >>= λ bytes. in_file n (plan_of bytes)) (sized_ok n text h) ∙ ap (in_file n) e

pub behind_is : (names : Names) (given : List (List ℕ)) (text : List ℕ) (image : Loaded) (plan : List Named) → image_of given ≡ Ok image → plan_in (length given) text ≡ Ok plan
    → run_behind names given text ≡ report_of image names plan
behind_is names given text image plan loaded read =
    ap (λ (r : Result Loaded Failure). r >>= λ i. plan_in (length given) text >>= λ p. report_of i names p) loaded
    ∙ ap (λ (r : Result (List Named) Failure). r >>= λ p. report_of image names p) read

report_is : (image : Loaded) (names : Names) (entry : Entry) (start : State) (plan : List Named) → entry_in image names ≡ Some entry → started image entry.0 entry.1 ≡ Ok start
    → report_in image names plan ≡ Ok (report_lines image.atoms (reported_alone image entry plan))
report_is image names entry start plan found begins =
    ap (λ (o : Option Entry). reported image o plan >>= λ rows. Ok (report_lines image.atoms rows)) found
    ∙ ap (λ (r : Result (List Scheduled) Fault). r >>= λ rows. Ok (report_lines image.atoms rows)) (from_start_found image entry start plan begins)

-- of the lines, and of the text that was given
text_behind : (names : Names) (given : List (List ℕ)) (planned text : List ℕ) → IsTidyOf names given planned text → run_behind names given text ≡ run_behind names given planned
text_behind names given planned text is = elim is.tidied.written [
  | inl h ↦
      behind_is names given text is.image is.tidied.tidied is.loaded (planned_ok (length given) text is.tidied.tidied h.1 h.2)
      ∙ ap of_no_file (
      report_is is.image names is.entry is.start is.tidied.tidied is.found is.begins
      ∙ ap (λ rows. Ok (report_lines is.image.atoms rows)) (reported_alike is.image is.entry is.start is.plan is.tidied.tidied is.begins is.tidied.are)
      ∙ sym (report_is is.image names is.entry is.start is.plan is.found is.begins)
      )
      ∙ sym (behind_is names given planned is.image is.plan is.loaded (planned_ok (length given) planned is.plan is.within is.read))
  | inr h ↦ ap (run_behind names given) h.0
]

pub same_report : (start : List ℕ) (names : Names) (given : List (List ℕ)) (planned text : List ℕ) → start_in start ≡ Some names → IsTidyOf names given planned text → run_of start given text ≡ run_of start given planned
same_report start names given planned text e is =
    ap (λ (o : Option Names). or_start o >>= λ n. run_behind n given text) e ∙ text_behind names given planned text is
    ∙ sym (ap (λ (o : Option Names). or_start o >>= λ n. run_behind n given planned) e)

-- ---- what comes of the files

-- a fault of the plan is the report's too
pub plan_fails : {X Y : Type 0} (takes : Type 0) (seen : Y → List Named) (view : X → List ℕ) (names : Names) (given : List (List ℕ)) (planned bytes : List ℕ) (image : Loaded) (n : ℕ) (fault : Fault) (failure : Failure)
    → image_of given ≡ Ok image → length given ≡ n → sized n planned ≡ Ok bytes → Gives takes seen (Err fault) (plan_of bytes) → failure ≡ fault_in n fault
    → FilesGive view (Err failure) (ClearUpTo given) (run_behind names given planned)
plan_fails takes seen view names given planned bytes image n fault failure loaded counted whole gives e =
    failed_files seen view n failure (in_file n (plan_of bytes)) (ClearUpTo given) (run_behind names given planned)
    (file_fails takes seen n fault failure (plan_of bytes) gives e)
    on (inr (sym counted, subst IsOk (sym loaded) refl))
  where
    on : in_file n (plan_of bytes) ≡ Err failure → run_behind names given planned ≡ Err failure
    on said =
        ap (λ (r : Result Loaded Failure). r >>= λ i. plan_in (length given) planned >>= λ p. report_of i names p) loaded
        ∙ ap (λ m. plan_in m planned >>= λ p. report_of image names p) counted
        ∙ ap (λ (r : Result (List ℕ) Failure). (r >>= λ bs. in_file n (plan_of bs)) >>= λ p. report_of image names p) whole
        ∙ ap (λ (r : Result (List Named) Failure). r >>= λ p. report_of image names p) said

-- a text of the lines that are written, or of the plan that was given
abbrev pub written_text : {X : Type 0} → (X → List ℕ) → List ℕ → Option X → List ℕ
written_text view planned None = planned
written_text view planned (Some lines) = view lines

module _ {X : Type 0} (view : X → List ℕ) (image : Loaded) (plan : List Named) (planned : List ℕ) (read : plan_of planned ≡ Ok plan) where
  lines_text : (start : State) (lines : Option X) → LinesWithin view image start plan lines → IsTidiedText image start plan planned (written_text view planned lines)
  lines_text start (Some lines) h =
      let sound = all_sound image start plan h.0.tidied h.0.are (plan_sound planned plan read) in
      record { tidied = h.0.tidied; are = h.0.are; written = inl (h.0.lines, h.1, again (plan_of (view lines)) refl h.2 sound) }
    where
      again : (found : Result (List Named) Fault) → plan_of (view lines) ≡ found → IsOk found → AllByRecursion IsSound h.0.tidied → plan_of (view lines) ≡ Ok h.0.tidied
      again (Ok more) e k sound = e ∙ ap Ok (reads_all_back h.0.tidied more sound (ap plan_of (sym h.0.lines) ∙ e))
      again (Err fault) e k sound = absurd (let never : false ≡ true = k in cc)
  lines_text start None h = record { tidied = h.1.tidied; are = h.1.are; written = inr (refl, subst IsPastLimits h.1.lines h.2) }

  module _ (names : Names) (given : List (List ℕ)) (loaded : image_of given ≡ Ok image) (within : length planned ≤ input_limit) where
    begun_text : (entry : Entry) (found : Result State Fault) (lines : Option X) → entry_in image names ≡ Some entry → started image entry.0 entry.1 ≡ found → TidiesAt found (λ start. LinesWithin view image start plan) (Ok lines)
        → IsTidyOf names given planned (written_text view planned lines)
    begun_text entry (Ok start) lines at begins h =
        record { image = image; loaded = loaded; entry = entry; found = at; start = start; begins = begins; plan = plan; read = read; within = within; tidied = lines_text start lines h }
    begun_text entry (Err fault) lines at begins h = absurd (let never : Ok lines ≡ Err fault = h in cc)

    pub tidy_of : (entry : Option Entry) (lines : Option X) → entry_in image names ≡ entry → TidiesBy view image entry plan (Ok lines) → IsTidyOf names given planned (written_text view planned lines)
    tidy_of (Some entry) lines at h = begun_text entry (started image entry.0 entry.1) lines at refl h
    tidy_of None lines at h = absurd (let never : Ok lines ≡ Err NoEntry = h in cc)

  -- what is refused, is refused by the report too
  refused_at : (names : Names) (entry : Entry) (found : Result State Fault) (fault : Fault) (clear : ℕ → Type 0) → entry_in image names ≡ Some entry → started image entry.0 entry.1 ≡ found
      → TidiesAt {X = Option X} found (λ start. LinesWithin view image start plan) (Err fault) → FilesGive view (Err (Refused fault None)) clear (report_of image names plan)
  refused_at names entry (Ok start) Memory clear at begins h = refl
  refused_at names entry (Ok start) fault clear at begins h = absurd h
  refused_at names entry (Err other) fault clear at begins h = refused fault h
    where
      said : report_of image names plan ≡ Err (Refused other None)
      said = ap of_no_file (
          ap (λ (o : Option Entry). reported image o plan >>= λ rows. Ok (report_lines image.atoms rows)) at
          ∙ ap (λ (r : Result (List Scheduled) Fault). r >>= λ rows. Ok (report_lines image.atoms rows)) (from_no_start image entry other plan begins)
          )

      refused : (f : Fault) → ◌≡◌ {A = Result (Option X) Fault} (Err f) (Err other) → FilesGive view (Err (Refused f None)) clear (report_of image names plan)
      refused Memory e = refl
      refused f e = said ∙ ap (λ g. Err (Refused g None)) (sym (same f other e))
        where
          same : (f g : Fault) → ◌≡◌ {A = Result (Option X) Fault} (Err f) (Err g) → f ≡ g
          same f g e = cc

  pub refused_by : (names : Names) (entry : Option Entry) (fault : Fault) (clear : ℕ → Type 0) → entry_in image names ≡ entry → TidiesBy view image entry plan (Err fault)
      → FilesGive view (Err (Refused fault None)) clear (report_of image names plan)
  refused_by names (Some entry) fault clear at h = refused_at names entry (started image entry.0 entry.1) fault clear at refl h
  refused_by names None fault clear at h = unfound fault h
    where
      said : report_of image names plan ≡ Err (Refused NoEntry None)
      said = ap of_no_file (ap (λ (o : Option Entry). reported image o plan >>= λ rows. Ok (report_lines image.atoms rows)) at)

      same : (f g : Fault) → ◌≡◌ {A = Result (Option X) Fault} (Err f) (Err g) → f ≡ g
      same f g e = cc

      unfound : (f : Fault) → ◌≡◌ {A = Result (Option X) Fault} (Err f) (Err NoEntry) → FilesGive view (Err (Refused f None)) clear (report_of image names plan)
      unfound Memory e = refl
      unfound f e = said ∙ ap (λ g. Err (Refused g None)) (sym (same f NoEntry e))

-- the text of a plan that is read whole, and what comes where it is refused
pub text_made : {X : Type 0} (view : X → List ℕ) (image : Loaded) (names : Names) (given : List (List ℕ)) (planned bytes : List ℕ) (plan : List Named) (n : ℕ) (lines : Option X)
    → image_of given ≡ Ok image → sized n planned ≡ Ok bytes → plan_of bytes ≡ Ok plan → TidiesBy view image (entry_in image names) plan (Ok lines) → IsTidyOf names given planned (written_text view planned lines)
text_made view image names given planned bytes plan n lines loaded whole read by =
    let read_whole : plan_of planned ≡ Ok plan = subst (λ (t : List ℕ). plan_of t ≡ Ok plan) (sized_is n planned bytes whole) read in
    tidy_of view image plan planned read_whole names given loaded (within_limit n planned bytes whole) (entry_in image names) lines refl by

pub text_refused : {X Y : Type 0} (view : X → List ℕ) (seen : Y → List ℕ) (image : Loaded) (names : Names) (given : List (List ℕ)) (planned bytes : List ℕ) (plan : List Named) (n : ℕ) (fault : Fault) (clear : ℕ → Type 0)
    → image_of given ≡ Ok image → sized n planned ≡ Ok bytes → plan_of bytes ≡ Ok plan → TidiesBy view image (entry_in image names) plan (Err fault)
    → FilesGive seen (Err (Refused fault None)) clear (run_behind names given planned)
text_refused view seen image names given planned bytes plan n fault clear loaded whole read by =
    let read_whole : plan_of planned ≡ Ok plan = subst (λ (t : List ℕ). plan_of t ≡ Ok plan) (sized_is n planned bytes whole) read in
    let behind : run_behind names given planned ≡ report_of image names plan =
    behind_is names given planned image plan loaded (planned_ok (length given) planned plan (within_limit n planned bytes whole) read_whole) in
    subst (λ (said : Result (List ℕ) Failure). FilesGive seen (Err (Refused fault None)) clear said) (sym behind)
    (same_failure view seen (Refused fault None) clear (report_of image names plan) (refused_by view image plan planned read_whole names (entry_in image names) fault clear refl by))
