-- Walks that go on, and walks that are over.
use Rattle.bx_debug.proofs.Words.{◌≡◌, ℕ, ◌+◌, ◌≤◌, List, ◌++◌, length, take, drop, Option, None, refl, sym, ap, ◌∙◌, subst, arith, Loaded, Choice, State, Ended, ran, Course, true, all_enabled, walked, come, led}
use Rattle.bx_debug.proofs.Words.{Leads, Reaches, Walks, Went, PlaceSet, Stop, length-append}
use Rattle.std.proofs.Math.Path.{transport}
use Rattle.std.proofs.Math.Seq.{take-add}
use Rattle.std.proofs.lemmas.List.{length-take, length-take-le, take-append-drop, take-take}
use Rattle.bx_debug.specs.Leading.{Begins}
use Rattle.bx_debug.proofs.Leads.{ran_from}
use Rattle.bx_debug.proofs.Stretches.{leads_joined}

-- choices more were applied, of those that stand next
module _ {places : PlaceSet} {choices part front : List Choice} {trail : Course} {image : Loaded} {here next : State} {n : ℕ} {stop : Option Stop} (k : ℕ) (walks : Walks places choices trail here None)
    (code : image ≡ trail.image) (reached : Reaches image places part here n next stop) (is : part ≡ take k (drop (length trail.choices) choices)) (front_is : front ≡ take n part) where
  added : trail.choices ++ front ≡ take (length trail.choices + n) choices
  added =
      let rest = drop (length trail.choices) choices in
      let within = reached.within in
      let short : n ≤ k = omega (arith, within, ap length is, length-take k rest) in
      ap (λ zs. trail.choices ++ zs) (front_is ∙ ap (take n) is ∙ take-take n k rest short) ∙ ap (λ zs. zs ++ take n rest) walks.taken ∙ sym (take-add (length trail.choices) n choices)

  pub counted : length (trail.choices ++ front) ≡ length trail.choices + n
  counted = length-append trail.choices front ∙ ap (λ m. length trail.choices + m) (ap length front_is ∙ length-take-le n part reached.within)

  pub goes_on : Walks places choices (record trail { choices = trail.choices ++ front }) next stop
  goes_on =
      let rest = drop (length trail.choices) choices in
      let whole : part ++ drop k rest ≡ rest = ap (λ (cs : List Choice). cs ++ drop k rest) is ∙ take-append-drop k rest in
      record {
        unrefused = walks.unrefused;
        taken = added ∙ ap (λ m. take m choices) (sym counted);
        leads = subst (λ m. Leads trail.image places choices trail.start.world m next stop) (sym counted)
            (leads_joined walks.leads (transport (λ i. Leads (code i) places (whole i) here n next stop) (reached.leads (drop k rest))));
      }

-- where a walk has come is where its choices lead
pub ended : {places : PlaceSet} {choices : List Choice} {trail : Course} {here : State} {stop : Option Stop} → Walks places choices trail here stop
    → come here (trail.start.applied + length trail.choices) ≡ ran trail.image trail.choices trail.start
ended {choices = choices} {trail = trail} walks =
    let begins : come trail.start.world trail.start.applied ≡ trail.start = ap (λ r. record trail.start { refused = r }) (sym walks.unrefused) in
    let all = sym walks.taken in
    ap (λ (w : State). come w (trail.start.applied + length trail.choices)) (walks.leads.shown ∙ ap (λ (cs : List Choice). led trail.image cs trail.start.world) all)
    ∙ sym (ran_from trail.image trail.choices trail.start.world trail.start.applied (subst (λ (cs : List Choice). all_enabled trail.image cs trail.start.world ≡ true) all walks.leads.made))
    ∙ ap (ran trail.image trail.choices) begins

-- a walk of no choice, seen from where it stands
module _ {image : Loaded} {from here : State} {at : ℕ} {trail : Course} {stop : Stop} (b : Begins image from at trail here stop) where
  pub begins_here : Begins trail.image here trail.start.applied trail here stop
  begins_here = record {
    code = refl;
    begins = b.begins ∙ (λ i. come (sym b.shown i) (sym (ap (λ (e : Ended). e.applied) b.begins) i));
    none = b.none;
    shown = refl;
    unstopped = b.unstopped;
  }

  pub went_from : {there : State} {walk : Course} → Went trail.image here trail.start.applied walk there → Went image from at walk there
  went_from {there} {walk} w = transport (λ i. Went (b.code i) (b.shown i) (ap (λ (e : Ended). e.applied) b.begins i) walk there) w

  pub told_from : (places : PlaceSet) (choices : List Choice) {told : List Choice × Stop} → walked trail.image places choices here ≡ told → walked image places choices from ≡ told
  told_from places choices is = (λ i. walked (sym b.code i) places choices (sym b.shown i)) ∙ is
