-- Equal choices in a row, made in one call.
use Rattle.std.proofs.Common.{◌≡◌, ℕ, ◌+◌, ◌<◌, List, [], ◌++◌, length, replicate, append_assoc, refl, sym, ap, ◌∙◌, arith}
use Rattle.std.specs.Prelude.{OnErr, Result, Ok, Err}
use Rattle.std.proofs.Math.Seq.{take-append-add}
use Rattle.bx_load.specs.Image.{Loaded}
use Rattle.bx_world.specs.declared.choices.Choice.{Choice}
use Rattle.bx_world.specs.Running.{Ended, ran, Lacks}
use Rattle.bx_world.proofs.Lawful.{ran_on}
use Rattle.bx_replay.specs.Lacking.{LacksAmong}
use Rattle.std.proofs.lemmas.Option.{slice_get-get_or}
use Rattle.std.proofs.lemmas.List.{length-append, length-replicate, get_or-append-add, get_or_append_left, get_or-replicate, take-append-le, take-replicate}

-- the first of some choices are made, and so many are left
pub record Front (image : Loaded) (whole left : List Choice) (old new : Ended) : Type 0 where
  pub front : List Choice
  pub parts : whole ≡ front ++ left
  pub leads : new ≡ ran image front old

pub none_made : (image : Loaded) (whole : List Choice) (old : Ended) → Front image whole whole old old
none_made image whole old = record { front = []; parts = refl; leads = refl }

pub run_made : (image : Loaded) (whole rest left : List Choice) (choice : Choice) (times : ℕ) (old mid new : Ended) → Front image whole rest old mid → rest ≡ replicate times choice ++ left
    → new ≡ ran image (replicate times choice) mid → Front image whole left old new
run_made image whole rest left choice times old mid new so_far is made = record {
  front = so_far.front ++ replicate times choice;
  parts = so_far.parts ∙ ap (λ (cs : List Choice). so_far.front ++ cs) is ∙ sym (append_assoc so_far.front (replicate times choice) left);
  leads = made ∙ ap (ran image (replicate times choice)) so_far.leads ∙ sym (ran_on image so_far.front (replicate times choice) old);
}

pub run_lacks : (image : Loaded) (whole rest left : List Choice) (choice : Choice) (times : ℕ) (old mid new : Ended) → Front image whole rest old mid → rest ≡ replicate times choice ++ left
    → Lacks image choice times mid new → LacksAmong image whole old new
run_lacks image whole rest left choice times old mid new so_far is lacks =
    let n = lacks.0 in
    let front = so_far.front in
    let row = replicate times choice in
    let parts : whole ≡ front ++ (row ++ left) = so_far.parts ∙ ap (λ (cs : List Choice). front ++ cs) is in
    let inside : n < length row = omega (arith, lacks.1, length-replicate times choice) in
    record {
      made = length front + n;
      choice = choice;
      next = cc (
        parts,
        slice_get-get_or whole (length front + n) choice (omega (arith, inside, ap length parts, length-append front (row ++ left), length-append row left)),
        get_or-append-add front (row ++ left) n choice,
        get_or_append_left row left choice n inside,
        get_or-replicate times n choice choice lacks.1,
      );
      here = cc (
        lacks.2,
        so_far.leads,
        parts,
        ran_on image front (replicate n choice) old,
        take-append-add front (row ++ left) n,
        take-append-le n row left (omega (arith, inside)),
        take-replicate n times choice (omega (arith, lacks.1)),
      );
      takes = lacks.3;
    }

pub on_err : {T E P : Type 0} (r : Result T E) → P → OnErr r P
on_err (Ok x) p = tt
on_err (Err e) p = p
