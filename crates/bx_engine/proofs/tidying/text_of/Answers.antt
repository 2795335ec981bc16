use Rattle.std.proofs.Common.{◌≡◌, Global, List, None, Ok, Option, Some, String, Vec, length, string_bytes, subst, sym, ℕ}
use Rattle.bx_plan.specs.Planned.{Planned, schedules}
use Rattle.bx_plan.specs.Plans.{TakesMemory}
use Rattle.bx_plan.specs.Reading.{parts_of}
use Rattle.bx_engine.specs.Loads.{ClearUpTo}
use Rattle.bx_engine.specs.Runs.{entry_in}
use Rattle.bx_engine.specs.Tidying.{IsTidyOf, TidiesBy}
use Rattle.bx_engine.specs.Units.{sized}
use Rattle.bx_engine.proofs.FileRows.{same_length, sized_is}
use Rattle.bx_engine.proofs.TidyLaw.{plan_fails, text_made, text_refused}
use Rattle.bx_engine.proofs.tidying.text_of.Goals as goal

pub returns-in-Err-read_plan : goal.returns-in-Err-read_plan
returns-in-Err-read_plan g c given planned known there =
    let whole = subst (λ (bs : List ℕ). sized (length c.args.listings.now) planned ≡ Ok bs) (sym c.deref.ensures.value) (c.in-Ok-read_file.ensures planned there) in
    plan_fails (TakesMemory (parts_of 10 c.deref.result.now)) (λ (plan : Planned). schedules plan) (λ (text : Vec ℕ Global). text.items) c.args.start.now given planned c.deref.result.now c.in-Ok.image (length c.args.listings.now)
    c.in-Err-read_plan.fault c.in_file.result (c.in-Ok.ensures given known) (same_length g.R.Read.remaining c.args.listings.now given known) whole c.in-Err-read_plan.ensures c.in_file.ensures

pub returns-in-Ok-Some : goal.returns-in-Ok-Some
returns-in-Ok-Some g c given planned known there =
    let whole = subst (λ (bs : List ℕ). sized (length c.args.listings.now) planned ≡ Ok bs) (sym c.deref.ensures.value) (c.in-Ok-read_file.ensures planned there) in
    let e : c.in-Ok-Some.field-0 ≡ Some c.in-Ok-Some.lines = (let a = c.in-Ok-Some.field-0-is in let b = c.in-Ok-Some.lines-is in cc) in
    rw c.into_bytes.ensures.value (
    text_made (λ (text : String Global). string_bytes text) c.in-Ok.image c.args.start.now given planned c.deref.result.now (schedules c.in-Ok-read_plan.plan) (length c.args.listings.now) (Some c.in-Ok-Some.lines)
    (c.in-Ok.ensures given known) whole c.in-Ok-read_plan.ensures (subst (λ (lines : Option (String Global)). TidiesBy (λ text. string_bytes text) c.in-Ok.image (entry_in c.in-Ok.image c.args.start.now) (schedules c.in-Ok-read_plan.plan) (Ok lines)) e c.in-Ok-Some.ensures)
    )

pub returns-in-Ok-None : goal.returns-in-Ok-None
returns-in-Ok-None g c given planned known there =
    let whole = subst (λ (bs : List ℕ). sized (length c.args.listings.now) planned ≡ Ok bs) (sym c.deref.ensures.value) (c.in-Ok-read_file.ensures planned there) in
    let e : c.in-Ok-None.field-0 ≡ None = c.in-Ok-None.field-0-is in
    subst (IsTidyOf c.args.start.now given planned) (sym (sized_is (length c.args.listings.now) planned c.in-Ok-read_file.planned.items (c.in-Ok-read_file.ensures planned there)))
    (text_made (λ (text : String Global). string_bytes text) c.in-Ok.image c.args.start.now given planned c.deref.result.now (schedules c.in-Ok-read_plan.plan) (length c.args.listings.now) None
    (c.in-Ok.ensures given known) whole c.in-Ok-read_plan.ensures (subst (λ (lines : Option (String Global)). TidiesBy (λ text. string_bytes text) c.in-Ok.image (entry_in c.in-Ok.image c.args.start.now) (schedules c.in-Ok-read_plan.plan) (Ok lines)) e c.in-Ok-None.ensures))

pub returns : goal.returns
returns g c given planned known there =
    let whole = subst (λ (bs : List ℕ). sized (length c.args.listings.now) planned ≡ Ok bs) (sym c.deref.ensures.value) (c.in-Ok-read_file.ensures planned there) in
    text_refused (λ (text : String Global). string_bytes text) (λ (text : Vec ℕ Global). text.items) c.in-Ok.image c.args.start.now given planned c.deref.result.now (schedules c.in-Ok-read_plan.plan) (length c.args.listings.now) c.in-Err-tidied_plan.fault (ClearUpTo given)
    (c.in-Ok.ensures given known) whole c.in-Ok-read_plan.ensures c.in-Err-tidied_plan.ensures
