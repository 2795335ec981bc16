-- A plan's text behind listings that load is told of as the definitions say.
use Rattle.std.proofs.Common.{◌≡◌, ◌∙◌, inr, ℕ, List, length, Result, Ok, Err, refl, sym, ap, subst}
use Rattle.std.specs.Prelude.{IsOk}
use Rattle.bx_terms.specs.declared.faults.Fault.TheVariants.{Memory}
use Rattle.bx_load.specs.Image.{Loaded}
use Rattle.bx_engine.specs.Campaigns.{campaign_behind, told_of}
use Rattle.bx_engine.specs.Loads.{ClearUpTo, image_of}
use Rattle.bx_engine.specs.Runs.{Names}
use Rattle.bx_engine.specs.Units.{◌>>=◌, FileGives, FilesGive}
use Rattle.bx_engine.specs.declared.failures.Failure.{Failure, TheVariants.Refused, TheVariants.Read, TheVariants.Write, TheVariants.Start}
use Rattle.bx_engine.specs.declared.forms.Form.{Form}

pub behind_image : {X : Type 0} (view : X → List ℕ) (form : Form) (workers n : ℕ) (image : Loaded) (names : Names) (given : List (List ℕ)) (planned : List ℕ) (result : Result X Failure)
    → image_of given ≡ Ok image → n ≡ length given → FileGives view n result (told_of form workers n image names planned)
    → FilesGive view result (ClearUpTo given) (campaign_behind form workers names given planned)
behind_image {X} view form workers n image names given planned result loaded last h = one result h where
  all : told_of form workers n image names planned ≡ campaign_behind form workers names given planned
  all = ap (λ m. told_of form workers m image names planned) last ∙ sym (ap (λ (r : Result Loaded Failure). r >>= λ i. told_of form workers (length given) i names planned) loaded)

  one : (result : Result X Failure) → FileGives view n result (told_of form workers n image names planned) → FilesGive view result (ClearUpTo given) (campaign_behind form workers names given planned)
  one (Ok x) h = sym all ∙ h
  one (Err (Refused Memory file)) h = h
  one (Err (Refused fault file)) h = sym all ∙ h
  one (Err (Read file)) h = inr (h ∙ last, subst IsOk (sym loaded) refl)
  one (Err Write) h = absurd h
  one (Err Start) h = absurd h
