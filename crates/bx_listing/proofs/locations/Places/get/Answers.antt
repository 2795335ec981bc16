use Rattle.bx_listing.proofs.Known.{◌≡◌, ◌<◌, suc, Some, length, arith, ◌∙◌, ap, sym, refl, slice_get, slice_get_read}
use Rattle.bx_listing.proofs.Places.{place_found}
use Rattle.bx_listing.specs.Marks.{place}
use Rattle.bx_listing.proofs.locations.Places.get.Goals as goal

pub returns : goal.returns
returns c =
    let marks = c.self.inside.marks.items in
    let at = c.in_ok-at.at in
    let read = c.in_ok-mark.ensures.lookup in
    let here : at < length marks = rw c.deref.ensures.value at read.3.0 in
    let mark : slice_get marks at ≡ Some c.in_ok-mark.mark.now = slice_get_read marks (length marks) at c.in_ok-mark.mark.now refl here (rw c.deref.ensures.value at read.1) in
    let files = c.self.inside.files.items in
    let file = c.in_ok-mark.mark.now.file in
    let name = c.in_ok-file.ensures.lookup in
    let there : file < length files = rw c.deref-2.ensures.value at name.3.0 in
    let named : slice_get files file ≡ Some c.in_ok-file.file.now = slice_get_read files (length files) file c.in_ok-file.file.now refl there (rw c.deref-2.ensures.value at name.1) in
    let found = place_found files marks at c.in_ok-mark.mark.now c.in_ok-file.file.now mark named in
    let number : c.args.number ≡ suc at = omega arith in
    rw (c.as_str.ensures.value, number) (sym found ∙ ap (λ places. place places (suc at)) c.self.view_is)
