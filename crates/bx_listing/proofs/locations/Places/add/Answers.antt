use Rattle.bx_listing.proofs.Known.{[], ◌∷◌, ◌++◌, ap, ◌∙◌, map, string_bytes, err_from_is_err_and}
use Rattle.bx_listing.proofs.Places.{marks_kept, marks_more, place_added}
use Rattle.bx_listing.proofs.locations.Places.add.Goals as goal

pub returns-in_err-file-clause-kept : goal.returns-in_err-file-clause-kept
returns-in_err-file-clause-kept c =
    let p = err_from_is_err_and c.from_residual.result c.from_residual.ensures.1 in
    rw p.1 (marks_kept (map string_bytes c.self.inside.files.items) (map string_bytes c.number_of.new.files.items) c.self.inside.marks.items c.self.invariant c.in_err-file.ensures.kept ∙ c.self.view_is)

pub returns-in_err-push-clause-kept : goal.returns-in_err-push-clause-kept
returns-in_err-push-clause-kept c =
    let p = err_from_is_err_and c.from_residual-in_err-push.result c.from_residual-in_err-push.ensures.1 in
    rw (p.1, c.in_err-push.ensures.items) (marks_kept (map string_bytes c.self.inside.files.items) (map string_bytes c.number_of.new.files.items) c.self.inside.marks.items c.self.invariant c.in_ok-file.ensures.kept ∙ c.self.view_is)

pub invariant_of-self-2 : goal.invariant_of-self-2
invariant_of-self-2 c =
    marks_more (map string_bytes c.self.inside.files.items) (map string_bytes c.number_of.new.files.items) (string_bytes c.args.file) c.self.inside.marks.items c.push.new.self.items c.in_ok-file.file c.args.line
    c.self.invariant c.in_ok-file.ensures.kept c.in_ok-file.ensures.named c.in_ok-push.ensures.items

pub returns-clause-added : goal.returns-clause-added
returns-clause-added c =
    place_added (map string_bytes c.self.inside.files.items) (map string_bytes c.number_of.new.files.items) (string_bytes c.args.file) c.self.inside.marks.items c.push.new.self.items c.in_ok-file.file c.args.line
    c.self.invariant c.in_ok-file.ensures.kept c.in_ok-file.ensures.named c.in_ok-push.ensures.items
    ∙ ap (λ places. places ++ (string_bytes c.args.file, c.args.line) ∷ []) c.self.view_is
