use Rattle.std.proofs.Common.{rules, ◌<◌, ◌≤◌, ◌+◌, ◌∙◌, List, subst, sym, ap, length}
use Rattle.bx_listing.specs.Code.{Code}
use Rattle.bx_listing.specs.Reading.{Table}
use Rattle.bx_engine.proofs.FileRows.{next_file, so_far_next, sources_next, first_fault, clear_here, failed_files, all_files, all_sources, left_after, SoFar}
use Rattle.bx_engine.proofs.units.units_of.Goals as goal

pub returns-in-Err-clause-read : goal.returns-in-Err-clause-read
returns-in-Err-clause-read g c given known =
    let short : c.loop-file.file < length c.loop-file.listings = search rules in
    let so_far = c.loop-file.invariant.so_far given known in
    let next = next_file g.R.Read.remaining c.args.listings.now c.loop-file.listings c.loop-file.file c.index-listings-file.result given known c.loop-file.invariant.rest short c.index-listings-file.is in
    failed_files {X = Table × Code} {Y = Table × List Code} (λ u. u) (λ u. u) c.loop-file.file c.in-Err.failure _ _ _ (c.in-Err.ensures.read next.text (ap g.R.Read.remaining (sym c.index-listings-file.is) ∙ next.known))
    (first_fault g.R.Read.remaining c.index-listings-file.result c.args.atoms.now c.loop-file.file given c.loop-file.atoms c.loop-file.units.items c.in-Err.failure so_far next)
    (clear_here g.R.Read.remaining c.args.listings.now c.loop-file.listings c.args.atoms.now c.loop-file.file given c.loop-file.atoms c.loop-file.units.items known c.loop-file.auto.listings short so_far)

pub loop-file-preserved : goal.loop-file-preserved
loop-file-preserved g c =
    let short : c.loop-file.file < length c.loop-file.listings = search rules in
    let rem = g.R.Read.remaining in
    record {
      so_far = λ given known.
          let next = next_file rem c.args.listings.now c.loop-file.listings c.loop-file.file c.index-listings-file.result given known c.loop-file.invariant.rest short c.index-listings-file.is in
          subst (λ units. SoFar c.args.atoms.now (c.loop-file.file + 1) given c.read_unit.new.atoms units) (sym c.in_ok-keep-in-Ok.ensures.unit)
          (so_far_next rem c.index-listings-file.result c.args.atoms.now c.loop-file.file given c.loop-file.atoms c.read_unit.new.atoms c.loop-file.units.items c.in-Ok.read.0
          (c.loop-file.invariant.so_far given known) next (c.in-Ok.ensures.read next.text (ap rem (sym c.index-listings-file.is) ∙ next.known)));
      located = λ asked given known.
          let next = next_file rem c.args.listings.now c.loop-file.listings c.loop-file.file c.index-listings-file.result given known c.loop-file.invariant.rest short c.index-listings-file.is in
          sources_next rem c.index-listings-file.result c.loop-file.file given c.loop-file.sources _ c.in-Ok.read.1.items
          (c.loop-file.invariant.located asked given known) next (c.in-Ok.ensures.located asked next.text (ap rem (sym c.index-listings-file.is) ∙ next.known)) c.in_ok-keep-in-Ok.ensures.located;
      rest = left_after c.args.listings.now c.loop-file.listings c.loop-file.file c.read_unit.new.listing c.loop-file.invariant.rest;
    }

pub returns-clause-read : goal.returns-clause-read
returns-clause-read g c given known =
    let long : length c.args.listings.now ≤ c.loop-file.file = search rules in
    all_files g.R.Read.remaining c.args.listings.now c.args.atoms.now c.loop-file.file given c.loop-file.atoms c.loop-file.units.items known long (c.loop-file.invariant.so_far given known)

pub returns-clause-located : goal.returns-clause-located
returns-clause-located g c asked given known =
    let long : length c.args.listings.now ≤ c.loop-file.file = search rules in
    all_sources g.R.Read.remaining c.args.listings.now c.loop-file.file given c.loop-file.sources known long (c.loop-file.invariant.located asked given known)
