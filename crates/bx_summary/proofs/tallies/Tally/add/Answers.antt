use Rattle.std.proofs.Common.{◌∙◌, arith, map, refl, string_bytes}
use Rattle.std.proofs.lemmas.Map.Text.{btree_map_updates_text}
use Rattle.std.specs.BTreeMap.{get_by_text}
use Rattle.bx_summary.specs.Tallied.{outcomes_of, shared_view}
use Rattle.bx_summary.proofs.Tallying.{again, found, new_outcome, room, stands_again, stands_new, within}
use Rattle.bx_summary.proofs.tallies.Tally.add.Goals as goal

pub index_mut-requires : goal.index_mut-requires
index_mut-requires c =
    let there = within c.args.atoms.now c.args.one.now c.args.self.now c.requires.tally c.in-Some.number
    (found c.args.atoms.now c.args.one.now c.args.self.now c.requires.tally c.as_str.result.now (string_bytes c.in_ok-ending.ending) c.get.result c.copied.result _ c.in_ok-ending.ensures c.as_str.ensures.value c.get.ensures.value c.copied.ensures c.in-Some.is) in
    omega (arith, there, c.args.self.now.outcomes.ok.0)

pub overflow_add-index_mut : goal.overflow_add-index_mut
overflow_add-index_mut c =
    let at = found c.args.atoms.now c.args.one.now c.args.self.now c.requires.tally c.as_str.result.now (string_bytes c.in_ok-ending.ending) c.get.result c.copied.result _ c.in_ok-ending.ensures c.as_str.ensures.value c.get.ensures.value c.copied.ensures c.in-Some.is in
    let few = room c.args.atoms.now c.args.one.now c.args.self.now c.requires.tally c.in-Some.number c.index_mut.result.now at c.index_mut.ensures.value in
    omega (arith, few, c.requires.room)

pub returns-in-Some-clause-one : goal.returns-in-Some-clause-one
returns-in-Some-clause-one c =
    let at = found c.args.atoms.now c.args.one.now c.args.self.now c.requires.tally c.as_str.result.now (string_bytes c.in_ok-ending.ending) c.get.result c.copied.result _ c.in_ok-ending.ensures c.as_str.ensures.value c.get.ensures.value c.copied.ensures c.in-Some.is in
    again c.args.atoms.now c.args.one.now c.args.self.now c.requires.tally c.in-Some.number c.index_mut.result.now at c.index_mut.ensures.value

pub returns-in-Some-clause-tally : goal.returns-in-Some-clause-tally
returns-in-Some-clause-tally c =
    let at = found c.args.atoms.now c.args.one.now c.args.self.now c.requires.tally c.as_str.result.now (string_bytes c.in_ok-ending.ending) c.get.result c.copied.result _ c.in_ok-ending.ensures c.as_str.ensures.value c.get.ensures.value c.copied.ensures c.in-Some.is in
    let stands = stands_again c.args.atoms.now c.args.one.now c.args.self.now c.requires.tally c.in-Some.number _ at (again c.args.atoms.now c.args.one.now c.args.self.now c.requires.tally c.in-Some.number c.index_mut.result.now at c.index_mut.ensures.value) in
    record { numbered = stands.0; few = stands.1 }

pub returns-clause-one : goal.returns-clause-one
returns-clause-one c =
    let none = found c.args.atoms.now c.args.one.now c.args.self.now c.requires.tally c.as_str.result.now (string_bytes c.in_ok-ending.ending) c.get.result c.copied.result _ c.in_ok-ending.ensures c.as_str.ensures.value c.get.ensures.value c.copied.ensures c.in_default.is in
    new_outcome c.args.atoms.now c.args.one.now c.args.self.now c.requires.tally c.push.new.self.items c.args.one none refl c.in_ok-push.ensures.items

pub returns-clause-tally : goal.returns-clause-tally
returns-clause-tally c =
    let none = found c.args.atoms.now c.args.one.now c.args.self.now c.requires.tally c.as_str.result.now (string_bytes c.in_ok-ending.ending) c.get.result c.copied.result _ c.in_ok-ending.ensures c.as_str.ensures.value c.get.ensures.value c.copied.ensures c.in_default.is in
    let are = new_outcome c.args.atoms.now c.args.one.now c.args.self.now c.requires.tally c.push.new.self.items c.args.one none refl c.in_ok-push.ensures.items in
    let sets = btree_map_updates_text (string_bytes c.in_ok-ending.ending) c.args.self.now.numbers c.insert.new.self _ c.in_ok-insert.ensures.updates in
    let stands = stands_new c.args.atoms.now c.args.one.now c.args.self.now c.requires.tally (get_by_text c.insert.new.self) c.len-number.result (string_bytes c.in_ok-ending.ending) _ none c.in_ok-ending.ensures (c.len-number.ensures ∙ c.args.self.now.outcomes.ok.0) sets are in
    record { numbered = stands.0; few = stands.1 }
