-- One change after another.
use Rattle.std.proofs.Common.{◌+◌, ◌≤◌, ◌^◌, slice_index_or, take, drop, All, sym, subst, rules}
use Rattle.mt_physplan.specs.declared.change.Change.{Change}
use Rattle.mt_directory.specs.Known.{known_in}
use Rattle.mt_places.specs.Held.{state_of}
use Rattle.mt_places.specs.Places.{PlacesState}
use Rattle.mt_places.proofs.Pages.{table-within}
use Rattle.mt_places.specs.Named.{table_of}
use Rattle.mt_staging.specs.Group.{IsAsked}
use Rattle.mt_staging.specs.States.{group_of}
use Rattle.mt_chunkstore.specs.Changes.{IsSuited, free_at_start}
use Rattle.mt_chunkstore.proofs.Refused.{none_refused}
use Rattle.mt_chunkstore.proofs.Taken.{all_at, chosen_more, chosen_none, parted, taken_more}
use Rattle.mt_chunkstore.proofs.stage.choose.Goals as goal

pub loop-i-init : goal.loop-i-init
loop-i-init c =
    let group = group_of c.in_ok-group.group in
    let upto : c.args.pages.now ≤ 2 ^ 28 = subst (λ k. k ≤ 2 ^ 28) c.count.ensures.count c.count.ensures.few in
    record {
      asked = subst (λ (places : PlacesState). All (λ change. IsAsked change places) c.args.changes.now) (sym c.in_ok-group.ensures.places_are) c.requires.asked;
      chosen = chosen_none (known_in c.args.layouts.now) c.args.pages.now (state_of c.args.places) group c.in_ok-group.ensures upto;
    }

pub add-requires-clause-suited : goal.add-requires-clause-suited
add-requires-clause-suited c = all_at (IsSuited (known_in c.args.layouts.now)) c.args.changes.now c.loop-i.i c.get.result.now c.requires.suited c.get.ensures

pub add-requires-clause-asked : goal.add-requires-clause-asked
add-requires-clause-asked c = all_at (λ (change : Change). IsAsked change (group_of c.loop-i.group).places) c.args.changes.now c.loop-i.i c.get.result.now c.loop-i.invariant.asked c.get.ensures

pub returns-in_err-add-clause-disk : goal.returns-in_err-add-clause-disk
returns-in_err-add-clause-disk c = λ disk area begins may.
    let known = known_in c.args.layouts.now in
    let changes = c.args.changes.now in
    let i = c.loop-i.i in
    let change = c.get.result.now in
    let suited : IsSuited known change = all_at (IsSuited known) changes i change c.requires.suited c.get.ensures in
    let group = c.loop-i.invariant.chosen.chosen area (free_at_start known changes c.args.pages.now area) begins in
    none_refused known c.args.pages.now area changes (take i changes) change (drop (i + 1) changes) (group_of c.loop-i.group) (parted changes i change c.get.ensures) group may
    (table-within known (table_of change) suited.layout suited.is_known)
    (c.in_err-add.ensures.disk (search rules) area (free_at_start known changes c.args.pages.now area) (take i changes) group)

pub loop-i-preserved : goal.loop-i-preserved
loop-i-preserved c =
    let known = known_in c.args.layouts.now in
    let changes = c.args.changes.now in
    let i = c.loop-i.i in
    let change = c.get.result.now in
    let ok = c.in_ok-add.ensures in
    record {
      asked = λ k d within. ok.asked (slice_index_or changes k d) (c.loop-i.invariant.asked k d within);
      chosen = chosen_more known c.args.pages.now (state_of c.args.places) (group_of c.loop-i.group) (group_of c.add.new.group) (take i changes) (take (i + 1) changes) change c.loop-i.invariant.chosen
          (taken_more changes i change c.get.ensures) ok.few ok.small ok.pages ok.ok;
    }
