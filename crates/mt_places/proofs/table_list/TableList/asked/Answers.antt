use Rattle.std.proofs.Common.{◌&&◌, ◌∙◌, arith}
use Rattle.std.proofs.lemmas.List.Sums.{count_by-le-length}
use Rattle.mt_physplan.specs.declared.change.Change.{Change}
use Rattle.mt_places.specs.Held.{table_in}
use Rattle.mt_places.specs.Named.{is_of, is_put, table_of}
use Rattle.mt_places.proofs.Begun.{free-next, left-over, named-next, wanted-next}
use Rattle.mt_places.proofs.table_list.TableList.asked.Goals as goal

pub note-requires : goal.note-requires
note-requires c =
    let t = table_of c.change-item.result in
    let all = count_by-le-length (λ (change : Change). is_put change && is_of t change) c.args.changes.now in
    let some = c.loop-change.invariant.wanted t in
    omega arith

pub loop-change-preserved : goal.loop-change-preserved
loop-change-preserved c =
    let changes = c.args.changes.now in
    let i = c.loop-change.change-index in
    let change = c.change-item.result in
    let left = left-over changes i change c.loop-change-test.true c.change-item.is in
    let before = c.loop-change.invariant in
    let old = table_in c.loop-change.tables in
    let new = table_in c.note.new.self in
    record {
      named = λ t. named-next changes i change (old t) (new t) t (c.in_ok-note.ensures t) left ∙ before.named t;
      wanted = λ t. wanted-next changes i change (old t) (new t) t (c.in_ok-note.ensures t) left ∙ before.wanted t;
      free = λ t. free-next changes i change (old t) (new t) t (c.in_ok-note.ensures t) ∙ before.free t;
    }
