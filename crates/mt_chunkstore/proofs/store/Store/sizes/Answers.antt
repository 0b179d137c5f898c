-- A table that passes is one size more.
use Rattle.std.proofs.Common.{◌≡◌, ◌-◌, ◌∷◌, ◌++◌, [], map, filter, sym, ap, ◌∙◌, arith}
use Rattle.std.specs.List.{range_with_len}
use Rattle.mt_chunkstore.specs.Standing.{has_size, size_in}
use Rattle.mt_chunkstore.proofs.InUse.{picked_no, picked_yes}
use Rattle.mt_chunkstore.proofs.store.Store.sizes.Goals as goal
use Rattle.mt_chunkstore.proofs.store.Store.sizes.Goals.{then-has_size+in_ok-push, else-has_size}

pub loop-table-preserved : goal.loop-table-preserved
loop-table-preserved c =
    let store = c.args.self.now in
    let table = c.loop-table.table in
    elim c.if-has_size.branch [
      | then-has_size+in_ok-push w ↦
          let more = picked_yes (size_in store) (has_size store) table c.loop-table.auto.table (sym c.has_size.ensures ∙ w.if-has_size.true) in
          w.sizes-is ∙ w.in_ok-push.ensures.ok ∙ ap (λ size. c.loop-table.sizes ++ size ∷ []) w.size.ensures ∙ ap (λ sizes. sizes ++ size_in store table ∷ []) c.loop-table.invariant ∙ sym more
      | else-has_size w ↦
          let more = picked_no (size_in store) (has_size store) table c.loop-table.auto.table (sym c.has_size.ensures ∙ w.if-has_size.false) in
          w.sizes-is ∙ c.loop-table.invariant ∙ sym more
    ]

pub returns : goal.returns
returns c =
    let store = c.args.self.now in
    let all : c.loop-table.table ≡ 32 = (let test = c.loop-table-test.false in let end = c.loop-table.auto.table-end in omega arith) in
    c.loop-table.invariant ∙ ap (λ table. map (size_in store) (filter (has_size store) (range_with_len 1 (table - 1)))) all
