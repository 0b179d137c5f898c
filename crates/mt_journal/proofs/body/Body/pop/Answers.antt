-- What is left spells the ranges but the last.
use Rattle.std.proofs.Common.{◌≡◌, ℕ, ◌≤◌, ◌++◌, ◌∷◌, [], List, length, take, drop, vec_len, sym, ap, ◌∙◌, arith}
use Rattle.byteorder.specs.Endian.{little_bytes}
use Rattle.mt_journal.specs.Layout.{Range}
use Rattle.mt_journal.specs.Spelling.{IsSpelled, ranges_of, range_from}
use Rattle.mt_journal.proofs.Spelled.{pop_spelled, start_bounds}
use Rattle.mt_journal.proofs.body.Body.pop.Goals as goal

pub set_count-requires : goal.set_count-requires
set_count-requires c =
    let bounds = start_bounds c.self.inside.payload.items c.self.inside.starts.items c.pop.new.self.items [] c.in-Some.start c.self.invariant c.in-Some.ensures.items in
    let long = c.self.inside.payload.ok.0 in
    omega (arith, bounds.0, bounds.1, long, c.truncate.ensures.len)

-- the new payload and the new starts
popped : (c : goal.After-set_count) → IsSpelled c.set_count.new.payload.items c.pop.new.self.items
    × (ranges_of c.self.inside.payload.items c.self.inside.starts.items ≡ ranges_of c.set_count.new.payload.items c.pop.new.self.items ++ range_from c.self.inside.payload.items c.in-Some.start ∷ [])
popped c =
    let count : c.len.result ≡ length c.pop.new.self.items = c.len.ensures ∙ c.pop.new.self.ok.0 in
    pop_spelled c.self.inside.payload.items c.self.inside.starts.items c.pop.new.self.items c.set_count.new.payload.items c.in-Some.start c.self.invariant c.in-Some.ensures.items
    (c.set_count.ensures ∙ ap (λ (n : ℕ). little_bytes 4 n ++ drop 4 c.truncate.new.self.items) count ∙ ap (λ (l : List ℕ). little_bytes 4 (length c.pop.new.self.items) ++ drop 4 l) c.truncate.ensures.items)

pub invariant_of-self : goal.invariant_of-self
invariant_of-self c = (popped c).0

pub returns : goal.returns
returns c = (range_from c.self.inside.payload.items c.in-Some.start, sym c.self.view_is ∙ (popped c).1)
