use Rattle.std.proofs.Common.{◌≡◌, ℕ, ◌+◌, ◌-◌, ◌^◌, ◌<◌, ◌∷◌, [], ◌++◌, List, length, drop, ap, ◌∙◌, arith, length-append}
use Rattle.byteorder.specs.Endian.{little_bytes}
use Rattle.mt_journal.specs.Layout.{Range}
use Rattle.mt_journal.specs.Spelling.{Fits, spelling_of_range, ranges_of, IsSpelled}
use Rattle.mt_journal.proofs.Spelled.{push_spelled}
use Rattle.mt_journal.proofs.body.Body.push.Goals as goal

-- the new payload and the new starts
pushed : (c : goal.After-set_count) → IsSpelled c.set_count.new.payload.items c.push_reserved.new.self.items
    × (ranges_of c.set_count.new.payload.items c.push_reserved.new.self.items ≡ ranges_of c.self.inside.payload.items c.self.inside.starts.items ++ record { position = c.args.at; bytes = c.args.bytes.now } ∷ [])
pushed c =
    let range : Range = record { position = c.args.at; bytes = c.args.bytes.now } in
    let fits : Fits range = record { within = c.requires.within; short = c.requires.short } in
    let starts : c.push_reserved.new.self.items ≡ c.self.inside.starts.items ++ length c.self.inside.payload.items ∷ [] =
    c.push_reserved.ensures.items ∙ ap (λ (l : List ℕ). l ++ c.len-start.result ∷ []) c.reserve.ensures.items ∙ ap (λ (n : ℕ). c.self.inside.starts.items ++ n ∷ []) (c.len-start.ensures ∙ c.self.inside.payload.ok.0) in
    let count : c.len.result ≡ length c.self.inside.starts.items + 1 = omega (arith, ap length starts, length-append c.self.inside.starts.items (length c.self.inside.payload.items ∷ []), c.len.ensures ∙ c.push_reserved.new.self.ok.0) in
    let payload : c.set_count.new.payload.items ≡ little_bytes 4 (length c.self.inside.starts.items + 1) ++ drop 4 (c.self.inside.payload.items ++ spelling_of_range range) =
    c.set_count.ensures ∙ ap (λ (n : ℕ). little_bytes 4 n ++ drop 4 c.append_range.new.payload.items) count
    ∙ ap (λ (l : List ℕ). little_bytes 4 (length c.self.inside.starts.items + 1) ++ drop 4 l) c.in_ok-append_range.ensures.ok in
    let room : length (ranges_of c.self.inside.payload.items c.self.inside.starts.items) < 2 ^ 32 - 1 = omega (arith, ap length c.self.view_is, c.requires.room) in
    push_spelled c.self.inside.payload.items c.self.inside.starts.items _ _ range c.self.invariant fits room payload starts

pub invariant_of-self-2 : goal.invariant_of-self-2
invariant_of-self-2 c = (pushed c).0

pub returns-clause-ok : goal.returns-clause-ok
returns-clause-ok c = (pushed c).1 ∙ ap (λ (ranges : List Range). ranges ++ record { position = c.args.at; bytes = c.args.bytes.now } ∷ []) c.self.view_is
