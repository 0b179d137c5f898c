use Rattle.std.proofs.Common.{◌≡◌, ℕ, List, ◌++◌, ap, sym, ◌∙◌, append_assoc}
use Rattle.byteorder.specs.Endian.{little_bytes}
use Rattle.mt_journal.proofs.body.append_range.Goals as goal

-- three pieces behind another, joined from the left or from the right
three_pieces : (front one two three : List ℕ) → ((front ++ one) ++ two) ++ three ≡ front ++ ((one ++ two) ++ three)
three_pieces front one two three =
    append_assoc (front ++ one) two three ∙ append_assoc front one (two ++ three) ∙ ap (λ (l : List ℕ). front ++ l) (sym (append_assoc one two three))

pub returns-clause-ok : goal.returns-clause-ok
returns-clause-ok c =
    let front = c.args.payload.now.items in
    let bytes = c.args.bytes.now in
    c.in_ok-extend_from_slice-3.ensures.items
    ∙ ap (λ (l : List ℕ). l ++ bytes) (c.in_ok-extend_from_slice-2.ensures.items
    ∙ ap (λ (l : List ℕ). l ++ c.write_u32.new.buf) (c.in_ok-extend_from_slice.ensures.items ∙ ap (λ (l : List ℕ). l ++ c.write_u64.new.buf) c.reserve.ensures.items))
    ∙ three_pieces front c.write_u64.new.buf c.write_u32.new.buf bytes
    ∙ ap (λ (l : List ℕ). front ++ ((l ++ c.write_u32.new.buf) ++ bytes)) c.write_u64.ensures
    ∙ ap (λ (l : List ℕ). front ++ l) (ap (λ (l : List ℕ). (little_bytes 8 c.args.at ++ l) ++ bytes) c.write_u32.ensures)
