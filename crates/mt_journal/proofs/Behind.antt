-- A group that is written behind its gate.
use Rattle.std.proofs.Common.{◌≡◌, ℕ, ◌+◌, ◌^◌, ◌<◌, List, [], ◌∷◌, length, sym, ap, ◌∙◌, subst, arith}
use Rattle.byteorder.specs.Endian.{little_bytes}
use Rattle.mt_machine.specs.declared.machine.Area.TheVariants.{Log}
use Rattle.mt_machine.specs.Meaning.{Disk}
use Rattle.mt_machine.specs.Calls.{Stand, Torn}
use Rattle.mt_journal.specs.Steps.{IsBehind}
use Rattle.mt_journal.proofs.Chains.{number_same}
use Rattle.mt_journal.proofs.Numbers.{number_stands}

-- the length, the payload and the next gate, written one after another
pub behind_stands : (at : ℕ) (payload bytes : List ℕ) (one two three : Disk) → bytes ≡ little_bytes 8 (length payload) → length payload < 2 ^ 64 → Stand one Log (at + 1) bytes
    → Torn Log (at + 9) (length payload) one two → Stand two Log (at + 9) payload → Torn Log (at + 9 + length payload) 1 two three → Stand three Log (at + 9 + length payload) (0 ∷ [])
    → IsBehind (three Log) at payload
behind_stands at payload bytes one two three spelled small first torn second torn_next third =
    let first_bytes = subst (λ (l : List ℕ). Stand one Log (at + 1) l) spelled first in
    let number = number_stands 8 (one Log) (at + 1) (length payload) small first_bytes in
    let kept : (k : ℕ) → k < at + 9 → three Log k ≡ one Log k = λ k h. torn_next.before k (omega arith) ∙ torn.before k h in
    let gate : at + 9 + length payload + 0 ≡ at + 9 + length payload = omega arith in
    record {
      size = number_same 8 (one Log) (three Log) (at + 1) (λ k h. kept k (omega arith)) ∙ number;
      payload_stands = λ k h. torn_next.before (at + 9 + k) (omega arith) ∙ second k h;
      next = ap (three Log) (sym gate) ∙ third 0 (omega arith);
    }
