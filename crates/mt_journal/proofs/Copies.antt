-- A range that is copied piece by piece.
use Rattle.std.proofs.Common.{◌≡◌, ℕ, ◌+◌, ◌-◌, IsTrue, sym, ap, ◌∙◌, arith, ⊎_elim}
use Rattle.std.proofs.lemmas.Bool.{cases_lt}
use Rattle.mt_machine.specs.declared.machine.Area.TheVariants.{Log, Pages}
use Rattle.mt_machine.specs.Meaning.{Disk, Meaning}
use Rattle.mt_machine.specs.Calls.{Torn}
use Rattle.mt_journal.specs.Steps.{Changes, IsCopied}

-- one piece more
disks_copied : (old mid new : Disk) (from to count done n : ℕ) → Torn Pages to count old mid → IsCopied from to done old mid → Torn Pages (to + done) n mid new
    → IsCopied (from + done) (to + done) n mid new → IsCopied from to (done + n) old new
disks_copied old mid new from to count done n earlier copied torn piece k h =
    ⊎_elim
    (λ below. torn.before (to + k) (omega arith) ∙ copied k below)
    (λ above.
    let here : to + done + (k - done) ≡ to + k = omega arith in
    let there : from + done + (k - done) ≡ from + k = omega arith in
    ap (new Pages) (sym here) ∙ piece (k - done) (omega arith) ∙ ap (mid Log) there ∙ ap (λ (log : ℕ → ℕ). log (from + k)) (earlier.other Log (λ e. cc)))
    (cases_lt k done)

pub copied_more : (old mid new : Meaning) (from to count done n : ℕ) → Changes Pages to count old mid → (IsTrue mid.tells → IsCopied from to done old.content mid.content)
    → Changes Pages (to + done) n mid new → (IsTrue new.tells → IsCopied (from + done) (to + done) n mid.content new.content)
    → IsTrue new.tells → IsCopied from to (done + n) old.content new.content
copied_more old mid new from to count done n earlier copied change piece t =
    let told = change.leaves.told t in
    disks_copied old.content mid.content new.content from to count done n (earlier.content told) (copied told) (change.content t) (piece t)
