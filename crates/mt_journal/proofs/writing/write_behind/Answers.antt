use Rattle.std.proofs.Common.{◌<◌, ◌^◌, length, subst, sym, arith}
use Rattle.mt_machine.specs.declared.machine.Area.TheVariants.{Log}
use Rattle.mt_machine.specs.Meaning.{Disk}
use Rattle.mt_journal.specs.Steps.{IsBehind}
use Rattle.mt_journal.proofs.Behind.{behind_stands}
use Rattle.mt_journal.proofs.writing.write_behind.Goals as goal

pub returns-clause-stands : goal.returns-clause-stands
returns-clause-stands g c t =
    let synced = c.sync.ensures.effect in
    let third = synced.told t in
    let second = c.write-3.ensures.effect.told third in
    let first = c.write-2.ensures.effect.told second in
    let short : length c.args.payload.now < 2 ^ 64 = omega arith in
    let stands = behind_stands c.args.at c.args.payload.now c.write_u64.new.buf _ _ _ c.write_u64.ensures short (c.in_ok-write.ensures.effect.inside first)
    (c.write-2.ensures.effect.outside second) (c.in_ok-write-2.ensures.effect.inside second) (c.write-3.ensures.effect.outside third) (c.in_ok-write-3.ensures.effect.inside third) in
    subst (λ (d : Disk). IsBehind (d Log) c.args.at c.args.payload.now) (sym (synced.content t)) stands
