-- The numbers in the bytes are those of the pages.
use Rattle.std.proofs.Common.{rules, ◌≡◌, ℕ, ◌≤◌, take, drop, refl, sym, ap, subst, ◌∙◌, arith}
use Rattle.std.proofs.lemmas.Bool.Decides.{nat_tests}
use Rattle.byteorder.specs.Endian.{little_number}
use Rattle.mt_pages.proofs.Said.{control_count, control_front, control_said, control_version}
use Rattle.mt_pages.proofs.control.counted.Goals as goal
use Rattle.mt_pages.proofs.control.counted.Goals.{else-has_magic-via-then-has_magic+then-version-eq-VERSION+else-is_count, else-has_magic-via-then-has_magic+else-version-eq-VERSION, else-has_magic-via-else-has_magic}

pub returns-then-is_count-clause-some : goal.returns-then-is_count-clause-some
returns-then-is_count-clause-some c = λ pages stand.
    let one : c.version.result ≡ 1 = grind (arith, nat_tests, c.if-version-eq-VERSION.true) in
    control_said pages c.args.bytes.now stand c.told-bytes c.version.result c.number-count.result (c.has_magic.ensures.0 c.if-has_magic.true) c.version.ensures one c.number-count.ensures (c.is_count.ensures.0 c.if-is_count.true).0 (c.is_count.ensures.0 c.if-is_count.true).1

pub returns-else-has_magic-clause-none : goal.returns-else-has_magic-clause-none
returns-else-has_magic-clause-none c = λ pages stand control. elim c.else-has_magic.branch [
  | else-has_magic-via-then-has_magic+then-version-eq-VERSION+else-is_count w ↦
      let n = control_count pages c.args.bytes.now stand c.told-bytes control in
      let e : c.number-count.result ≡ little_number 8 (drop 12 c.args.bytes.now) = c.number-count.ensures in
      let h = w.if-is_count.ensures.1 (subst (λ k. 1 ≤ k) (sym e) n.0, subst (λ k. k ≤ 268435456) (sym e) n.1) in cc
  | else-has_magic-via-then-has_magic+else-version-eq-VERSION w ↦
      let one : w.version.result ≡ 1 = w.version.ensures ∙ control_version pages c.args.bytes.now stand c.told-bytes control in
      w.if-version-eq-VERSION.false one
  | else-has_magic-via-else-has_magic w ↦ let h = w.if-has_magic.ensures.1 (control_front pages c.args.bytes.now stand c.told-bytes control) in cc
]
