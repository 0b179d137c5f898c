-- Blank, or counted.
use Rattle.std.proofs.Common.{◌≡◌, ℕ, List, Option, Some, None, inl, inr}
use Rattle.std.specs.Prelude.{IfSome, IfNone}
use Rattle.mt_journal.specs.Layout.{Area, StandAt}
use Rattle.mt_tables.specs.Pages.{page_count}
use Rattle.mt_pages.specs.Control.{IsControl, IsPageZero}
use Rattle.mt_pages.proofs.Said.{blank_read, blank_said}
use Rattle.mt_pages.proofs.control.count_in.Goals as goal

pub returns-then-is_blank-clause-some : goal.returns-then-is_blank-clause-some
returns-then-is_blank-clause-some c = λ pages stand. blank_said pages c.args.bytes.now stand c.told-bytes (c.is_blank.ensures.0 c.if-is_blank.true)

said : (bytes : List ℕ) (found : Option ℕ) → IfSome found (λ count. (pages : Area) → StandAt pages 0 bytes → IsControl pages × (page_count pages ≡ count))
    → IfSome found (λ count. (pages : Area) → StandAt pages 0 bytes → IsPageZero pages × (page_count pages ≡ count))
said bytes None h = tt
said bytes (Some count) h = λ pages stand. let s = h pages stand in (inr s.0, s.1)

pub returns-clause-some : goal.returns-clause-some
returns-clause-some c = said c.args.bytes.now c.counted.result c.counted.ensures.some

unsaid : (bytes : List ℕ) (found : Option ℕ) → ((pages : Area) → StandAt pages 0 bytes → IsPageZero pages → IsControl pages) → IfNone found ((pages : Area) → StandAt pages 0 bytes → IsControl pages → ⊥)
    → IfNone found ((pages : Area) → StandAt pages 0 bytes → IsPageZero pages → ⊥)
unsaid bytes None not_blank h = λ pages stand zero. h pages stand (not_blank pages stand zero)
unsaid bytes (Some count) not_blank h = tt

pub returns-clause-none : goal.returns-clause-none
returns-clause-none c = unsaid c.args.bytes.now c.counted.result
    (λ pages stand zero. elim zero [ inl blank ↦ (let h = c.if-is_blank.ensures.1 (blank_read pages c.args.bytes.now stand c.told-bytes blank) in cc) | inr control ↦ control ]) c.counted.ensures.none
