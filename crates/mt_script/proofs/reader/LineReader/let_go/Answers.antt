use Rattle.std.proofs.Common.{◌+◌, ◌≤◌, sym, ◌∙◌, ap, refl, arith}
use Rattle.mt_script.specs.Lines.{line_of}
use Rattle.mt_script.proofs.Parts.{slice_front, slice_behind, length-slice, lent_line}
use Rattle.mt_script.proofs.reader.LineReader.let_go.Goals as goal

pub returns-in-Some : goal.returns-in-Some
returns-in-Some c =
    let at = c.self.inside in
    let kept = rw (← c.self.view_is) at c.requires.within in
    let used : at.from + c.args.used ≤ at.upto = omega (arith, kept, length-slice at.buffer.items at.from at.upto c.self.invariant.within) in
    rw (← c.self.view_is) (record {
      given = lent_line at.buffer.items at.from at.upto c.args.size c.in-Some.end (omega arith) c.self.invariant.within (rw c.deref.ensures.value at c.in-Some.ensures);
      held = slice_behind at.buffer.items at.from at.upto c.args.used used;
      budget = refl;
      ended = refl;
    })

pub returns-in-None : goal.returns-in-None
returns-in-None c =
    let at = c.self.inside in
    let kept = rw (← c.self.view_is) at c.requires.within in
    let used : at.from + c.args.used ≤ at.upto = omega (arith, kept, length-slice at.buffer.items at.from at.upto c.self.invariant.within) in
    rw (← c.self.view_is) (record {
      given = ap line_of (sym (slice_front at.buffer.items at.from at.upto c.args.size (omega arith))) ∙ (rw c.deref.ensures.value at c.in-None.ensures);
      held = slice_behind at.buffer.items at.from at.upto c.args.used used;
      budget = refl;
      ended = refl;
    })
