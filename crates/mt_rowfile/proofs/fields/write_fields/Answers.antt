use Rattle.std.proofs.Common.{ℕ, ◌+◌, ◌++◌, take, drop, get_or, sym, ap, subst, ◌∙◌, add-one}
use Rattle.std.proofs.lemmas.List.Sums.{sum_by_more}
use Rattle.mt_value.specs.declared.value.Value.{Value}
use Rattle.mt_codec.specs.declared.field.FieldKind.TheVariants.{Int}
use Rattle.mt_codec.specs.Fields.{Fits, field_bytes, width_of}
use Rattle.mt_rowfile.proofs.Writing.{fitting_at, front_more, room_for}
use Rattle.mt_rowfile.proofs.fields.write_fields.Goals as goal

pub write_part-requires-clause-fits : goal.write_part-requires-clause-fits
write_part-requires-clause-fits c =
    subst (Fits (get_or c.args.kinds.now c.loop-i.i Int)) (sym c.index-values-i.is)
    (fitting_at c.args.kinds.now c.args.values.now c.loop-i.i Int c.index-values-i.result c.requires.fit c.loop-i-test.true)

pub loop-i-preserved : goal.loop-i-preserved
loop-i-preserved c =
    let kinds = c.args.kinds.now in
    let values = c.args.values.now in
    let i : ℕ = c.loop-i.i in
    let at : ℕ = c.loop-i.at in
    let out = c.loop-i.out in
    let value = c.index-values-i.result in
    let within = c.loop-i-test.true in
    let before = c.loop-i.invariant in
    let width = width_of (get_or kinds i Int) in
    let room = room_for kinds i at Int out within before.place (before.size ∙ c.requires.width) in
    let fits = fitting_at kinds values i Int value c.requires.fit within in
    let new = c.write_part.ensures ∙ ap (λ (v : Value). (take at out ++ field_bytes (get_or kinds i Int) v) ++ drop (at + width) out) c.index-values-i.is in
    let front = front_more kinds values i at Int value out c.write_part.new.out within c.requires.same fits room before.front new in
    record {
      place = ap (λ (w : ℕ). at + w) c.width-at.ensures.value ∙ ap (λ (a : ℕ). a + width) before.place ∙ sym (sum_by_more width_of kinds i Int within);
      front = rw add-one (ap (λ (w : ℕ). take (at + w) c.write_part.new.out) c.width-at.ensures.value ∙ front);
      size = c.write_part.auto.out ∙ before.size;
    }
