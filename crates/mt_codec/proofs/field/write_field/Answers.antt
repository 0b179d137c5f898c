use Rattle.std.proofs.Common.{◌≡◌, ℕ, ◌-◌, length, drop, ap, ◌∙◌, ◌∷◌, List, FitsSigned, rules, arith, length-drop}
use Rattle.std.specs.Int.{w64, cast_unsigned}
use Rattle.std.proofs.lemmas.Int.{to_z-of_z}
use Rattle.byteorder.specs.Endian.{little_bytes}
use Rattle.mt_codec.specs.Fields.{width_of}
use Rattle.mt_codec.proofs.Writing.{put_mid-behind, all_behind, behind_set, width_for_number, width_positive}
use Rattle.mt_codec.proofs.field.write_field.Goals as goal

pub returns-in-Int : goal.returns-in-Int
returns-in-Int c =
    let out = c.args.out.now in
    let nine : length out ≡ 9 = c.requires.width ∙ width_for_number c.args.kind _ c.in-Int.number c.in-Int.is c.requires.fits in
    let fits : FitsSigned w64 c.in-Int.number = search rules in
    let bytes = little_bytes 8 (cast_unsigned w64 c.in-Int.number) in
    let behind : c.write_i64.new.buf ≡ bytes = (rw to_z-of_z at c.write_i64.ensures) ∙ all_behind out bytes 1 8 nine in
    rw c.in-Int.is (put_mid-behind out c.write_i64.new.buf 1 (omega arith) ∙ ap (λ (ys : List ℕ). 1 ∷ ys) behind)

pub returns-in-Text : goal.returns-in-Text
returns-in-Text c =
    let out = c.args.out.now in
    let same = c.as_bytes.ensures.value ∙ c.as_str.ensures in
    let positive = width_positive c.args.kind in
    let left : length (drop 1 out) - 2 - length c.in-Text.text ≡ width_of c.args.kind - 3 - length c.in-Text.text = omega (arith, length-drop 1 out, c.requires.width) in
    let behind = rw (behind_set out 1, same, left) at c.write_text.ensures in
    rw c.in-Text.is (put_mid-behind out c.write_text.new.rest 1 (omega arith) ∙ ap (λ (ys : List ℕ). 1 ∷ ys) behind)
