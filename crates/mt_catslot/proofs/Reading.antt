-- What is read of a shape and of a name.
use Rattle.std.proofs.Common.{◌≡◌, ◌≢◌, ℕ, ◌+◌, ◌-◌, List, take, drop, slice_index, Option, Some, None, IfSome, IfNone, refl, sym, ap, ◌∙◌, arith}
use Rattle.std.proofs.lemmas.Bool.{ne_eqb}
use Rattle.std.proofs.lemmas.Str.{IsUtf8-from_ascii}
use Rattle.std.proofs.lemmas.Str.Ascii.{IsAscii-from_all}
use Rattle.std.specs.Str.{IsUtf8}
use Rattle.mt_rowfile.specs.Slots.{IsNameField}
use Rattle.mt_fold.specs.declared.shape.Shape.{Shape}
use Rattle.mt_fold.specs.declared.shape.Shape.TheVariants.{C1, C2, C3, C4, C5, C6}
use Rattle.mt_fold.specs.Shapes.{shape_table}
use Rattle.mt_catslot.specs.Bytes.{shape_in}
use Rattle.mt_catslot.proofs.Written.{shape_again}

-- the shape of a table is what its number says
pub shape_found : (found : Option Shape) (byte : ℕ) → IfSome found (λ shape. shape_table shape ≡ byte) → IfNone found ((shape : Shape) → shape_table shape ≢ byte)
    → found ≡ shape_in byte
shape_found (Some shape) byte is none = sym (shape_again shape) ∙ ap shape_in is
shape_found None byte some not =
    let not1 = ne_eqb byte 1 (λ e. not C1 (sym e)) in
    let not2 = ne_eqb byte 2 (λ e. not C2 (sym e)) in
    let not3 = ne_eqb byte 3 (λ e. not C3 (sym e)) in
    let not4 = ne_eqb byte 4 (λ e. not C4 (sym e)) in
    let not5 = ne_eqb byte 5 (λ e. not C5 (sym e)) in
    let not6 = ne_eqb byte 6 (λ e. not C6 (sym e)) in
    rw (not1, not2, not3, not4, not5, not6) refl

-- a name is UTF-8
pub name_utf8 : (bytes : List ℕ) (n : ℕ) → n ≡ slice_index bytes 0 → IsNameField bytes → IsUtf8 (take (1 + n - 1) (drop 1 bytes))
name_utf8 bytes n is name =
    let long : 1 + n - 1 ≡ slice_index bytes 0 = omega arith in
    rw long (IsUtf8-from_ascii (take (slice_index bytes 0) (drop 1 bytes)) (IsAscii-from_all (take (slice_index bytes 0) (drop 1 bytes)) name.ascii))
