-- The bytes that say a tenant, a placement, an extended table or a field are those that are written of it.
use Rattle.std.proofs.Common.{◌≡◌, ℕ, suc, ◌<◌, ◌≤◌, ◌==◌, ◌&&◌, Bool, true, false, if◌then◌else◌, List, [], ◌∷◌, ◌++◌, length, drop, slice_index, All, Option, Some, None, option_map, refl, sym, ap, ◌∙◌, arith, length-drop, drop-cons}
use Rattle.std.proofs.lemmas.Bool.{eqb-true}
use Rattle.std.proofs.lemmas.List.{drop-drop, drop_all}
use Rattle.std.proofs.lemmas.List.Elements.{All-drop}
use Rattle.byteorder.specs.Endian.{little_bytes, little_number}
use Rattle.mt_rowfile.specs.Layouts.{body_width}
use Rattle.mt_fold.specs.declared.shape.Shape.{Shape}
use Rattle.mt_fold.specs.declared.shape.Shape.TheVariants.{C1, C2, C3, C4, C5, C6}
use Rattle.mt_fold.specs.Shapes.{shape_table}
use Rattle.mt_catslot.specs.declared.slot.Motion.{Motion}
use Rattle.mt_catslot.specs.declared.slot.Motion.TheVariants.{Settled, Moving}
use Rattle.mt_catslot.specs.declared.slot.CatSlot.{CatSlot}
use Rattle.mt_catslot.specs.declared.slot.CatSlot.TheVariants as slots
use Rattle.mt_catslot.specs.Bytes.{body_of, extended_in, motion_bytes, motion_in, says, shape_in, tenant_in}
use Rattle.mt_catslot.proofs.Numbers.{last, next}
use Rattle.mt_catslot.proofs.Said.{by_table, chosen}

-- bytes
abbrev pub AreBytes : List ℕ → Type 0
AreBytes xs = All (λ byte. byte < 256) xs

-- two numbers of four bytes in front of others
pair_next : (body rest : List ℕ) → 8 ≤ length body → AreBytes body → rest ≡ drop 8 body
    → little_bytes 4 (little_number 4 body) ++ (little_bytes 4 (little_number 4 (drop 4 body)) ++ rest) ≡ body
pair_next body rest long all behind =
    next 4 body _ (omega arith) all
    (next 4 (drop 4 body) rest (omega (arith, length-drop 4 body)) (All-drop (λ byte. byte < 256) 4 body all) (behind ∙ sym (drop-drop 4 4 body)))

-- a tenant
tenant_whole : (body : List ℕ) → length body ≡ 8 → AreBytes body → body_of (tenant_in body) ≡ body
tenant_whole body long all =
    next 4 body _ (omega arith) all (last 4 (drop 4 body) (omega (arith, length-drop 4 body)) (All-drop (λ byte. byte < 256) 4 body all))

-- an extension of a tenant's table
extended_whole : (body : List ℕ) → length body ≡ 16 → AreBytes body → body_of (extended_in body) ≡ body
extended_whole body long all =
    pair_next body _ (omega arith) all
    (next 4 (drop 8 body) _ (omega (arith, length-drop 8 body)) (All-drop (λ byte. byte < 256) 8 body all)
    (last 4 (drop 12 body) (omega (arith, length-drop 12 body)) (All-drop (λ byte. byte < 256) 12 body all) ∙ sym (drop-drop 4 8 body)))

-- how a table lies, by its parts
abbrev pub moves : ℕ → ℕ → ℕ → ℕ → List ℕ
moves moving generation frontier upto = moving ∷ generation ∷ (little_bytes 8 frontier ++ little_bytes 8 upto)

moves_whole : (bytes : List ℕ) → length bytes ≡ 18 → AreBytes bytes
    → moves (slice_index bytes 0) (slice_index bytes 1) (little_number 8 (drop 2 bytes)) (little_number 8 (drop 10 bytes)) ≡ bytes
moves_whole bytes long all =
    let upto = last 8 (drop 10 bytes) (omega (arith, length-drop 10 bytes)) (All-drop (λ byte. byte < 256) 10 bytes all) in
    let frontier = next 8 (drop 2 bytes) _ (omega (arith, length-drop 2 bytes)) (All-drop (λ byte. byte < 256) 2 bytes all) (upto ∙ sym (drop-drop 8 2 bytes)) in
    ap (λ (rest : List ℕ). slice_index bytes 0 ∷ slice_index bytes 1 ∷ rest) frontier
    ∙ ap (λ (rest : List ℕ). slice_index bytes 0 ∷ rest) (sym (drop-cons bytes 1 0 (omega arith)))
    ∙ sym (drop-cons bytes 0 0 (omega arith))

same_moves : (m n g f h u v : ℕ) → m ≡ n → f ≡ h → u ≡ v → moves m g f u ≡ moves n g h v
same_moves m n g f h u v moving frontier upto = rw (moving, frontier, upto) refl

same_motion : (s t : Motion) → Some s ≡ Some t → s ≡ t
same_motion s t e = cc

-- what the parts of a motion say, in which a settled one has no frontier and no end
motion_parts : (m g f u : ℕ) (motion : Motion)
    → (if m == 0 && f == 0 && u == 0 then Some (Settled g) else (if m == 1 then Some (Moving g f u) else None)) ≡ Some motion
    → motion_bytes motion ≡ moves m g f u
motion_parts m g f u motion e = settled (m == 0) (f == 0) (u == 0) refl refl refl e
  where
    moving : (if m == 1 then Some (Moving g f u) else None) ≡ Some motion → motion_bytes motion ≡ moves m g f u
    moving given = chosen m 1 _ _ motion given
        (λ one is. ap motion_bytes (sym (same_motion _ motion is)) ∙ same_moves 1 m g f f u u (sym one) refl refl)
        (λ none. absurd (cc))

    settled : (a b c : Bool) → (m == 0) ≡ a → (f == 0) ≡ b → (u == 0) ≡ c
        → (if a && b && c then Some (Settled g) else (if m == 1 then Some (Moving g f u) else None)) ≡ Some motion
        → motion_bytes motion ≡ moves m g f u
    settled true true true a b c given =
        ap motion_bytes (sym (same_motion _ motion given))
        ∙ same_moves 0 m g 0 f 0 u (sym (eqb-true m 0 a)) (sym (eqb-true f 0 b)) (sym (eqb-true u 0 c))
    settled true true false a b c given = moving given
    settled true false x a b c given = moving given
    settled false x y a b c given = moving given

motion_whole : (bytes : List ℕ) (motion : Motion) → length bytes ≡ 18 → AreBytes bytes → motion_in bytes ≡ Some motion → motion_bytes motion ≡ bytes
motion_whole bytes motion long all said =
    motion_parts (slice_index bytes 0) (slice_index bytes 1) (little_number 8 (drop 2 bytes)) (little_number 8 (drop 10 bytes)) motion said
    ∙ moves_whole bytes long all

-- how a tenant's table lies
same_slot : (s t : CatSlot) → Some s ≡ Some t → s ≡ t
same_slot s t e = cc

placement_found : (found : Option Motion) (body : List ℕ) (slot : CatSlot) → length body ≡ 34 → AreBytes body → motion_in (drop 16 body) ≡ found
    → option_map (λ motion. slots.Placement (little_number 4 body) (little_number 4 (drop 4 body)) (little_number 8 (drop 8 body)) motion) found ≡ Some slot
    → body_of slot ≡ body
placement_found None body slot long all is said = absurd (cc)
placement_found (Some motion) body slot long all is said =
    let behind = motion_whole (drop 16 body) motion (omega (arith, length-drop 16 body)) (All-drop (λ byte. byte < 256) 16 body all) is in
    let made = next 8 (drop 8 body) (motion_bytes motion) (omega (arith, length-drop 8 body)) (All-drop (λ byte. byte < 256) 8 body all) (behind ∙ sym (drop-drop 8 8 body)) in
    ap body_of (sym (same_slot _ slot said)) ∙ pair_next body _ (omega arith) all made

-- the byte of a shape
shape_number : (byte : ℕ) (shape : Shape) → shape_in byte ≡ Some shape → shape_table shape ≡ byte
shape_number byte shape said =
    chosen byte 1 _ _ shape said (λ n e. of C1 n e)
    (λ at2. chosen byte 2 _ _ shape at2 (λ n e. of C2 n e)
    (λ at3. chosen byte 3 _ _ shape at3 (λ n e. of C3 n e)
    (λ at4. chosen byte 4 _ _ shape at4 (λ n e. of C4 n e)
    (λ at5. chosen byte 5 _ _ shape at5 (λ n e. of C5 n e)
    (λ at6. chosen byte 6 _ _ shape at6 (λ n e. of C6 n e) (λ none. absurd (cc)))))))
  where
    of : (known : Shape) → byte ≡ shape_table known → Some known ≡ Some shape → shape_table shape ≡ byte
    of known n e = let same : known ≡ shape = cc in ap shape_table (sym same) ∙ sym n

-- the field of a chunk in which a column lies
byte_next : (n : ℕ) (body rest : List ℕ) → n < length body → rest ≡ drop (suc n) body → slice_index body n ∷ rest ≡ drop n body
byte_next n body rest within behind = ap (λ (xs : List ℕ). slice_index body n ∷ xs) behind ∙ sym (drop-cons body n 0 within)

field_found : (found : Option Shape) (body : List ℕ) (slot : CatSlot) → length body ≡ 16 → AreBytes body → shape_in (slice_index body 13) ≡ found
    → option_map (λ shape. slots.Field (little_number 4 body) (little_number 4 (drop 4 body)) (slice_index body 8) (little_number 4 (drop 9 body)) shape (slice_index body 14) (slice_index body 15)) found ≡ Some slot
    → body_of slot ≡ body
field_found None body slot long all is said = absurd (cc)
field_found (Some shape) body slot long all is said =
    let none : drop 16 body ≡ [] = drop_all 16 body (omega arith) in
    let bytes = byte_next 13 body _ (omega arith) (byte_next 14 body _ (omega arith) (byte_next 15 body [] (omega arith) (sym none))) in
    let shaped = ap (λ (byte : ℕ). byte ∷ slice_index body 14 ∷ slice_index body 15 ∷ []) (shape_number (slice_index body 13) shape is) in
    let column = next 4 (drop 9 body) _ (omega (arith, length-drop 9 body)) (All-drop (λ byte. byte < 256) 9 body all) (shaped ∙ bytes ∙ sym (drop-drop 4 9 body)) in
    ap body_of (sym (same_slot _ slot said)) ∙ pair_next body _ (omega arith) all (byte_next 8 body _ (omega arith) column)

-- what bytes of these tables say is written as they are
pub said_whole : (table : ℕ) (body : List ℕ) (slot : CatSlot) → 10 ≤ table → table ≤ 13 → length body ≡ body_width table → AreBytes body
    → says table body ≡ Some slot → body ≡ body_of slot
said_whole table body slot from upto long all said = by_table table body slot (body ≡ body_of slot) said (record {
  relation = λ t e. absurd (omega arith);
  column = λ t e. absurd (omega arith);
  tenant = λ t e. sym (ap body_of (sym e) ∙ tenant_whole body (wide 10 8 t refl) all);
  placement = λ t e. sym (placement_found _ body slot (wide 11 34 t refl) all refl e);
  extended = λ t e. sym (ap body_of (sym e) ∙ extended_whole body (wide 12 16 t refl) all);
  field = λ t e. sym (field_found _ body slot (wide 13 16 t refl) all refl e);
})
  where
    wide : (number width : ℕ) → table ≡ number → body_width number ≡ width → length body ≡ width
    wide number width t is = long ∙ ap body_width t ∙ is
